-- A value that is read isn't taken for absence.
use Rattle.std.proofs.Common.{◌≡◌, Bool, true, false, ℕ, List, [], ◌∷◌, ◌++◌, refl, sym, ap, subst, ◌∙◌, append_assoc}
use Rattle.lf_core.specs.declared.values.Value.{Value}
use Rattle.lf_core.specs.declared.values.Value.TheVariants.{Missing}
use Rattle.lf_escape.specs.Codes.{coded}
use Rattle.lf_escape.specs.Codings.{coding_word}
use Rattle.lf_escape.specs.declared.coding.Coding.{Coding}
use Rattle.lf_escape.specs.declared.coding.Coding.TheVariants.{Raw, ApacheHex, NginxHex, NginxJson, HaHash, HaCapture, HaEscape, PlusSpace, Doubled}
use Rattle.lf_format.specs.HeldLaws.{IsPresent, held-present, parts-hold}
use Rattle.lf_format.specs.Kinds.{plain_text}
use Rattle.lf_format.specs.Slots.{IsNotAbsence, coded_text, holds_missing, in_quotes, missing_text, slot_text}
use Rattle.lf_format.specs.declared.slot.Absent.{Absent}
use Rattle.lf_format.specs.declared.slot.Absent.TheVariants.{No, Dash, DashTwo, Blank}
use Rattle.lf_format.specs.declared.slot.Slot.{Slot}
use Rattle.std.specs.Prelude.{codes}
use Rattle.lf_scan.specs.Reads.{ReadsKind, ReadsSlot}

-- The dash is written as itself.
dash-word : (code : Coding) → coding_word code 45 ≡ 45 ∷ []
dash-word Raw = refl
dash-word ApacheHex = refl
dash-word NginxHex = refl
dash-word NginxJson = refl
dash-word HaHash = refl
dash-word HaCapture = refl
dash-word HaEscape = refl
dash-word PlusSpace = refl
dash-word Doubled = refl

dash-coded : (code : Coding) (plain : List ℕ) → plain ≡ 45 ∷ [] → coded (coding_word code) plain ≡ 45 ∷ []
dash-coded code plain e = ap (λ (t : List ℕ). coded (coding_word code) t) e ∙ ap (λ (w : List ℕ). w ++ []) (dash-word code)

-- What is no absence as it is written is none as a plain text.
plain-present : (code : Coding) (absent : Absent) (quoted : Bool) (plain : List ℕ) → IsNotAbsence absent quoted (coded (coding_word code) plain) → IsNotAbsence absent quoted plain
plain-present code No quoted plain h = tt
plain-present code Dash true plain h = tt
plain-present code Dash false plain h = λ e. h (dash-coded code plain e)
plain-present code DashTwo quoted plain h = tt
plain-present code Blank quoted plain h = λ e. h (ap (λ (t : List ℕ). coded (coding_word code) t) e)

present-text : (slot : Slot) (v : Value) → IsPresent v → slot_text slot v ≡ in_quotes slot.quoted (coded_text slot v)
present-text slot Missing p = absurd p
present-text slot v p = refl

-- A value is read, with its quotes.
reads-present : (slot : Slot) (text left whole rest old new : List ℕ) (r : ReadsKind slot.kind slot.code text left old new) → IsNotAbsence slot.absent slot.quoted (coded_text slot r.value)
    → whole ≡ in_quotes slot.quoted (coded_text slot r.value) ++ rest → ReadsSlot slot whole rest old new
reads-present slot text left whole rest old new r present parts =
    let here = held-present slot.kind r.value r.held in
    record {
      value = r.value;
      held = parts-hold slot r.value here r.held (plain-present slot.code slot.absent slot.quoted (plain_text slot.kind r.value) present);
      printed = parts ∙ ap (λ (s : List ℕ). s ++ rest) (sym (present-text slot r.value here));
      added = r.added;
    }

-- A value without quotes is read.
pub reads-bare : (slot : Slot) (text left old new : List ℕ) → slot.quoted ≡ false → ReadsKind slot.kind slot.code text left old new
    → ((span : List ℕ) → text ≡ span ++ left → IsNotAbsence slot.absent false span) → ReadsSlot slot text left old new
reads-bare slot text left old new q r present =
    let span = coded_text slot r.value in
    reads-present slot text left text left old new r
    (subst (λ (b : Bool). IsNotAbsence slot.absent b span) (sym q) (present span r.written))
    (r.written ∙ ap (λ (b : Bool). in_quotes b span ++ left) (sym q))

-- A value in quotes is read.
pub reads-quoted : (slot : Slot) (text inner more left old new : List ℕ) → slot.quoted ≡ true → text ≡ 34 ∷ inner → ReadsKind slot.kind slot.code inner more old new
    → more ≡ 34 ∷ left → ((span : List ℕ) → inner ≡ span ++ more → IsNotAbsence slot.absent true span) → ReadsSlot slot text left old new
reads-quoted slot text inner more left old new q t r m present =
    let span = coded_text slot r.value in
    let parts : text ≡ in_quotes true span ++ left = t ∙ ap (λ (s : List ℕ). 34 ∷ s) (r.written ∙ ap (λ (s : List ℕ). span ++ s) m ∙ sym (append_assoc span (34 ∷ []) left)) in
    reads-present slot inner more text left old new r
    (subst (λ (b : Bool). IsNotAbsence slot.absent b span) (sym q) (present span r.written))
    (parts ∙ ap (λ (b : Bool). in_quotes b span ++ left) (sym q))

-- Absence is read.
pub reads-missing : (slot : Slot) (text left old new : List ℕ) → holds_missing slot.absent slot.present ≡ true → text ≡ missing_text slot.absent slot.quoted ++ left → new ≡ old ++ codes "null"
    → ReadsSlot slot text left old new
reads-missing slot text left old new held parts added = record { value = Missing; held = held; printed = parts; added = added }
