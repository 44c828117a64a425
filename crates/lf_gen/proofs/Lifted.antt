-- What comes before another by its plain text isn't above it in a slot.
use Rattle.std.proofs.Common.{◌≡◌, ℕ, ◌⊎◌, inl, inr, List, [], ◌∷◌, ◌++◌, Bool, true, false, Ordering, nat_cmp, refl, sym, ap, subst, ◌∙◌, Contains}
use Rattle.std.specs.Ordering.{ordering_then, is_gt}
use Rattle.std.proofs.lemmas.Bool.{cases_eq}
use Rattle.std.proofs.lemmas.List.Elements.{Contains-append_left, Contains-push}
use Rattle.lf_core.specs.declared.values.Value.{Value}
use Rattle.lf_core.specs.declared.values.Value.TheVariants.{Missing, Num, Text, Moment, Day, Clock}
use Rattle.lf_escape.specs.Codes.{coded}
use Rattle.lf_escape.specs.Codings.{coding_word}
use Rattle.lf_format.specs.HeldLaws.{IsPresent, held-present, parts-hold}
use Rattle.lf_format.specs.Kinds.{plain_text}
use Rattle.lf_format.specs.Slots.{Holds, HoldsPresent, IsNotAbsence, in_quotes}
use Rattle.lf_format.specs.declared.slot.Slot.{Slot}
use Rattle.lf_format.specs.declared.slot.Absent.{Absent}
use Rattle.lf_format.specs.declared.slot.Absent.TheVariants as absent
use Rattle.lf_gen.specs.Compared.{Key, key_of, key_cmp, IsNotAbove, AreEnough}
use Rattle.lf_gen.specs.First.{bytes_cmp, LineLt, Before, AreFirst}
use Rattle.lf_gen.proofs.Orders.{line-less, line-same, after-front, lt-tail, then-not_above, nat-same}
use Rattle.lf_gen.proofs.LeastOfAll.{above-none}

-- the key of a present value with this plain text
abbrev key_with : Slot → List ℕ → Key
key_with slot plain = record { line = in_quotes slot.quoted (coded (coding_word slot.code) plain); order = plain; rank = 1 }

key-present : (slot : Slot) (v : Value) → IsPresent v → key_of slot v ≡ key_with slot (plain_text slot.kind v)
key-present slot Missing p = absurd p
key-present slot (Num n) p = refl
key-present slot (Text t) p = refl
key-present slot (Moment m) p = refl
key-present slot (Day d) p = refl
key-present slot (Clock s) p = refl

quotes-lt : (quoted : Bool) (a b : List ℕ) → LineLt a b → LineLt (in_quotes quoted a) (in_quotes quoted b)
quotes-lt false a b h = h
quotes-lt true a b h = after-front (34 ∷ []) (a ++ 34 ∷ []) (b ++ 34 ∷ []) (lt-tail a b (34 ∷ []) (34 ∷ []) h refl)

keys-before : (slot : Slot) (p t : List ℕ) → Before (coding_word slot.code) p t → is_gt (key_cmp (key_with slot p) (key_with slot t)) ≡ false
keys-before slot p t (inl less) =
    let word = coding_word slot.code in
    let line = line-less (in_quotes slot.quoted (coded word p)) (in_quotes slot.quoted (coded word t)) (quotes-lt slot.quoted (coded word p) (coded word t) less) in
    ap (λ (o : Ordering). is_gt (ordering_then o (ordering_then (bytes_cmp p t) (nat_cmp 1 1)))) line
keys-before slot p t (inr same) =
    let word = coding_word slot.code in
    let line = line-same (in_quotes slot.quoted (coded word p)) (in_quotes slot.quoted (coded word t)) (ap (in_quotes slot.quoted) same.0) in
    ap (λ (o : Ordering). is_gt (ordering_then o (ordering_then (bytes_cmp p t) (nat_cmp 1 1)))) line
    ∙ then-not_above (bytes_cmp p t) (nat_cmp 1 1) same.1 (ap is_gt (nat-same 1))

pub before-not_above : (slot : Slot) (v u : Value) → IsPresent v → IsPresent u → Before (coding_word slot.code) (plain_text slot.kind v) (plain_text slot.kind u) → IsNotAbove slot v u
before-not_above slot v u p q h =
    subst (λ (k : Key). is_gt (key_cmp k (key_of slot u)) ≡ false) (sym (key-present slot v p))
    (subst (λ (k : Key). is_gt (key_cmp (key_with slot (plain_text slot.kind v)) k) ≡ false) (sym (key-present slot u q))
    (keys-before slot (plain_text slot.kind v) (plain_text slot.kind u) h))

with_present : (slot : Slot) (values : List Value) → AreFirst slot.kind slot.code values → (v : Value) → HoldsPresent slot v →
    (other : Value) × Contains (values ++ Missing ∷ []) other × Holds slot other × IsNotAbove slot other v
with_present slot values first v h =
    let other = first slot.absent slot.quoted v h in
    let p = held-present slot.kind other.0 other.2.0 in (
      other.0,
      Contains-append_left values (Missing ∷ []) other.0 other.1,
      parts-hold slot other.0 p other.2.0 other.2.1,
      before-not_above slot other.0 v p (held-present slot.kind v h.0) other.3,
    )

-- These and `Missing` are enough.
pub first-enough : (slot : Slot) (values : List Value) → AreFirst slot.kind slot.code values → AreEnough slot (values ++ Missing ∷ [])
first-enough slot values first Missing h = (Missing, Contains-push values Missing, h, above-none slot Missing)
first-enough slot values first (Num n) h = with_present slot values first (Num n) h
first-enough slot values first (Text t) h = with_present slot values first (Text t) h
first-enough slot values first (Moment m) h = with_present slot values first (Moment m) h
first-enough slot values first (Day d) h = with_present slot values first (Day d) h
first-enough slot values first (Clock s) h = with_present slot values first (Clock s) h

-- A text is taken for absence only where it is a dash or empty.
pub absence_cases : (absent : Absent) (quoted : Bool) (plain : List ℕ) → IsNotAbsence absent quoted plain ⊎ (plain ≡ 45 ∷ []) ⊎ (plain ≡ [])
absence_cases absent.No quoted plain = inl tt
absence_cases absent.DashTwo quoted plain = inl tt
absence_cases absent.Dash true plain = inl tt
absence_cases absent.Dash false [] = inr (inr refl)
absence_cases absent.Dash false (c ∷ d ∷ rest) = inl (λ e. cc)
absence_cases absent.Dash false (c ∷ []) = elim (cases_eq c 45) [
  | inl same ↦ inr (inl (ap (λ (x : ℕ). x ∷ []) same))
  | inr other ↦ inl (λ e. let bad : c ≡ 45 = cc in other bad)
]
absence_cases absent.Blank quoted [] = inr (inr refl)
absence_cases absent.Blank quoted (c ∷ rest) = inl (λ e. cc)
