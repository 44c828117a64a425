-- What the moves of a held value tell.
use Rattle.std.proofs.Common.{◌≡◌, ◌≢◌, ℕ, ◌+◌, ◌-◌, ◌<◌, ◌⊎◌, inl, inr, List, [], ◌∷◌, length, Option, None, Some, Bool, true, false, cond, map, leb, nat_le, ◌==◌, ◌&&◌, refl, sym, ap, ◌∙◌, arith}
use Rattle.std.specs.List.{cons_option}
use Rattle.std.proofs.lemmas.Bool.Decides.{nat_tests}
use Rattle.std.proofs.lemmas.Bool.{cases_Bool, and_parts}
use Rattle.lf_core.specs.Domain.{IsPlainOf, IsPlainOfNone}
use Rattle.lf_core.specs.declared.marked.Move.{Move}
use Rattle.lf_core.specs.declared.values.Value.{Value}
use Rattle.lf_core.specs.declared.values.Value.TheVariants.{Missing}
use Rattle.lf_escape.specs.Codings.{coding_laws}
use Rattle.lf_format.specs.Keeps.{KeepsSlot, TakesPlain}
use Rattle.lf_format.specs.Kinds.{HoldsKind, plain_text, kind_machine, kind_laws}
use Rattle.lf_format.specs.Slots.{Holds, IsNotAbsence}
use Rattle.lf_format.specs.declared.kind.Kind.{Kind}
use Rattle.lf_format.specs.declared.slot.Slot.{Slot}
use Rattle.lf_format.specs.declared.slot.Absent.{Absent}
use Rattle.lf_machine.specs.Decoding.{told_letter, told_letters, tells_dash, IsOfValue}
use Rattle.lf_machine.specs.Letters.{At, letters_run}
use Rattle.lf_machine.specs.Paths.{Step}
use Rattle.lf_machine.proofs.PieceOrder.{plain-low, quote-low}
use Rattle.lf_machine.specs.Pieces.{machine_of, is_blank, dash_of, blank_of, said_of, slot_run}
use Rattle.lf_machine.proofs.PieceRuns.{one-absence, blank-apart, missing-said, apart-said, apart-quoted, bare-said, framed-said}
use Rattle.lf_machine.specs.Quoted.{opening, closing, HoldsQuoted, quoted_run}
use Rattle.lf_machine.proofs.QuotedRuns.{run-quoted}
use Rattle.lf_machine.proofs.SlotOrder.{letters-high}
use Rattle.lf_machine.specs.Unquoted.{letters, Within, dashed, marks_in, HoldsSaid, said_run}
use Rattle.lf_machine.proofs.PlainRuns.{spell, start-marks, run-letters, true-false}
use Rattle.lf_machine.proofs.LetterMoveLaws.{length-none}
use Rattle.lf_machine.proofs.Joins.{AllLow, AllHigh}

-- whether the first of the marks is that of the dash of absence
abbrev begins_one : List ℕ → Bool
begins_one [] = false
begins_one (k ∷ ks) = k == 1

-- the marks tell the value in the slot
record Tells (s : Slot) (v : Value) (marks : List ℕ) : Type 0 where
  -- a dash of absence is that of `Missing`
  dash : begins_one marks ≡ true → v ≡ Missing
  -- and else the letters are the value's, or there are none under `Blank`
  letters_are : begins_one marks ≡ false → (said_of s.kind v ≡ letters (spell marks)) ⊎ ((v ≡ Missing) × (spell marks ≡ []) × (is_blank s.absent ≡ true))

tells-missing : (s : Slot) (marks : List ℕ) → (begins_one marks ≡ true) ⊎ ((spell marks ≡ []) × (is_blank s.absent ≡ true)) → Tells s Missing marks
tells-missing s marks h = record {
  dash = λ t. refl;
  letters_are = λ f. elim h [ inl t ↦ absurd (true-false t f) | inr k ↦ inr (refl, k.0, k.1) ];
}

tells-letters : (s : Slot) (v : Value) (marks cs : List ℕ) → begins_one marks ≡ false → spell marks ≡ cs → said_of s.kind v ≡ letters cs → Tells s v marks
tells-letters s v marks cs b e is = record {
  dash = λ t. absurd (true-false t b);
  letters_are = λ f. inl (is ∙ ap letters (sym e));
}

high-begins : (ks : List (Step At)) → AllHigh 2 ks → begins_one (marks_in ks) ≡ false
high-begins [] h = refl
high-begins (k ∷ ks) h = grind (arith, nat_tests, h.0)

module _ (s : Slot) (takes : TakesPlain s.kind s.code) where
  abbrev slot : Bool → Slot
  slot quoted = record s { quoted = quoted }

  abbrev marks_of : Bool → Value → List ℕ
  marks_of quoted v = marks_in (slot_run quoted (slot quoted) v)

  -- absence, by what stands for it where no dash does
  missing-told : (d : Bool) (other : List (Step Within)) → spell (marks_in other) ≡ [] → dash_of s.absent s.present ≡ d →
      (dash_of s.absent s.present ≡ true) ⊎ (blank_of s.absent s.present ≡ true) →
      (begins_one (marks_in (cond d (dashed ∷ []) other)) ≡ true) ⊎ ((spell (marks_in (cond d (dashed ∷ []) other)) ≡ []) × (is_blank s.absent ≡ true))
  missing-told true other n e h = inl refl
  missing-told false other n e h = elim h [
    | inl t ↦ absurd (true-false t e)
    | inr b ↦ inr (n, blank-apart s.absent s.present b)
  ]

  plain-letters : (v : Value) (cs : List ℕ) → said_of s.kind v ≡ letters cs → HoldsSaid (machine_of s) (letters cs) → Tells (slot false) v (marks_in (said_run (machine_of s) (letters cs)))
  plain-letters v cs is h =
      let ks = letters_run (machine_of s) (kind_machine s.kind).first cs in
      let high = letters-high (machine_of s) cs (kind_machine s.kind).first h.0 h.1 in
      let same = start-marks (machine_of s) (coding_laws s.code).dash (one-absence s.absent s.present) (blank-apart s.absent s.present) ks in
      tells-letters (slot false) v (marks_in (said_run (machine_of s) (letters cs))) cs
      (ap begins_one same ∙ high-begins ks high)
      (run-letters (machine_of s) (coding_laws s.code).dash (one-absence s.absent s.present) (blank-apart s.absent s.present) cs h)
      is

  quoted-letters : (v : Value) (cs : List ℕ) → said_of s.kind v ≡ letters cs → HoldsQuoted (machine_of s) (letters cs) → Tells (slot true) v (marks_in (quoted_run (machine_of s) (letters cs)))
  quoted-letters v cs is h =
      tells-letters (slot true) v (marks_in (quoted_run (machine_of s) (letters cs))) cs refl
      (run-quoted (machine_of s) (one-absence s.absent s.present) (blank-apart s.absent s.present) cs h)
      is

  slot-tells : (quoted : Bool) (v : Value) → Holds (slot quoted) v → Tells (slot quoted) v (marks_of quoted v)
  slot-tells false Missing h = tells-missing (slot false) (marks_of false Missing) (missing-told (dash_of s.absent s.present) [] refl refl (missing-said s.absent s.present h))
  slot-tells false v h = plain-letters v (plain_text s.kind v) refl (bare-said s takes v h)
  slot-tells true Missing h = tells-missing (slot true) (marks_of true Missing) (missing-told (dash_of s.absent s.present) (opening ∷ closing ∷ []) refl refl (missing-said s.absent s.present h))
  slot-tells true v h = quoted-letters v (plain_text s.kind v) refl (framed-said s takes v h)

  slot-low : (quoted : Bool) (v : Value) → Holds (slot quoted) v → AllLow 259 (slot_run quoted (slot quoted) v)
  slot-low false v h = plain-low s (said_of s.kind v) (bare-said s takes v h)
  slot-low true v h = quote-low s (said_of s.kind v) (framed-said s takes v h)

marks-tell : (s : Slot) (v : Value) → KeepsSlot s → Holds s v → Tells s v (marks_in (slot_run s.quoted s v))
marks-tell s v k h = slot-tells s k.takes s.quoted v h

marks-low : (s : Slot) (v : Value) → KeepsSlot s → Holds s v → AllLow 259 (slot_run s.quoted s v)
marks-low s v k h = slot-low s k.takes s.quoted v h

-- Marks that are raised, and those of the moves.
abbrev pub raised : ℕ → List ℕ → List ℕ
raised above ks = map (λ k. above + k) ks

abbrev pub move_marks : List Move → List ℕ
move_marks moves = map (λ m. m.mark) moves

dash-same : (above : ℕ) (moves : List Move) (ks : List ℕ) → move_marks moves ≡ raised above ks → tells_dash above moves ≡ begins_one ks
dash-same above [] [] e = refl
dash-same above [] (k ∷ ks) e = cc
dash-same above (m ∷ moves) [] e = cc
dash-same above (m ∷ moves) (k ∷ ks) e = let h : m.mark ≡ above + k = cc in grind (arith, nat_tests, h)

letter-told : (above mark k : ℕ) → mark ≡ above + k → k < 259 → told_letter above mark ≡ cond (leb 3 k) (Some (k - 3)) None
letter-told above mark k e l =
    let z : mark - above ≡ k = omega (arith, e) in
    let t : nat_le k 258 ≡ true = grind (arith, nat_tests) in
    elim (cases_Bool (leb 3 k)) [
      | inl b ↦ rw (z, t, b) refl
      | inr b ↦ rw (z, t, b) refl
    ]

told-more : (b : Bool) (o : Option ℕ) (c : ℕ) (xs : List ℕ) → o ≡ cond b (Some c) None → cons_option o xs ≡ cond b (c ∷ xs) xs
told-more true o c xs e = ap (λ (x : Option ℕ). cons_option x xs) e
told-more false o c xs e = ap (λ (x : Option ℕ). cons_option x xs) e

letters-same : (above : ℕ) (moves : List Move) (run : List (Step Within)) → move_marks moves ≡ raised above (marks_in run) → AllLow 259 run → told_letters above moves ≡ spell (marks_in run)
letters-same above [] [] e l = refl
letters-same above [] (k ∷ run) e l = cc
letters-same above (m ∷ moves) [] e l = cc
letters-same above (m ∷ moves) (k ∷ run) e l =
    let h : m.mark ≡ above + k.mark = cc in
    let t : move_marks moves ≡ raised above (marks_in run) = cc in
    let r = letters-same above moves run t l.1 in
    told-more (leb 3 k.mark) (told_letter above m.mark) (k.mark - 3) (told_letters above moves) (letter-told above m.mark k.mark h l.0)
    ∙ ap (λ (xs : List ℕ). cond (leb 3 k.mark) ((k.mark - 3) ∷ xs) xs) r

-- What the tests of a slot's moves say of the value.
module _ (s : Slot) (above : ℕ) (moves : List Move) (v : Value) (is : IsOfValue s above moves v) where
  tells : Tells s v (marks_in (slot_run s.quoted s v))
  tells = marks-tell s v is.kept is.held

  told : told_letters above moves ≡ spell (marks_in (slot_run s.quoted s v))
  told = letters-same above moves (slot_run s.quoted s v) is.marks (marks-low s v is.kept is.held)

  pub dash-missing : tells_dash above moves ≡ true → Missing ≡ v
  dash-missing t = sym (tells.dash (sym (dash-same above moves (marks_in (slot_run s.quoted s v)) is.marks) ∙ t))

  said : tells_dash above moves ≡ false → (said_of s.kind v ≡ letters (told_letters above moves)) ⊎ ((v ≡ Missing) × (told_letters above moves ≡ []) × (is_blank s.absent ≡ true))
  said f = elim (tells.letters_are (sym (dash-same above moves (marks_in (slot_run s.quoted s v)) is.marks) ∙ f)) [
    | inl e ↦ inl (e ∙ ap letters (sym told))
    | inr e ↦ inr (e.0, told ∙ e.1, e.2)
  ]

said-plain : (k : Kind) (v : Value) (cs : List ℕ) → said_of k v ≡ letters cs → (v ≡ Missing → ⊥) × (plain_text k v ≡ cs)
said-plain k Missing cs e = absurd cc
said-plain k v cs e = (λ z. cc, cc)

blank-text : (a : Absent) (quoted : Bool) (plain : List ℕ) → IsNotAbsence a quoted plain → is_blank a ≡ true → plain ≢ []
blank-text a false plain h = (apart-said a plain h).1
blank-text a true plain h = apart-quoted a plain h

blank-held : (s : Slot) (v : Value) → (v ≡ Missing → ⊥) → Holds s v → HoldsKind s.kind v × (is_blank s.absent ≡ true → plain_text s.kind v ≢ [])
blank-held s Missing p h = absurd (p refl)
blank-held s v p h = (h.0, blank-text s.absent s.quoted (plain_text s.kind v) h.1)

-- no letters under `Blank`
pub blank-missing : (s : Slot) (above : ℕ) (moves : List Move) (v : Value) → IsOfValue s above moves v → tells_dash above moves ≡ false → told_letters above moves ≡ [] → is_blank s.absent ≡ true → Missing ≡ v
blank-missing s above moves v is f none blank =
    elim (said s above moves v is f) [
      | inl e ↦
          let p = said-plain s.kind v (told_letters above moves) e in
          absurd ((blank-held s v p.0 is.held).1 blank (p.1 ∙ none))
      | inr e ↦ sym e.0
    ]

-- the letters are those of a held value
pub letters-held : (s : Slot) (above : ℕ) (moves : List Move) (v : Value) → IsOfValue s above moves v → tells_dash above moves ≡ false → (told_letters above moves ≡ [] → is_blank s.absent ≡ true → ⊥) → HoldsKind s.kind v × (plain_text s.kind v ≡ told_letters above moves)
letters-held s above moves v is f some =
    elim (said s above moves v is f) [
      | inl e ↦ let p = said-plain s.kind v (told_letters above moves) e in ((blank-held s v p.0 is.held).0, p.1)
      | inr e ↦ absurd (some e.1 e.2)
    ]

-- the value that is read is the value
pub read-value : (s : Slot) (above : ℕ) (moves : List Move) (v w : Value) (text : List ℕ) → IsOfValue s above moves v → tells_dash above moves ≡ false → (told_letters above moves ≡ [] → is_blank s.absent ≡ true → ⊥) → text ≡ told_letters above moves → IsPlainOf (HoldsKind s.kind) (plain_text s.kind) text w → w ≡ v
read-value s above moves v w text is f some e read =
    let laws = kind_laws s.kind in
    let h = letters-held s above moves v is f some in
    laws.distinct w v read.0 h.0 (read.1 ∙ e ∙ sym h.1)

-- and some value is read
pub read-some : (s : Slot) (above : ℕ) (moves : List Move) (v : Value) (text : List ℕ) → IsOfValue s above moves v → tells_dash above moves ≡ false → (told_letters above moves ≡ [] → is_blank s.absent ≡ true → ⊥) → text ≡ told_letters above moves → IsPlainOfNone (HoldsKind s.kind) (plain_text s.kind) text → ⊥
read-some s above moves v text is f some e none =
    let h = letters-held s above moves v is f some in
    none v h.0 (h.1 ∙ sym e)

-- what the test for no letters under `Blank` says
pub bare-test : (e b k : Bool) (xs cs : List ℕ) → e ≡ (length xs == 0) → xs ≡ cs → b ≡ k → e && b ≡ true → (cs ≡ []) × (k ≡ true)
bare-test e b k xs cs is same blank t =
    (sym same ∙ length-none xs (sym is ∙ (and_parts e b t).0), sym blank ∙ (and_parts e b t).1)

pub some-test : (e b k : Bool) (xs cs : List ℕ) → e ≡ (length xs == 0) → xs ≡ cs → b ≡ k → e && b ≡ false → cs ≡ [] → k ≡ true → ⊥
some-test e b k xs cs is same blank f none yes_blank =
    let z : e ≡ true = is ∙ ap (λ (ys : List ℕ). length ys == 0) (same ∙ none) in
    let g : b ≡ true = blank ∙ yes_blank in
    let t : e && b ≡ true = rw (z, g) refl in
    true-false t f
