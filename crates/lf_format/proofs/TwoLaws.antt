-- What stays, and what a slot holds besides, where absence is told from a lone dash.
use Rattle.std.proofs.Common.{◌≡◌, ◌≢◌, ℕ, ◌+◌, Bool, true, false, List, [], ◌∷◌, ◌++◌, length, take, drop, refl, sym, ap, subst, ◌∙◌, arith, ◌⊎◌, inl, inr}
use Rattle.std.specs.Prelude.{◌↔◌}
use Rattle.lf_core.specs.declared.values.Value.{Value}
use Rattle.lf_core.specs.declared.values.Value.TheVariants.{Missing}
use Rattle.lf_format.specs.declared.slot.Slot.{Slot as OneSlot}
use Rattle.lf_format.specs.declared.slot.Absent.{Absent}
use Rattle.lf_format.specs.declared.slot.Absent.TheVariants.{No, Dash, DashTwo, Blank}
use Rattle.lf_format.specs.declared.format.Piece.{Piece}
use Rattle.lf_format.specs.declared.format.Piece.TheVariants.{Literal, Slot}
use Rattle.lf_format.specs.Kinds.{plain_text}
use Rattle.lf_format.specs.Slots.{holds_missing, IsNotAbsence, Holds, missing_text, slot_text}
use Rattle.lf_format.specs.Lines.{IsRecordOf, line_text, Prints}
use Rattle.lf_format.specs.Keeps.{EachKept, AreJoined, slots_in, literal_bytes, KeepsFormat}
use Rattle.lf_format.specs.Size.{pieces_size, piece_size}
use Rattle.lf_format.specs.HeldLaws.{held-present, parts-hold}
use Rattle.lf_format.specs.Two.{absence_with_two, slot_with_two, pieces_with_two, IsLoneDash}
use Rattle.lf_format.proofs.Deciding.{texts-cases}

-- ---- what a slot holds

missing_same : (a : Absent) (present : Bool) → holds_missing (absence_with_two a) present ≡ holds_missing a present
missing_same No present = refl
missing_same Dash present = refl
missing_same DashTwo present = refl
missing_same Blank present = refl

still_apart : (a : Absent) (quoted : Bool) (plain : List ℕ) → IsNotAbsence a quoted plain → IsNotAbsence (absence_with_two a) quoted plain
still_apart No quoted plain h = h
still_apart Dash quoted plain h = tt
still_apart DashTwo quoted plain h = h
still_apart Blank quoted plain h = h

-- The value is held after the change because it was held before.
still_held : (slot : OneSlot) (v : Value) → Holds slot v → Holds (slot_with_two slot) v
still_held slot Missing h = missing_same slot.absent slot.present ∙ h
still_held slot v h = (h.0, still_apart slot.absent slot.quoted (plain_text slot.kind v) h.1)

dash_held : (slot : OneSlot) (v : Value) → IsLoneDash slot v → Holds (slot_with_two slot) v
dash_held slot v d =
    parts-hold (slot_with_two slot) v (held-present slot.kind v d.held) d.held
    (subst (λ (a : Absent). IsNotAbsence (absence_with_two a) slot.quoted (plain_text slot.kind v)) (sym d.dash) tt)

-- the plain text is a lone dash that stands for absence
record IsTaken (a : Absent) (quoted : Bool) (plain : List ℕ) : Type 0 where
  dash : a ≡ Dash
  unquoted : quoted ≡ false
  is : plain ≡ 45 ∷ []

apart_or_taken : (a : Absent) (quoted : Bool) (plain : List ℕ) → IsNotAbsence (absence_with_two a) quoted plain → IsNotAbsence a quoted plain ⊎ IsTaken a quoted plain
apart_or_taken No quoted plain h = inl tt
apart_or_taken Dash true plain h = inl tt
apart_or_taken Dash false plain h = elim (texts-cases plain (45 ∷ [])) [
  | inl is ↦ inr (record { dash = refl; unquoted = refl; is = is })
  | inr other ↦ inl other
]
apart_or_taken DashTwo quoted plain h = inl tt
apart_or_taken Blank quoted plain h = inl h

held_or_dash : (slot : OneSlot) (v : Value) → Holds (slot_with_two slot) v → Holds slot v ⊎ IsLoneDash slot v
held_or_dash slot Missing h = inl (sym (missing_same slot.absent slot.present) ∙ h)
held_or_dash slot v h = elim (apart_or_taken slot.absent slot.quoted (plain_text slot.kind v) h.1) [
  | inl other ↦ inl (h.0, other)
  | inr taken ↦ inr (record { dash = taken.dash; unquoted = taken.unquoted; held = h.0; plain = taken.is })
]

held_by_either : (slot : OneSlot) (v : Value) → Holds slot v ⊎ IsLoneDash slot v → Holds (slot_with_two slot) v
held_by_either slot v (inl h) = still_held slot v h
held_by_either slot v (inr d) = dash_held slot v d

pub held_with_two : (slot : OneSlot) (v : Value) → Holds (slot_with_two slot) v ↔ (Holds slot v ⊎ IsLoneDash slot v)
held_with_two slot v = (held_or_dash slot v, held_by_either slot v)

-- ---- what a record prints

missing_text_same : (a : Absent) (quoted : Bool) → missing_text (absence_with_two a) quoted ≡ missing_text a quoted
missing_text_same No quoted = refl
missing_text_same Dash quoted = refl
missing_text_same DashTwo quoted = refl
missing_text_same Blank quoted = refl

text_same : (slot : OneSlot) (v : Value) → slot_text (slot_with_two slot) v ≡ slot_text slot v
text_same slot Missing = missing_text_same slot.absent slot.quoted
text_same slot v = refl

record_still : (pieces : List Piece) (rec : List Value) → IsRecordOf pieces rec → IsRecordOf (pieces_with_two pieces) rec
record_still [] [] h = tt
record_still [] (v ∷ rec) h = absurd h
record_still (Literal text ∷ pieces) rec h = record_still pieces rec h
record_still (Slot slot ∷ pieces) [] h = absurd h
record_still (Slot slot ∷ pieces) (v ∷ rec) h = (still_held slot v h.0, record_still pieces rec h.1)

line_same : (pieces : List Piece) (rec : List Value) → line_text (pieces_with_two pieces) rec ≡ line_text pieces rec
line_same [] rec = refl
line_same (Literal text ∷ pieces) rec = ap (λ (line : List ℕ). text ++ line) (line_same pieces rec)
line_same (Slot slot ∷ pieces) [] = refl
line_same (Slot slot ∷ pieces) (v ∷ rec) = ap (λ (line : List ℕ). slot_text (slot_with_two slot) v ++ line) (line_same pieces rec) ∙ ap (λ (text : List ℕ). text ++ line_text pieces rec) (text_same slot v)

pub still_printed : (pieces : List Piece) (rec : List Value) (line : List ℕ) → Prints pieces rec line → Prints (pieces_with_two pieces) rec line
still_printed pieces rec line p = record { held = record_still pieces rec p.held; printed = line_same pieces rec ∙ p.printed }

-- ---- what the format keeps

each_still : (pieces : List Piece) → EachKept pieces → EachKept (pieces_with_two pieces)
each_still [] h = tt
each_still (Literal text ∷ pieces) h = (h.0, each_still pieces h.1)
each_still (Slot slot ∷ pieces) h =
    let some = h.0.some in
    (record { fits = h.0.fits; takes = h.0.takes; some = (some.0, still_held slot some.0 some.1) }, each_still pieces h.1)

joined_still : (pieces : List Piece) → AreJoined pieces → AreJoined (pieces_with_two pieces)
joined_still [] h = tt
joined_still (Slot slot ∷ pieces) h = joined_still pieces h
joined_still (Literal text ∷ []) h = tt
joined_still (Literal text ∷ Literal more ∷ pieces) h = absurd h
joined_still (Literal text ∷ Slot slot ∷ pieces) h = joined_still pieces h

some_still : (pieces : List Piece) → pieces ≢ [] → pieces_with_two pieces ≢ []
some_still [] h e = h refl
some_still (Literal text ∷ pieces) h e = cc
some_still (Slot slot ∷ pieces) h e = cc

slots_same : (pieces : List Piece) → length (slots_in (pieces_with_two pieces)) ≡ length (slots_in pieces)
slots_same [] = refl
slots_same (Literal text ∷ pieces) = slots_same pieces
slots_same (Slot slot ∷ pieces) = let e = slots_same pieces in omega (arith, e)

bytes_same : (pieces : List Piece) → literal_bytes (pieces_with_two pieces) ≡ literal_bytes pieces
bytes_same [] = refl
bytes_same (Literal text ∷ pieces) = ap (λ (n : ℕ). length text + n) (bytes_same pieces)
bytes_same (Slot slot ∷ pieces) = bytes_same pieces

pub keeps_with_two : (pieces : List Piece) → KeepsFormat pieces → KeepsFormat (pieces_with_two pieces)
keeps_with_two pieces h = record {
  each = each_still pieces h.each;
  joined = joined_still pieces h.joined;
  some = some_still pieces h.some;
  few = let e = slots_same pieces in let f = h.few in omega (arith, e, f);
  short = let e = bytes_same pieces in let f = h.short in omega (arith, e, f);
}

-- ---- the same of a list of pieces that is written over

length_same : (pieces : List Piece) → length (pieces_with_two pieces) ≡ length pieces
length_same [] = refl
length_same (Literal text ∷ pieces) = let e = length_same pieces in omega (arith, e)
length_same (Slot slot ∷ pieces) = let e = length_same pieces in omega (arith, e)

written_over : (new old : List Piece) → length new ≡ length old → take (length old) (new ++ drop (length new) old) ≡ new
written_over [] [] e = refl
written_over [] (piece ∷ old) e = absurd (omega (arith, e))
written_over (piece ∷ new) [] e = absurd (omega (arith, e))
written_over (piece ∷ new) (other ∷ old) e = let rest : length new ≡ length old = omega (arith, e) in ap (λ (pieces : List Piece). piece ∷ pieces) (written_over new old rest)

pub keeps_written : (n : ℕ) (new old : List Piece) → new ≡ pieces_with_two old → length old ≡ n → KeepsFormat old → KeepsFormat (take n (new ++ drop (length new) old))
keeps_written n new old same long kept =
    let all : take (length old) (new ++ drop (length new) old) ≡ new = written_over new old (ap length same ∙ length_same old) in
    subst (λ (m : ℕ). KeepsFormat (take m (new ++ drop (length new) old))) long (subst KeepsFormat (sym (all ∙ same)) (keeps_with_two old kept))

-- ---- the size

size_same : (pieces : List Piece) → pieces_size (pieces_with_two pieces) ≡ pieces_size pieces
size_same [] = refl
size_same (Literal text ∷ pieces) = ap (λ (n : ℕ). length text + n) (size_same pieces)
size_same (Slot slot ∷ pieces) = ap (λ (n : ℕ). piece_size (Slot slot) + n) (size_same pieces)

pub size_with_two : (pieces : List Piece) → pieces_size (pieces_with_two pieces) + 2 ≡ pieces_size pieces + 2
size_with_two pieces = ap (λ (n : ℕ). n + 2) (size_same pieces)
