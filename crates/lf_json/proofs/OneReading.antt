-- A line has one reading, and no other.
use Rattle.std.proofs.Common.{◌≡◌, ◌≢◌, ℕ, zero, suc, ◌+◌, List, [], ◌∷◌, length, Option, Some, None, refl, sym, ap, ap₂, subst, ◌∙◌, ◌⊎◌, inl, inr, arith}
use Rattle.std.specs.Prelude.{Result, Ok, Err, MatchOption}
use Rattle.std.proofs.lemmas.Bool.{cases_eq}
use Rattle.serde_json.specs.Data.{Data}
use Rattle.lf_core.specs.declared.values.Value.{Value}
use Rattle.lf_format.specs.declared.format.Piece.{Piece}
use Rattle.lf_format.specs.declared.slot.Slot.{Slot}
use Rattle.lf_format.specs.Keeps.{slots_in}
use Rattle.lf_format.specs.Kinds.{value_kind}
use Rattle.lf_format.specs.Slots.{Holds}
use Rattle.lf_format.proofs.Deciding.{holds_decided}
use Rattle.lf_json.specs.declared.bad_record.BadRecord.{BadRecord}
use Rattle.lf_json.specs.declared.bad_record.BadRecord.TheVariants.{NotJson, WrongCount, WrongValue, OutOfMemory}
use Rattle.lf_json.proofs.Standing.{value-same, value_decided}
use Rattle.lf_json.specs.Reading.{array_of, StandsFor, StandsForNone, StandForAll, IsFirstWrong, ReadsArray, ReadsJson}

same_value : (slot : Slot) (json : Data) (v w : Value) → StandsFor slot json v → StandsFor slot json w → v ≡ w
same_value slot json v w a b = value-same (value_kind slot.kind) json v w a.is b.is

stand-length : (slots : List Slot) (jsons : List Data) (rec : List Value) → StandForAll slots jsons rec → length jsons ≡ length slots
stand-length [] [] rec h = refl
stand-length [] (json ∷ jsons) rec h = absurd h
stand-length (slot ∷ slots) [] rec h = absurd h
stand-length (slot ∷ slots) (json ∷ jsons) [] h = absurd h
stand-length (slot ∷ slots) (json ∷ jsons) (v ∷ rec) h = omega (arith, stand-length slots jsons rec h.1)

stand-same : (slots : List Slot) (jsons : List Data) (one other : List Value) → StandForAll slots jsons one → StandForAll slots jsons other → one ≡ other
stand-same [] [] [] [] h k = refl
stand-same [] [] [] (w ∷ other) h k = absurd k
stand-same [] [] (v ∷ one) other h k = absurd h
stand-same [] (json ∷ jsons) one other h k = absurd h
stand-same (slot ∷ slots) [] one other h k = absurd h
stand-same (slot ∷ slots) (json ∷ jsons) [] other h k = absurd h
stand-same (slot ∷ slots) (json ∷ jsons) (v ∷ one) [] h k = absurd k
stand-same (slot ∷ slots) (json ∷ jsons) (v ∷ one) (w ∷ other) h k =
    ap₂ (λ x xs. x ∷ xs) (same_value slot json v w h.0 k.0) (stand-same slots jsons one other h.1 k.1)

stand-wrong : (before : ℕ) (slots : List Slot) (jsons : List Data) (rec : List Value) → StandForAll slots jsons rec → IsFirstWrong before slots jsons → ⊥
stand-wrong zero [] jsons rec h w = w
stand-wrong (suc before) [] jsons rec h w = w
stand-wrong zero (slot ∷ slots) [] rec h w = w
stand-wrong (suc before) (slot ∷ slots) [] rec h w = w
stand-wrong before (slot ∷ slots) (json ∷ jsons) [] h w = h
stand-wrong zero (slot ∷ slots) (json ∷ jsons) (v ∷ rec) h w = w v h.0
stand-wrong (suc before) (slot ∷ slots) (json ∷ jsons) (v ∷ rec) h w = stand-wrong before slots jsons rec h.1 w.1

wrong-same : (a b : ℕ) (slots : List Slot) (jsons : List Data) → IsFirstWrong a slots jsons → IsFirstWrong b slots jsons → a ≡ b
wrong-same zero b [] jsons h k = absurd h
wrong-same (suc a) b [] jsons h k = absurd h
wrong-same zero b (slot ∷ slots) [] h k = absurd h
wrong-same (suc a) b (slot ∷ slots) [] h k = absurd h
wrong-same zero zero (slot ∷ slots) (json ∷ jsons) h k = refl
wrong-same zero (suc b) (slot ∷ slots) (json ∷ jsons) h k = absurd (h k.0.0 k.0.1)
wrong-same (suc a) zero (slot ∷ slots) (json ∷ jsons) h k = absurd (k h.0.0 h.0.1)
wrong-same (suc a) (suc b) (slot ∷ slots) (json ∷ jsons) h k = ap (λ n. suc n) (wrong-same a b slots jsons h.1 k.1)

module _ (slots : List Slot) (jsons : List Data) where
  counts_apart : (n : ℕ) → length jsons ≡ length slots → (length jsons ≡ n) × (n ≢ length slots) → ⊥
  counts_apart n same h = h.1 (sym h.0 ∙ same)

  array-same : (one other : Result (List Value) BadRecord) → ReadsArray slots jsons one → ReadsArray slots jsons other → one ≡ other
  array-same (Err NotJson) other h k = absurd h
  array-same (Err OutOfMemory) other h k = absurd h
  array-same one (Err NotJson) h k = absurd k
  array-same one (Err OutOfMemory) h k = absurd k
  array-same (Ok one) (Ok other) h k = ap Ok (stand-same slots jsons one other h k)
  array-same (Ok one) (Err (WrongCount m)) h k = absurd (counts_apart m (stand-length slots jsons one h) k)
  array-same (Ok one) (Err (WrongValue m)) h k = absurd (stand-wrong k.1.0 slots jsons one h k.1.2)
  array-same (Err (WrongCount n)) (Ok other) h k = absurd (counts_apart n (stand-length slots jsons other k) h)
  array-same (Err (WrongCount n)) (Err (WrongCount m)) h k = ap (λ x. Err (WrongCount x)) (sym h.0 ∙ k.0)
  array-same (Err (WrongCount n)) (Err (WrongValue m)) h k = absurd (counts_apart n k.0 h)
  array-same (Err (WrongValue n)) (Ok other) h k = absurd (stand-wrong h.1.0 slots jsons other k h.1.2)
  array-same (Err (WrongValue n)) (Err (WrongCount m)) h k = absurd (counts_apart m h.0 k)
  array-same (Err (WrongValue n)) (Err (WrongValue m)) h k =
      ap (λ x. Err (WrongValue x)) (h.1.1 ∙ ap (λ x. x + 1) (wrong-same h.1.0 k.1.0 slots jsons h.1.2 k.1.2) ∙ sym k.1.1)

reading-same : (found : Option (List Data)) (slots : List Slot) (one other : Result (List Value) BadRecord)
    → MatchOption found (one ≡ Err NotJson) (λ jsons. ReadsArray slots jsons one) → MatchOption found (other ≡ Err NotJson) (λ jsons. ReadsArray slots jsons other) → one ≡ other
reading-same None slots one other h k = h ∙ sym k
reading-same (Some jsons) slots one other h k = array-same slots jsons one other h k

pub one_reading : (pieces : List Piece) (line : List ℕ) (one other : Result (List Value) BadRecord) → ReadsJson pieces line one → ReadsJson pieces line other → one ≡ other
one_reading pieces line one other h k = reading-same (array_of line) (slots_in pieces) one other h k

-- ---- some reading

slot_decided : (slot : Slot) (json : Data) → ((v : Value) × StandsFor slot json v) ⊎ StandsForNone slot json
slot_decided slot json = elim (value_decided (value_kind slot.kind) json) [
  | inr none ↦ inr (λ v s. none v s.is)
  | inl some ↦ elim (holds_decided slot some.0) [
    | inl held ↦ inl (some.0, record { is = some.1; held = held })
    | inr unheld ↦ inr (λ w s. unheld (subst (λ x. Holds slot x) (value-same (value_kind slot.kind) json w some.0 s.is some.1) s.held))
  ]
]

all_decided : (slots : List Slot) (jsons : List Data) → length jsons ≡ length slots → ((rec : List Value) × StandForAll slots jsons rec) ⊎ ((before : ℕ) × IsFirstWrong before slots jsons)
all_decided [] [] e = inl ([], tt)
all_decided [] (json ∷ jsons) e = absurd (omega (arith, e))
all_decided (slot ∷ slots) [] e = absurd (omega (arith, e))
all_decided (slot ∷ slots) (json ∷ jsons) e = elim (slot_decided slot json) [
  | inr none ↦ inr (0, none)
  | inl some ↦ elim (all_decided slots jsons (omega (arith, e))) [
    | inl rest ↦ inl (some.0 ∷ rest.0, (some.1, rest.1))
    | inr wrong ↦ inr (suc wrong.0, (some, wrong.1))
  ]
]

array_reading : (slots : List Slot) (jsons : List Data) → (answer : Result (List Value) BadRecord) × ReadsArray slots jsons answer
array_reading slots jsons = elim (cases_eq (length jsons) (length slots)) [
  | inl same ↦ elim (all_decided slots jsons same) [
    | inl all ↦ (Ok all.0, all.1)
    | inr wrong ↦ (Err (WrongValue (wrong.0 + 1)), (same, (wrong.0, refl, wrong.1)))
  ]
  | inr other ↦ (Err (WrongCount (length jsons)), (refl, other))
]

found_reading : (found : Option (List Data)) (slots : List Slot) → (answer : Result (List Value) BadRecord) × MatchOption found (answer ≡ Err NotJson) (λ jsons. ReadsArray slots jsons answer)
found_reading None slots = (Err NotJson, refl)
found_reading (Some jsons) slots = array_reading slots jsons

pub some_reading : (pieces : List Piece) (line : List ℕ) → (answer : Result (List Value) BadRecord) × ReadsJson pieces line answer
some_reading pieces line = found_reading (array_of line) (slots_in pieces)
