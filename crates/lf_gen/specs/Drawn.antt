-- The record that is drawn from a state.
use Rattle.std.specs.Prelude.{◌≡◌, ℕ, zero, suc, List, [], ◌∷◌, Some}
use Rattle.lf_core.specs.declared.values.Value.{Value}
use Rattle.lf_format.specs.Slots.{Holds}
use Rattle.lf_format.specs.declared.slot.Slot.{Slot as OneSlot}
use Rattle.lf_format.specs.declared.format.Piece.{Piece}
use Rattle.lf_format.specs.declared.format.Piece.TheVariants.{Literal, Slot}
use Rattle.lf_gen.specs.Draws.{state_after, candidate, draws}
use Rattle.lf_gen.specs.Least.{IsLeastValue}

-- There is a candidate, and the slot holds it.
abbrev pub IsTaken : OneSlot → ℕ → Value → Type 0
IsTaken slot x c = (candidate slot.kind x ≡ Some c) × Holds slot c

-- The slot's value: the candidate where the slot holds it, and else the least value.
pub record IsDrawnValue (slot : OneSlot) (x : ℕ) (v : Value) : Type 0 where
  pub held : Holds slot v
  pub taken : (c : Value) → IsTaken slot x c → v ≡ c
  pub least : ((c : Value) → IsTaken slot x c → ⊥) → IsLeastValue slot v

-- the state after the slot's draws
abbrev pub slot_state : OneSlot → ℕ → ℕ
slot_state slot x = state_after (draws slot.kind x) x

-- A value for each slot, drawn in order.
abbrev pub IsDrawn : List Piece → ℕ → List Value → Type 0
IsDrawn [] x [] = Unit {0}
IsDrawn [] x (v ∷ rec) = ⊥
IsDrawn (Literal text ∷ pieces) x rec = IsDrawn pieces x rec
IsDrawn (Slot slot ∷ pieces) x [] = ⊥
IsDrawn (Slot slot ∷ pieces) x (v ∷ rec) = IsDrawnValue slot x v × IsDrawn pieces (slot_state slot x) rec

-- the state after the draws of a record
abbrev pub record_state : List Piece → ℕ → ℕ
record_state [] x = x
record_state (Literal text ∷ pieces) x = record_state pieces x
record_state (Slot slot ∷ pieces) x = record_state pieces (slot_state slot x)

-- the state after the draws of so many records
abbrev pub state_past : List Piece → ℕ → ℕ → ℕ
state_past pieces zero x = x
state_past pieces (suc count) x = state_past pieces count (record_state pieces x)

-- These records are drawn, one after the other.
abbrev pub AreDrawn : List Piece → ℕ → List (List Value) → Type 0
AreDrawn pieces x [] = Unit {0}
AreDrawn pieces x (rec ∷ records) = IsDrawn pieces x rec × AreDrawn pieces (record_state pieces x) records
