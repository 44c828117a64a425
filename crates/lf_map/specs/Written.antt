-- What is written of a record by a field map.
use Rattle.std.specs.Prelude.{◌≡◌, ℕ, Bool, true, false, List, ◌++◌, Option, None, Some}
use Rattle.lf_core.specs.Adds.{BeginsWith}
use Rattle.lf_core.specs.declared.values.Value.{Value}
use Rattle.lf_format.specs.declared.format.Piece.{Piece}
use Rattle.lf_format.specs.declared.slot.Slot.{Slot}
use Rattle.lf_format.specs.Slots.{Holds, slot_text}
use Rattle.lf_format.specs.Lines.{line_text}
use Rattle.lf_map.specs.Mapped.{Rec, Unmapped, Fills, IsMapped}
use Rattle.lf_map.specs.Shape.{MapShape}

-- The value's text was added where the slot holds it, and else it is none that the slot holds.
abbrev pub IsAdded : Bool → Slot → Option Value → List ℕ → List ℕ → Type 0
IsAdded true slot (Some v) old new = Holds slot v × (new ≡ old ++ slot_text slot v)
IsAdded true slot None old new = ⊥
IsAdded false slot (Some v) old new = (Holds slot v → ⊥) × (new ≡ old)
IsAdded false slot None old new = new ≡ old

-- What was added of the pieces that are left, of which the first slot has the number, whatever the slots before hold: the line of their
-- values, or something before the slot that holds no such value.
abbrev pub AddsRest : ℕ → List Piece → List (Option Value) → Option ℕ → List ℕ → List ℕ → Type 0
AddsRest k pieces values None old new =
    (made : List Value) × ((done : List Value) → Fills k pieces values done (Rec (done ++ made))) × (new ≡ old ++ line_text pieces made)
AddsRest k pieces values (Some n) old new = ((done : List Value) → Fills k pieces values done (Unmapped n)) × BeginsWith new old

-- THE MEANING: the target's line of the mapped record was added; or nothing, and this is the first slot that holds no such value.
abbrev pub IsWritten : MapShape → List Value → Option ℕ → List ℕ → List ℕ → Type 0
IsWritten map rec None old new = (made : List Value) × IsMapped map rec (Rec made) × (new ≡ old ++ line_text map.target.pieces made)
IsWritten map rec (Some k) old new = IsMapped map rec (Unmapped k) × (new ≡ old)
