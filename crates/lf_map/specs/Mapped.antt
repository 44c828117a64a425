-- The record that a map makes of a record, or the first slot that holds no such value.
use Rattle.std.specs.Prelude.{◌≡◌, ℕ, ◌+◌, ◌⊎◌, List, [], ◌∷◌, ◌++◌, Option, None, Some}
use Rattle.lf_core.specs.declared.values.Value.{Value}
use Rattle.lf_format.specs.declared.format.Piece.{Piece}
use Rattle.lf_format.specs.declared.format.Piece.TheVariants.{Literal, Slot}
use Rattle.lf_format.specs.Slots.{Holds}
use Rattle.lf_expression.specs.Exprs.{Expr, exprs_said}
use Rattle.lf_expression.specs.Values.{expr_value}
use Rattle.lf_map.specs.Shape.{MapShape}

-- A record of the target, or the number of its first slot that holds no such value.
pub data Mapped : Type 0 where
  Rec : List Value → Mapped
  Unmapped : ℕ → Mapped

-- the values of the expressions, in the order of the target's slots
abbrev pub mapped_record : List Expr → List Value → List (Option Value)
mapped_record [] rec = []
mapped_record (e ∷ es) rec = expr_value e rec ∷ mapped_record es rec

-- The answer of the pieces that are left, where the first slot of them has the number and the slots before hold these values.
abbrev pub Fills : ℕ → List Piece → List (Option Value) → List Value → Mapped → Type 0
Fills k [] values done answer = answer ≡ Rec done
Fills k (Literal text ∷ pieces) values done answer = Fills k pieces values done answer
Fills k (Slot slot ∷ pieces) [] done answer = ⊥
Fills k (Slot slot ∷ pieces) (None ∷ values) done answer = answer ≡ Unmapped k
Fills k (Slot slot ∷ pieces) (Some v ∷ values) done answer =
    (Holds slot v × Fills (k + 1) pieces values (done ++ v ∷ []) answer) ⊎ ((Holds slot v → ⊥) × (answer ≡ Unmapped k))

-- what expressions for the slots of a target make of the record
abbrev pub Makes : List Piece → List Expr → List Value → Mapped → Type 0
Makes target exprs rec answer = Fills 1 target (mapped_record exprs rec) [] answer

-- THE MEANING: what the map makes of the record
abbrev pub IsMapped : MapShape → List Value → Mapped → Type 0
IsMapped map rec answer = Makes map.target.pieces (exprs_said map.exprs) rec answer
