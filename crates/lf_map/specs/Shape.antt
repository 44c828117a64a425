-- What contracts see of a field map: an expression for each slot of the target.
use Rattle.std.specs.Prelude.{◌≡◌, true, List, [], ◌∷◌}
use Rattle.lf_format.specs.Shape.{Shape}
use Rattle.lf_format.specs.Keeps.{slots_in}
use Rattle.lf_format.specs.Kinds.{value_kind}
use Rattle.lf_format.specs.declared.slot.Slot.{Slot as OneSlot}
use Rattle.lf_expression.specs.declared.expr.Expr.{Expr as CodeExpr}
use Rattle.lf_expression.specs.Exprs.{Expr, exprs_said}
use Rattle.lf_expression.specs.Kinds.{has_kind}

pub record MapShape : Type 0 where
  pub source : Shape
  pub target : Shape
  pub exprs : List CodeExpr

-- One expression for each slot, of the slot's kind.
abbrev pub AreKinded : List OneSlot → List OneSlot → List Expr → Type 0
AreKinded source [] [] = Unit {0}
AreKinded source [] (e ∷ es) = ⊥
AreKinded source (slot ∷ slots) [] = ⊥
AreKinded source (slot ∷ slots) (e ∷ es) = (has_kind source (value_kind slot.kind) e ≡ true) × AreKinded source slots es

-- What a field map keeps.
abbrev pub KeepsMap : MapShape → Type 0
KeepsMap map = AreKinded (slots_in map.source.pieces) (slots_in map.target.pieces) (exprs_said map.exprs)
