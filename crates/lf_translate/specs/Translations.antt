-- What a translation makes of a line.
use Rattle.std.specs.Prelude.{◌≡◌, ℕ, List, Ok}
use Rattle.lf_core.specs.declared.values.Value.{Value}
use Rattle.lf_format.specs.Lines.{Prints, line_text}
use Rattle.lf_format.specs.Shape.{Shape}
use Rattle.lf_expression.specs.Exprs.{Expr}
use Rattle.lf_map.specs.Filling.{ParsesMap}
use Rattle.lf_map.specs.Mapped.{Mapped, Makes}
use Rattle.lf_map.specs.Mapped as mapped
use Rattle.lf_translate.specs.declared.turning.Turned.{Turned}
use Rattle.lf_translate.specs.declared.turning.Turned.TheVariants.{Line, Unmapped}

-- What is translated: lines of the source into lines of the target, by the text of a map.
pub record Plan : Type 0 where
  pub source : Shape
  pub target : Shape
  pub map : List ℕ

-- The plan's text is a map of these expressions.
abbrev pub MapsBy : Plan → List Expr → Type 0
MapsBy plan exprs = ParsesMap plan.map plan.source plan.target (Ok exprs)

-- A record of the source prints the line, and the map makes this of it.
pub record TurnsTo (plan : Plan) (line : List ℕ) (made : Mapped) : Type 0 where
  pub read : List Value
  pub prints : Prints plan.source.pieces read line
  pub exprs : List Expr
  pub maps : MapsBy plan exprs
  pub makes : Makes plan.target.pieces exprs read made

-- The line is turned to this: the target's line of what the map makes, or the first slot that has no value.
abbrev pub IsTurnedTo : Plan → List ℕ → Turned → Type 0
IsTurnedTo plan line (Line text) = (made : List Value) × TurnsTo plan line (mapped.Rec made) × (text ≡ line_text plan.target.pieces made)
IsTurnedTo plan line (Unmapped k) = TurnsTo plan line (mapped.Unmapped k)
