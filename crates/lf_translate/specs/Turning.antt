-- What a translation makes of a record: the target's line of the mapped record, or the first slot that holds no such value.
use Rattle.std.specs.Prelude.{◌≡◌, List}
use Rattle.lf_core.specs.declared.values.Value.{Value}
use Rattle.lf_format.specs.Lines.{line_text}
use Rattle.lf_map.specs.Shape.{MapShape}
use Rattle.lf_map.specs.Mapped.{IsMapped}
use Rattle.lf_map.specs.Mapped as mapped
use Rattle.lf_translate.specs.declared.turning.Turned.{Turned}
use Rattle.lf_translate.specs.declared.turning.Turned.TheVariants.{Line, Unmapped}

abbrev pub IsTurned : MapShape → List Value → Turned → Type 0
IsTurned map rec (Line line) = (made : List Value) × IsMapped map rec (mapped.Rec made) × (line ≡ line_text map.target.pieces made)
IsTurned map rec (Unmapped k) = IsMapped map rec (mapped.Unmapped k)
