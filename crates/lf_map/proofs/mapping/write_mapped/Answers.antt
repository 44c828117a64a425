use Rattle.std.proofs.Common.{◌≡◌, ◌∙◌, sym, ap, subst, length, List, arith}
use Rattle.std.specs.Prelude.{All, Option, None, ℕ}
use Rattle.lf_core.specs.declared.values.Value.{Value}
use Rattle.lf_format.specs.declared.format.Piece.{Piece}
use Rattle.lf_format.specs.Keeps.{slots_in}
use Rattle.lf_expression.specs.declared.expr.Expr.{Expr}
use Rattle.lf_expression.specs.Answers.{IsDated}
use Rattle.lf_expression.specs.Exprs.{exprs_said}
use Rattle.lf_map.specs.Mapped.{mapped_record}
use Rattle.lf_map.specs.Shape.{MapShape}
use Rattle.lf_map.specs.Written.{AddsRest, IsWritten}
use Rattle.lf_map.proofs.Adding.{written}
use Rattle.lf_map.proofs.Records.{all_dated, map_count}
use Rattle.lf_map.proofs.mapping.write_mapped.Goals as goal

pub write_pieces-requires-clause-dated : goal.write_pieces-requires-clause-dated
write_pieces-requires-clause-dated c =
    subst (λ (rec : List Value). All IsDated rec) (sym c.as_slice-2.ensures) (all_dated c.args.map.now.source.pieces c.args.rec.now c.requires)

pub write_pieces-requires-clause-count : goal.write_pieces-requires-clause-count
write_pieces-requires-clause-count c =
    ap (λ (es : List Expr). length es) c.as_slice.ensures.value
    ∙ map_count (slots_in c.map.inside.source.pieces) (slots_in c.map.inside.target.pieces) c.map.inside.exprs.items c.map.invariant
    ∙ ap (λ (ps : List Piece). length (slots_in ps)) (sym c.pieces.ensures.pieces)

pub write_pieces-requires-clause-room : goal.write_pieces-requires-clause-room
write_pieces-requires-clause-room c =
    let n : length c.as_slice.result.now ≡ length (slots_in c.map.inside.target.pieces) =
    ap (λ (es : List Expr). length es) c.as_slice.ensures.value
    ∙ map_count (slots_in c.map.inside.source.pieces) (slots_in c.map.inside.target.pieces) c.map.inside.exprs.items c.map.invariant in
    let few = c.pieces.ensures.keeps.few in
    omega (arith, n, few)

pub returns-in-None : goal.returns-in-None
returns-in-None c =
    let inside = c.map.inside in
    let view : MapShape = record { source = inside.source; target = inside.target; exprs = inside.exprs.items } in
    let pieces = c.pieces.result.now in
    let exprs = c.as_slice.result.now in
    let old = c.args.into.now in
    let new = c.write_pieces.new.into in
    let found = subst (λ (unmapped : Option ℕ). AddsRest 1 pieces (mapped_record (exprs_said exprs) c.as_slice-2.result.now) unmapped old new) c.in-None.is c.in_ok-write_pieces.ensures in
    let added = subst (λ (rec : List Value). AddsRest 1 pieces (mapped_record (exprs_said exprs) rec) None old new) c.as_slice-2.ensures found in
    subst (λ (map : MapShape). IsWritten map c.args.rec.now None old new) c.map.view_is
    (written view pieces exprs c.args.rec.now old new c.pieces.ensures.pieces c.as_slice.ensures.value added)
