use Rattle.std.proofs.Common.{List, ◌++◌, sym, ap, subst, ◌∙◌}
use Rattle.lf_core.specs.declared.values.Value.{Value}
use Rattle.lf_format.specs.Lines.{IsRecordOf}
use Rattle.lf_format.specs.declared.format.Piece.{Piece}
use Rattle.lf_gen.proofs.DrawnRecords.{drawn-held}
use Rattle.lf_gen.proofs.record.next_record.Goals as goal

pub returns-clause-held : goal.returns-clause-held
returns-clause-held c =
    let drawn = c.in_ok-add_values.ensures.values in
    let pieces = c.pieces.result.now in
    let all = drawn.1 ∙ ap (λ (rec : List Value). rec ++ drawn.0) c.new-record.ensures in
    subst (λ (ps : List Piece). IsRecordOf ps c.add_values.new.into) c.pieces.ensures.pieces
    (subst (IsRecordOf pieces) (sym all) (drawn-held pieces c.args.state.now drawn.0 drawn.2))
