use Rattle.std.proofs.Common.{◌∙◌, ◌++◌, List, subst, sym, ap}
use Rattle.lf_core.specs.declared.values.Value.{Value}
use Rattle.lf_format.specs.declared.format.Piece.{Piece}
use Rattle.lf_machine.specs.Decoding.{IsOfRecord}
use Rattle.lf_machine.proofs.RecordTold.{run-of_record, told-record}
use Rattle.lf_machine.proofs.machine.FormatMachine.decode.Goals as goal

pub returns : goal.returns
returns c =
    let line = c.requires.0 in
    let whole = c.runs.ensures.no_other c.requires.0 c.args.run.now c.requires.1 in
    let is = run-of_record c.args.self.now c.as_slice.result.now whole.0 c.parts.ensures.kept whole.1 (c.as_slice.ensures ∙ whole.3) in
    let got = c.in_ok-decode_parts.ensures whole.0 (subst (λ (ps : List Piece). IsOfRecord ps c.as_slice.result.now whole.0) (sym c.parts.ensures.parts) is) in
    told-record c.args.self.now c.requires.0 c.args.run.now whole.0 c.decode_parts.new.into c.runs.ensures whole.1 whole.3
    (got ∙ ap (λ (r : List Value). r ++ whole.0) c.new-record.ensures)
