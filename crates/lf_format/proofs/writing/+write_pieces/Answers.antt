use Rattle.std.proofs.Common.{rules}
use Rattle.lf_format.specs.Slots.{slot_text}
use Rattle.lf_format.specs.Lines.{line_text}
use Rattle.lf_format.proofs.Adding.{on-err, err-as, adds-first, adds-more}
use Rattle.lf_format.proofs.writing.+write_pieces.Goals as goal

pub returns-in_err-write_value-in-Some-clause-err : goal.returns-in_err-write_value-in-Some-clause-err
returns-in_err-write_value-in-Some-clause-err t c =
    let text = slot_text c.in-Some-Slot-default.slot c.in-Some.value.now in
    let rest = line_text c.in-Some-Slot-default.rest.now c.in-Some.more.now in
    on-err c.from_residual-in_err-write_value-in-Some.result
    (adds-first c.args.into.now c.write_value.new.into text rest (line_text c.args.pieces.now c.args.values.now) (search rules) c.in_err-write_value-in-Some.ensures.err)

pub returns-in_ok-write_value-in-Some-clause-err : goal.returns-in_ok-write_value-in-Some-clause-err
returns-in_ok-write_value-in-Some-clause-err t c =
    let text = slot_text c.in-Some-Slot-default.slot c.in-Some.value.now in
    let rest = line_text c.in-Some-Slot-default.rest.now c.in-Some.more.now in
    err-as c.write_pieces-in-Some.result
    (adds-more c.args.into.now c.write_value.new.into c.write_pieces-in-Some.new.into text rest (line_text c.args.pieces.now c.args.values.now) c.in_ok-write_value-in-Some.ensures.ok (search rules))
    c.write_pieces-in-Some.ensures.err
