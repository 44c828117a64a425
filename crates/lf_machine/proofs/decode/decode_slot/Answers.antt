use Rattle.std.proofs.Common.{◌∙◌, sym}
use Rattle.lf_machine.specs.Decoding.{told_letters}
use Rattle.lf_machine.specs.Pieces.{is_blank}
use Rattle.lf_machine.proofs.ToldLaws.{dash-missing, blank-missing, read-value, read-some, bare-test, some-test}
use Rattle.lf_machine.proofs.decode.decode_slot.Goals as goal

pub returns-then-is_dash : goal.returns-then-is_dash
returns-then-is_dash c = λ v is. dash-missing c.args.slot.now c.args.above c.args.moves.now v is (sym c.is_dash.ensures ∙ c.if-is_dash.true)

pub returns-then-is_empty-is_blank_absent : goal.returns-then-is_empty-is_blank_absent
returns-then-is_empty-is_blank_absent c = λ v is.
    let bare = bare-test c.is_empty.result c.is_blank_absent.result (is_blank c.args.slot.now.absent) c.as_slice.result.now (told_letters c.args.above c.args.moves.now) c.is_empty.ensures (c.as_slice.ensures.value ∙ c.in_ok-letters.ensures) c.is_blank_absent.ensures c.if-is_empty-is_blank_absent.true in
    blank-missing c.args.slot.now c.args.above c.args.moves.now v is (sym c.is_dash.ensures ∙ c.if-is_dash.false) bare.0 bare.1

pub returns-in-Some : goal.returns-in-Some
returns-in-Some c = λ v is.
    let some = some-test c.is_empty.result c.is_blank_absent.result (is_blank c.args.slot.now.absent) c.as_slice.result.now (told_letters c.args.above c.args.moves.now) c.is_empty.ensures (c.as_slice.ensures.value ∙ c.in_ok-letters.ensures) c.is_blank_absent.ensures c.if-is_empty-is_blank_absent.false in
    read-value c.args.slot.now c.args.above c.args.moves.now v c.in-Some.value c.as_slice-2.result.now is (sym c.is_dash.ensures ∙ c.if-is_dash.false) some (c.as_slice-2.ensures.value ∙ c.in_ok-letters.ensures) (rw c.in-Some.is at c.in_ok-value.ensures)

pub returns : goal.returns
returns c = λ v is.
    let some = some-test c.is_empty.result c.is_blank_absent.result (is_blank c.args.slot.now.absent) c.as_slice.result.now (told_letters c.args.above c.args.moves.now) c.is_empty.ensures (c.as_slice.ensures.value ∙ c.in_ok-letters.ensures) c.is_blank_absent.ensures c.if-is_empty-is_blank_absent.false in
    absurd (read-some c.args.slot.now c.args.above c.args.moves.now v c.as_slice-2.result.now is (sym c.is_dash.ensures ∙ c.if-is_dash.false) some (c.as_slice-2.ensures.value ∙ c.in_ok-letters.ensures) (rw c.in-None.is at c.in_ok-value.ensures))
