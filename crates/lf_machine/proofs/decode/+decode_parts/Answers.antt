use Rattle.std.proofs.Common.{◌∙◌, sym, ap}
use Rattle.lf_format.specs.declared.slot.Slot.{Slot as OneSlot}
use Rattle.lf_format.specs.declared.format.Piece.{Piece}
use Rattle.lf_format.specs.declared.format.Piece.TheVariants.{Slot}
use Rattle.lf_machine.specs.Parted.{piece_of}
use Rattle.lf_machine.proofs.RecordTold.{first-cut, after-literal, after-slot, value-first}
use Rattle.lf_machine.proofs.decode.+decode_parts.Goals as goal

pub returns-in_ok-decode_parts-in-Literal : goal.returns-in_ok-decode_parts-in-Literal
returns-in_ok-decode_parts-in-Literal t c = λ rec is.
    let cut = first-cut c.args.parts.now c.in-Some.rest.now c.in-Some.part.now c.marks_of-above.result c.front_len.result c.args.moves.now c.split_at.result.0.now c.split_at.result.1.now c.in-Some.ensures.cases.0 c.marks_of-above.ensures.exact c.front_len.ensures c.split_at.ensures.front c.split_at.ensures.back in
    c.in_ok-decode_parts-in-Literal.ensures rec
    (after-literal c.args.parts.now c.in-Some.rest.now c.in-Some.part.now c.in-Literal.field-0 c.marks_of-above.result c.args.moves.now c.split_at.result.0.now c.split_at.result.1.now rec cut (sym c.part.ensures ∙ ap piece_of c.in-Literal.is) is)

pub returns-in_ok-decode_parts-in-Slot : goal.returns-in_ok-decode_parts-in-Slot
returns-in_ok-decode_parts-in-Slot t c = λ rec is.
    let cut = first-cut c.args.parts.now c.in-Some.rest.now c.in-Some.part.now c.marks_of-above.result c.front_len.result c.args.moves.now c.split_at.result.0.now c.split_at.result.1.now c.in-Some.ensures.cases.0 c.marks_of-above.ensures.exact c.front_len.ensures c.split_at.ensures.front c.split_at.ensures.back in
    let told = after-slot c.args.parts.now c.in-Some.rest.now c.in-Some.part.now c.slot.result.now c.marks_of-above.result c.args.moves.now c.split_at.result.0.now c.split_at.result.1.now rec cut (sym c.part.ensures ∙ ap piece_of c.in-Slot.is ∙ ap (λ (s : OneSlot). let p : Piece = Slot s in p) (sym c.slot.ensures)) is in
    value-first c.args.into.now c.push.new.self c.decode_parts-in-Slot.new.into told.v c.in_ok-decode_slot-in-Slot.field-0 rec told.others c.in_ok-push-in-Slot.ensures.ok (c.in_ok-decode_slot-in-Slot.ensures told.v told.own) (c.in_ok-decode_parts-in-Slot.ensures told.others told.later) told.same
