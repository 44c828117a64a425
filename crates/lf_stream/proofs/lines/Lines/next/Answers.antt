use Rattle.std.proofs.Common.{refl}
use Rattle.lf_stream.proofs.LineLaws.{moves_both, next_body}
use Rattle.lf_stream.proofs.lines.Lines.next.Goals as goal

pub returns-in_default : goal.returns-in_default
returns-in_default c = (
  (refl, λ _. tt, (moves_both _ _ _ 0 c.in_default.ensures.moves c.make_room.ensures.moves, c.make_room.ensures.room)),
  record { next = c.in_default.ensures.next; after_borrow = tt },
)

pub returns : goal.returns
returns c = (
  (refl, λ _. tt, (c.in-Some.ensures.moves, tt)),
  record { next = λ stream n s. next_body _ _ _ _ n c.in-Some.mark c.body.result c.in-Some.ensures.moves.same.notes (c.in-Some.ensures.next stream n s) c.body.ensures; after_borrow = tt },
)
