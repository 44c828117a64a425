use Rattle.lf_log.proofs.Drawing.{draws_more}
use Rattle.lf_log.proofs.generating.draw_part.Goals as goal

pub loop-number-preserved : goal.loop-number-preserved
loop-number-preserved c =
    let l = c.loop-number in
    let e = c.in_ok-record.ensures in
    draws_more c.args.format.now c.args.state.now l.state c.next_record.new.state l._number l.part.text l.part.lengths.items c.add.new.self.text c.add.new.self.lengths.items
    c.in_ok-record.record l.invariant e.drawn e.held e.state c.in_ok-add.ensures.text c.in_ok-add.ensures.lengths
