use Rattle.std.proofs.Common.{◌-◌, arith}
use Rattle.lf_number.proofs.Places.{last-put, front-next, size-set}
use Rattle.lf_number.proofs.digits.put_last.Goals as goal

pub loop-done-preserved : goal.loop-done-preserved
loop-done-preserved c = record {
  left = front-next c.args.radix c.args.number c.loop-done.done c.loop-done.rest c.loop-done.invariant.left;
  size = size-set (c.args.end - 1 - c.loop-done.done) c.digit_letter.result c.loop-done.buffer c.args.buffer.now c.loop-done.invariant.size;
  whole = last-put c.args.radix c.args.number c.loop-done.done c.args.end c.digit_letter.result c.loop-done.rest c.loop-done.buffer c.args.buffer.now (omega arith) (omega arith) c.digit_letter.ensures c.loop-done.invariant.left c.loop-done.invariant.whole;
}
