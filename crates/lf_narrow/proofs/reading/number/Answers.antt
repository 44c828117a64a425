use Rattle.std.proofs.Common.{arith}
use Rattle.lf_narrow.proofs.Digits.{digit_room}
use Rattle.lf_narrow.proofs.reading.number.Goals as goal

pub overflow_mul-value : goal.overflow_mul-value
overflow_mul-value c = omega (arith, digit_room c.loop-digit.value c.args.text.now c.loop-digit.digit-index (omega arith) c.loop-digit.invariant, c.requires)

pub overflow_add-value : goal.overflow_add-value
overflow_add-value c = omega (arith, digit_room c.loop-digit.value c.args.text.now c.loop-digit.digit-index (omega arith) c.loop-digit.invariant, c.requires, c.saturating_sub.ensures)
