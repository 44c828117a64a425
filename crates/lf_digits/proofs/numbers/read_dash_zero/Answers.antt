use Rattle.std.proofs.Common.{rules}
use Rattle.std.specs.Prelude.{pos, ◌≤ℤ◌}
use Rattle.lf_digits.proofs.DigitTexts.{reads-zero}
use Rattle.lf_digits.proofs.numbers.read_dash_zero.Goals as goal

pub returns-in_default-clause-read : goal.returns-in_default-clause-read
returns-in_default-clause-read c =
    let low : c.args.lo ≤ℤ pos 0 = search rules in
    let high : pos 0 ≤ℤ c.args.hi = search rules in
    reads-zero c.args.lo c.args.hi c.args.text.now c.in-Some-after_byte.left.now c.args.into.now c.push.new.self low high c.in-Some-after_byte.ensures c.in_ok-push.ensures.ok
