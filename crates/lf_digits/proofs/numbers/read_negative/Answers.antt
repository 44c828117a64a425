use Rattle.std.proofs.Common.{rules}
use Rattle.std.specs.Prelude.{pos, neg_ℤ, ◌≤ℤ◌}
use Rattle.lf_digits.proofs.DigitTexts.{reads-negative}
use Rattle.lf_digits.proofs.numbers.read_negative.Goals as goal

pub returns-clause-read : goal.returns-clause-read
returns-clause-read c =
    let some : pos 1 ≤ℤ c.in-Some.magnitude = search rules in
    let low : c.args.lo ≤ℤ neg_ℤ c.in-Some.magnitude = search rules in
    let high : neg_ℤ c.in-Some.magnitude ≤ℤ c.args.hi = search rules in
    reads-negative c.in-Some.magnitude c.args.lo c.args.hi c.args.text.now c.in-Some.digits.now c.in-Some.left.now c.args.into.now c.push.new.self c.extend.new.self some c.in-Some.ensures.digits low high
    c.in-Some.ensures.parts c.in_ok-push.ensures.ok c.in_ok-extend.ensures.ok
