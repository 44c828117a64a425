use Rattle.std.proofs.Common.{rules, ◌≡◌, ◌-◌, length}
use Rattle.std.specs.Prelude.{pos, ◌≤ℤ◌}
use Rattle.lf_digits.proofs.DigitTexts.{reads-padded}
use Rattle.lf_digits.proofs.numbers.read_padded.Goals as goal

pub returns-clause-read : goal.returns-clause-read
returns-clause-read c =
    let some : pos 0 ≤ℤ c.in-Some.number = search rules in
    let low : c.args.lo ≤ℤ c.in-Some.number = search rules in
    let high : c.in-Some.number ≤ℤ c.args.hi = search rules in
    let many : c.front_zeros-zeros.result.0 ≡ c.args.width - length c.in-Some.digits.now = search rules in
    reads-padded c.args.width c.front_zeros-zeros.result.0 c.in-Some.number c.args.lo c.args.hi c.args.text.now c.in-Some.digits.now c.front_zeros-zeros.result.1.now c.in-Some.left.now c.args.into.now c.extend.new.self some c.in-Some.ensures.digits many low high
    c.front_zeros-zeros.ensures c.in-Some.ensures.parts c.in_ok-extend.ensures.ok
