use Rattle.std.proofs.Common.{arith}
use Rattle.lf_digits.proofs.DigitTexts.{three-last}
use Rattle.lf_digits.proofs.digits.three_digits.Goals as goal

pub returns : goal.returns
returns c =
    let a = c.in_ok-hundreds.ensures in
    let b = c.in_ok-tens.ensures in
    let d = c.in_ok-ones.ensures in
    (omega (arith, a.0, b.0, d.0), three-last c.in_ok-hundreds.hundreds c.in_ok-tens.tens c.in_ok-ones.ones c.args.text.now c.in_ok-hundreds.more.now c.in_ok-tens.more.now c.in_ok-ones.left.now a.0 b.0 d.0 a.1 b.1 d.1)
