use Rattle.std.proofs.Common.{sym, arith}
use Rattle.std.proofs.Math.Nat.{pow-zero}
use Rattle.lf_number.specs.Digits.{width-least, width-u64}
use Rattle.lf_number.proofs.Powers.{next-power, one-more, no-more}
use Rattle.lf_number.proofs.digits.width.Goals as goal

pub loop-power-init : goal.loop-power-init
loop-power-init c = record {
  power_is = sym (pow-zero c.args.radix);
  least = omega arith;
  most = width-least c.args.radix c.requires c.args.number;
}

pub overflow_add-digits : goal.overflow_add-digits
overflow_add-digits c =
    let i = c.loop-power.invariant in
    let m = one-more c.args.radix c.requires c.args.number c.loop-power.digits c.loop-power.power i.power_is i.least c.loop-power-test.true in
    omega (arith, m, width-u64 c.args.radix c.requires c.args.number c.ranges.number.fits)

pub loop-power-smaller : goal.loop-power-smaller
loop-power-smaller c =
    let i = c.loop-power.invariant in
    let m = one-more c.args.radix c.requires c.args.number c.loop-power.digits c.loop-power.power i.power_is i.least c.loop-power-test.true in
    omega (arith, m)

pub loop-power-preserved : goal.loop-power-preserved
loop-power-preserved c =
    let i = c.loop-power.invariant in
    record {
      power_is = next-power c.args.radix c.requires c.args.number c.loop-power.digits c.loop-power.power i.power_is i.least;
      least = omega arith;
      most = one-more c.args.radix c.requires c.args.number c.loop-power.digits c.loop-power.power i.power_is i.least c.loop-power-test.true;
    }

pub returns-clause-exact : goal.returns-clause-exact
returns-clause-exact c =
    let i = c.loop-power.invariant in
    let m = no-more c.args.radix c.requires c.args.number c.loop-power.digits c.loop-power.power i.power_is i.least c.loop-power-test.false in
    omega (arith, m)

pub returns-clause-most : goal.returns-clause-most
returns-clause-most c = omega (arith, width-u64 c.args.radix c.requires c.args.number c.ranges.number.fits)
