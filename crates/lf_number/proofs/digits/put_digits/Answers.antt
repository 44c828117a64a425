use Rattle.std.proofs.Common.{◌∙◌, ◌-◌, refl, arith}
use Rattle.lf_number.specs.Digits.{width-more, width-least, width-u64}
use Rattle.lf_number.proofs.Places.{digit-put, head-put, size-set}
use Rattle.lf_number.proofs.digits.put_digits.Goals as goal

pub loop-rest-init : goal.loop-rest-init
loop-rest-init c = record {
  room = omega (arith, width-u64 c.args.radix c.requires.radix_is c.args.number c.ranges.number.fits);
  most = omega arith;
  size = refl;
  whole = refl;
}

pub loop-rest-preserved : goal.loop-rest-preserved
loop-rest-preserved c =
    let w = width-more c.args.radix c.requires.radix_is c.loop-rest.rest c.loop-rest-test.true in
    let one = width-least c.args.radix c.requires.radix_is c.loop-rest.rest in
    record {
      room = omega arith;
      most = omega arith;
      size = size-set (c.loop-rest.at - 1) c.digit_letter.result c.loop-rest.buffer c.args.buffer.now c.loop-rest.invariant.size;
      whole = digit-put c.args.radix c.requires.radix_is c.loop-rest.rest c.loop-rest.at c.digit_letter.result c.loop-rest.buffer c.loop-rest-test.true (omega arith) (omega arith) c.digit_letter.ensures ∙ c.loop-rest.invariant.whole;
    }

pub returns-clause-digits : goal.returns-clause-digits
returns-clause-digits c =
    head-put c.args.radix c.requires.radix_is c.loop-rest.rest c.loop-rest.at c.digit_letter-2.result c.loop-rest.buffer c.loop-rest-test.false (omega arith) (omega arith) c.digit_letter-2.ensures
    ∙ c.loop-rest.invariant.whole

pub returns-clause-least : goal.returns-clause-least
returns-clause-least c = omega (arith, width-least c.args.radix c.requires.radix_is c.loop-rest.rest)
