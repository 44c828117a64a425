use Rattle.lf_number.proofs.Places.{thousandths-put}
use Rattle.lf_number.proofs.fixed3.put_thousandths.Goals as goal

pub returns-clause-digits : goal.returns-clause-digits
returns-clause-digits c =
    thousandths-put c.args.number c.put_digits.result c.args.buffer.now c.put_last.new.buffer c.put_digits.new.buffer c.requires c.put_last.ensures.size c.put_last.ensures.digits c.put_digits.ensures.digits
