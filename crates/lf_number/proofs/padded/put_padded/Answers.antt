use Rattle.std.proofs.Common.{arith}
use Rattle.lf_number.proofs.Places.{padded-put, whole-put}
use Rattle.lf_number.proofs.padded.put_padded.Goals as goal

pub returns-then-width-least-clause-digits : goal.returns-then-width-least-clause-digits
returns-then-width-least-clause-digits c =
    padded-put c.args.radix c.requires.radix_is c.args.number c.args.least c.args.buffer.now c.put_last.new.buffer c.requires.room (omega arith) c.put_last.ensures.digits

pub returns-clause-digits : goal.returns-clause-digits
returns-clause-digits c =
    whole-put c.args.radix c.args.number c.args.least c.put_digits.result c.args.buffer.now c.put_digits.new.buffer c.requires.room (omega arith) c.put_digits.ensures.digits
