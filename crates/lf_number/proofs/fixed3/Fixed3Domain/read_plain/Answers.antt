use Rattle.std.proofs.Common.{rules}
use Rattle.lf_number.specs.Numbers.{thousandths_text, num_text}
use Rattle.lf_number.specs.ThousandthsLaws.{thousandths-value}
use Rattle.lf_number.proofs.ReadBack.{only-value, no-other, written-apart}
use Rattle.lf_number.proofs.fixed3.Fixed3Domain.read_plain.Goals as goal

pub returns-in_default : goal.returns-in_default
returns-in_default c = λ v h e.
    c.in_default.not-Some v (only-value 10 thousandths_text thousandths-value c.args.self.now.lo c.args.self.now.hi c.args.text.now c.candidate.result (search rules) (search rules) c.args.self.now.not_negative c.candidate.ensures.only v h e)

pub returns-else-eq : goal.returns-else-eq
returns-else-eq c = λ v h e.
    no-other (num_text thousandths_text) c.args.text.now c.candidate.result c.in-Some.value v c.in-Some.is
    (written-apart c.new-plain.result c.write_plain.new.into (num_text thousandths_text c.in-Some.value) c.as_slice.result.now c.args.text.now c.eq.result c.new-plain.ensures c.in_ok-write_plain.ensures.ok c.as_slice.ensures c.eq.ensures c.if-eq.false)
    (only-value 10 thousandths_text thousandths-value c.args.self.now.lo c.args.self.now.hi c.args.text.now c.candidate.result (search rules) (search rules) c.args.self.now.not_negative c.candidate.ensures.only v h e) e
