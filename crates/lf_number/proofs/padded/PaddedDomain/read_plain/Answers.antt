use Rattle.std.proofs.Common.{rules, ℕ, ◌∙◌, ap}
use Rattle.std.specs.Prelude.{pos}
use Rattle.lf_number.specs.Machines.{value_after}
use Rattle.lf_number.specs.Numbers.{padded_text, num_text}
use Rattle.lf_number.specs.PaddedLaws.{padded-value}
use Rattle.lf_number.specs.Radix.{radix_of}
use Rattle.lf_number.specs.RadixLaws.{radix_is}
use Rattle.lf_number.proofs.ReadBack.{only-value, no-other, written-apart}
use Rattle.lf_number.proofs.padded.PaddedDomain.read_plain.Goals as goal

pub returns-in_default : goal.returns-in_default
returns-in_default c = λ v h e.
    c.in_default.not-Some v (only-value c.value.result (padded_text (radix_of c.args.self.now.radix) c.args.self.now.width) (λ k. ap (λ (r : ℕ). value_after r 0 (padded_text (radix_of c.args.self.now.radix) c.args.self.now.width (pos k))) c.value.ensures.exact ∙ padded-value (radix_of c.args.self.now.radix) (radix_is c.args.self.now.radix) c.args.self.now.width k) c.args.self.now.lo c.args.self.now.hi c.args.text.now c.candidate.result (search rules) (search rules) c.args.self.now.not_negative c.candidate.ensures.only v h e)

pub returns-else-eq : goal.returns-else-eq
returns-else-eq c = λ v h e.
    no-other (num_text (padded_text (radix_of c.args.self.now.radix) c.args.self.now.width)) c.args.text.now c.candidate.result c.in-Some.value v c.in-Some.is
    (written-apart c.new-plain.result c.write_plain.new.into (num_text (padded_text (radix_of c.args.self.now.radix) c.args.self.now.width) c.in-Some.value) c.as_slice.result.now c.args.text.now c.eq.result c.new-plain.ensures c.in_ok-write_plain.ensures.ok c.as_slice.ensures c.eq.ensures c.if-eq.false)
    (only-value c.value.result (padded_text (radix_of c.args.self.now.radix) c.args.self.now.width) (λ k. ap (λ (r : ℕ). value_after r 0 (padded_text (radix_of c.args.self.now.radix) c.args.self.now.width (pos k))) c.value.ensures.exact ∙ padded-value (radix_of c.args.self.now.radix) (radix_is c.args.self.now.radix) c.args.self.now.width k) c.args.self.now.lo c.args.self.now.hi c.args.text.now c.candidate.result (search rules) (search rules) c.args.self.now.not_negative c.candidate.ensures.only v h e) e
