use Rattle.std.proofs.Common.{◌≡◌, ℕ, ap, rules}
use Rattle.std.specs.Prelude.{FitsSigned}
use Rattle.std.specs.Int.{w64}
use Rattle.std.proofs.lemmas.Int.{to_z-of_z}
use Rattle.lf_format.specs.declared.kind.Kind.TheVariants as kind
use Rattle.lf_number.specs.Numbers.{padded_text}
use Rattle.lf_number.specs.Radix.{radix_of}
use Rattle.lf_scan.proofs.DigitNumbers.{reads-number}
use Rattle.lf_scan.proofs.numbers.read_padded_decimal.Goals as goal

pub returns-in-Some-clause-read : goal.returns-in-Some-clause-read
returns-in-Some-clause-read c =
    let read = rw c.in-Some.is at c.in_ok-left-in-Ten.ensures.read in
    let lo : FitsSigned w64 c.args.domain.lo = search rules in
    let hi : FitsSigned w64 c.args.domain.hi = search rules in
    let ten : radix_of c.args.domain.radix ≡ 10 = ap (λ r. radix_of r) c.in-Ten.is in
    reads-number (kind.Padded c.args.domain) (padded_text 10 c.args.domain.width) c.args.domain.lo c.args.domain.hi _ _ c.args.text.now c.in-Some.left.now c.args.into.now c.read_padded.new.into
    (to_z-of_z w64 c.args.domain.lo lo) (to_z-of_z w64 c.args.domain.hi hi) (λ n h. h) (λ n. ap (λ (r : ℕ). padded_text r c.args.domain.width n) ten) read
