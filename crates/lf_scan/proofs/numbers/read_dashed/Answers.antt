use Rattle.std.proofs.Common.{refl, rules}
use Rattle.std.specs.Prelude.{FitsSigned}
use Rattle.std.specs.Int.{w64}
use Rattle.std.proofs.lemmas.Int.{to_z-of_z}
use Rattle.lf_format.specs.declared.kind.Kind.TheVariants as kind
use Rattle.lf_number.specs.Numbers.{dash_text}
use Rattle.lf_scan.proofs.DigitNumbers.{reads-number}
use Rattle.lf_scan.proofs.numbers.read_dashed.Goals as goal

pub returns-clause-read : goal.returns-clause-read
returns-clause-read c =
    let read = rw c.in-Some.is at c.in_ok-left.ensures.read in
    let lo : FitsSigned w64 c.args.domain.lo = search rules in
    let hi : FitsSigned w64 c.args.domain.hi = search rules in
    reads-number (kind.DashZero c.args.domain) dash_text c.args.domain.lo c.args.domain.hi _ _ c.args.text.now c.in-Some.left.now c.args.into.now c.read_dash_zero.new.into
    (to_z-of_z w64 c.args.domain.lo lo) (to_z-of_z w64 c.args.domain.hi hi) (λ n h. h) (λ n. refl) read
