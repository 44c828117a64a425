use Rattle.std.proofs.Common.{List, ℕ, Option, refl, sym, subst}
use Rattle.lf_app.specs.Sides.{Leaves, IsNarrowingFault}
use Rattle.lf_app.proofs.SideLaws.{narrowing_fault}
use Rattle.lf_app.proofs.sides.narrow_by.Goals as goal

pub narrow-requires : goal.narrow-requires
narrow-requires c = rw c.as_str.ensures (c.requires c.in-Some.text c.in-Some.is)

pub returns-in_default-clause-left : goal.returns-in_default-clause-left
returns-in_default-clause-left c = subst (λ (o : Option (List ℕ)). Leaves o c.args.format c.args.format) (sym c.in_default.is) refl

pub returns-in-Ok-clause-left : goal.returns-in-Ok-clause-left
returns-in-Ok-clause-left c =
    let narrows = rw c.as_str.ensures at c.in-Ok.ensures.narrowed in
    subst (λ (o : Option (List ℕ)). Leaves o c.args.format c.in-Ok.left) (sym c.in-Some.is) narrows

pub returns-clause-fault : goal.returns-clause-fault
returns-clause-fault c =
    let why = c.in-Err.field-0.fault in
    let faulty = rw c.as_str.ensures at c.in-Err.ensures.faulty in
    subst (IsNarrowingFault c.args.which c.args.narrowing.now c.args.format) (sym c.side_fault.ensures) (narrowing_fault c.args.which c.args.narrowing.now c.args.format c.in-Some.text why c.in-Some.is faulty)
