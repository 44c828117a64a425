use Rattle.std.proofs.Common.{refl, ap, ◌∙◌, subst}
use Rattle.std.specs.Prelude.{Err, IfOk, IfErr}
use Rattle.std.proofs.lemmas.Result.{IfOk-weaker, IfErr-weaker}
use Rattle.lf_format.specs.Shape.{Shape}
use Rattle.lf_app.specs.Sides.{dash_apart, Leaves, Gives, misspelled, IsSideFault, IsNarrowingFault}
use Rattle.lf_app.proofs.SideLaws.{side_fault}
use Rattle.lf_app.proofs.sides.read_side.Goals as goal

pub parse-requires : goal.parse-requires
parse-requires c = rw c.as_str.ensures c.requires.format

pub narrow_by-requires : goal.narrow_by-requires
narrow_by-requires c = c.requires.narrow

pub returns-in-Ok-clause-given : goal.returns-in-Ok-clause-given
returns-in-Ok-clause-given c =
    let side = c.args.side.now in
    let spelled = c.in-Ok.spelled in
    let spells = rw c.as_str.ensures at c.in-Ok.ensures.spelled in
    let whole = dash_apart c.args.two spelled in
    let left = subst (λ (f : Shape). IfOk c.narrow_by.result (Leaves side.narrow f)) c.told_apart.ensures c.narrow_by.ensures.left in
    IfOk-weaker c.narrow_by.result (Leaves side.narrow whole) (Gives c.args.two side) (λ left h. record { spelled = spelled; spells = spells; left = h }) left

pub returns-in-Ok-clause-fault : goal.returns-in-Ok-clause-fault
returns-in-Ok-clause-fault c =
    let side = c.args.side.now in
    let spelled = c.in-Ok.spelled in
    let spells = rw c.as_str.ensures at c.in-Ok.ensures.spelled in
    let whole = dash_apart c.args.two spelled in
    let fault = subst (λ (f : Shape). IfErr c.narrow_by.result (IsNarrowingFault c.args.which side.narrow f)) c.told_apart.ensures c.narrow_by.ensures.fault in
    IfErr-weaker c.narrow_by.result (IsNarrowingFault c.args.which side.narrow whole) (IsSideFault c.args.which c.args.two side) (λ f h. side_fault c.args.which c.args.two side spelled f spells h) fault

pub returns-in-Err-At-clause-fault : goal.returns-in-Err-At-clause-fault
returns-in-Err-At-clause-fault c =
    let at = c.in-Err-At in
    let fault = c.parse.ensures.faulty at.place at.cause (at.is ∙ ap Err at.field-0-is) in
    rw (at.place-is, at.cause-is) (misspelled at.place at.cause (rw c.as_str.ensures at fault) refl)
