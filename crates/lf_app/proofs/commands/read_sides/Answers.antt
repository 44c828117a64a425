use Rattle.std.proofs.Common.{false, refl, subst}
use Rattle.std.proofs.lemmas.Result.{IfOk-weaker}
use Rattle.lf_format.specs.Shape.{Shape}
use Rattle.lf_app.specs.Commands.{BySide, faulty, given, AsksToMap}
use Rattle.lf_app.specs.Sides.{IsSideFault}
use Rattle.lf_app.specs.declared.commands.Command.{Command}
use Rattle.lf_app.specs.declared.commands.WhichSide.TheVariants as which
use Rattle.lf_app.proofs.commands.read_sides.Goals as goal

pub returns-in-Ok : goal.returns-in-Ok
returns-in-Ok c =
    let asks : Shape → Command → Type 0 = λ from. BySide which.Target false c.args.target.now (λ to. AsksToMap (record { source = from; target = to; map = c.args.text.now })) in
    IfOk-weaker c.read_target.result (asks c.in-Ok.format) (BySide which.Source c.args.two c.args.source.now asks) (λ command h. given c.in-Ok.format c.in-Ok.ensures.given h) c.read_target.ensures

pub returns-in-Err-Refused : goal.returns-in-Err-Refused
returns-in-Err-Refused c =
    let why = c.in-Err-Refused in
    let fault = subst (IsSideFault which.Source c.args.two c.args.source.now) why.field-0-is why.ensures.fault in
    rw why.refusal-is (faulty why.refusal fault refl)
