use Rattle.std.proofs.Common.{refl, subst}
use Rattle.std.proofs.lemmas.Result.{IfOk-weaker}
use Rattle.lf_app.specs.Commands.{BySide, faulty, given, AsksOf}
use Rattle.lf_app.specs.Sides.{IsSideFault}
use Rattle.lf_app.specs.declared.commands.WhichSide.TheVariants as which
use Rattle.lf_app.proofs.commands.read_source.Goals as goal

pub returns-in-Ok : goal.returns-in-Ok
returns-in-Ok c =
    IfOk-weaker c.ask.result (AsksOf c.args.purpose c.in-Ok.format) (BySide which.Source c.args.two c.args.source.now (AsksOf c.args.purpose)) (λ command h. given c.in-Ok.format c.in-Ok.ensures.given h) c.ask.ensures

pub returns-in-Err-Refused : goal.returns-in-Err-Refused
returns-in-Err-Refused c =
    let why = c.in-Err-Refused in
    let fault = subst (IsSideFault which.Source c.args.two c.args.source.now) why.field-0-is why.ensures.fault in
    rw why.refusal-is (faulty why.refusal fault refl)
