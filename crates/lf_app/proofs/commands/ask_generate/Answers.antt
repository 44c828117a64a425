use Rattle.std.proofs.Common.{ap}
use Rattle.std.proofs.lemmas.Result.{IfOk-weaker}
use Rattle.lf_format.specs.Shape.{Shape}
use Rattle.lf_words.specs.declared.command.Verb.TheVariants as verbs
use Rattle.lf_app.specs.declared.commands.Command.TheVariants.{Generate}
use Rattle.lf_app.specs.Commands.{IsRefusedFor, IfAccepted, accepted}
use Rattle.lf_app.proofs.Asking.{refused_for}
use Rattle.lf_app.proofs.commands.ask_generate.Goals as goal

pub returns-in-Ok : goal.returns-in-Ok
returns-in-Ok c = accepted c.in-Ok.ensures.ok (ap (λ (f : Shape). Generate f c.args.seed c.args.count) c.in-Ok.ensures.same)

pub returns : goal.returns
returns c =
    let e = c.in-Err.ensures in
    let why = c.in-Err.field-0.cause in
    let one = Generate c.args.format c.args.seed c.args.count in
    IfOk-weaker c.refused.result (IsRefusedFor verbs.Gen why) (IfAccepted verbs.Gen c.args.format one) (refused_for verbs.Gen c.args.format one why e.too_large e.hash e.ambiguous) c.refused.ensures
