use Rattle.std.proofs.Common.{ap}
use Rattle.std.proofs.lemmas.Result.{IfOk-weaker}
use Rattle.lf_format.specs.Shape.{Shape}
use Rattle.lf_words.specs.declared.command.Verb.TheVariants as verbs
use Rattle.lf_app.specs.declared.commands.Command.TheVariants.{Lines}
use Rattle.lf_app.specs.declared.commands.Job.TheVariants as jobs
use Rattle.lf_app.specs.Commands.{IsRefusedFor, IfAccepted, accepted}
use Rattle.lf_app.proofs.Asking.{refused_for}
use Rattle.lf_app.proofs.commands.ask_read.Goals as goal

pub returns-in-Ok : goal.returns-in-Ok
returns-in-Ok c = accepted c.in-Ok.ensures.ok (ap (λ (f : Shape). Lines (jobs.Read f)) c.in-Ok.ensures.same)

pub returns : goal.returns
returns c =
    let e = c.in-Err.ensures in
    let why = c.in-Err.field-0.cause in
    let one = Lines (jobs.Read c.args.format) in
    IfOk-weaker c.refused.result (IsRefusedFor verbs.Read why) (IfAccepted verbs.Read c.args.format one) (refused_for verbs.Read c.args.format one why e.too_large e.hash e.ambiguous) c.refused.ensures
