use Rattle.std.proofs.Common.{ap, ◌∙◌, subst, sym}
use Rattle.std.proofs.lemmas.Result.{IfOk-weaker}
use Rattle.lf_format.specs.Shape.{Shape}
use Rattle.lf_map.specs.Filling.{IsMapOf}
use Rattle.lf_words.specs.declared.command.Verb.TheVariants as verbs
use Rattle.lf_app.specs.declared.commands.Command.TheVariants.{Lines}
use Rattle.lf_app.specs.declared.commands.Job.TheVariants as jobs
use Rattle.lf_translate.specs.Translations.{Plan}
use Rattle.lf_app.specs.Commands.{IsRefusedFor, IfAccepted, accepted}
use Rattle.lf_app.proofs.Asking.{refused_for}
use Rattle.lf_app.proofs.commands.ask_translate.Goals as goal

pub new-translation-requires : goal.new-translation-requires
new-translation-requires c =
    subst (λ (f : Shape). IsMapOf c.args.text f c.args.target c.args.map) (sym c.in-Ok.ensures.same) c.requires

pub returns-in-Ok : goal.returns-in-Ok
returns-in-Ok c =
    let plan : Shape → Plan = λ f. record { source = f; target = c.args.target; map = c.args.text } in
    accepted c.in-Ok.ensures.ok (ap (λ (p : Plan). Lines (jobs.Translate p)) (c.new-translation.ensures ∙ ap plan c.in-Ok.ensures.same))

pub returns-in-Err : goal.returns-in-Err
returns-in-Err c =
    let e = c.in-Err.ensures in
    let why = c.in-Err.field-0.cause in
    let plan : Plan = record { source = c.args.source; target = c.args.target; map = c.args.text } in
    let one = Lines (jobs.Translate plan) in
    IfOk-weaker c.refused.result (IsRefusedFor verbs.Translate why) (IfAccepted verbs.Translate c.args.source one) (refused_for verbs.Translate c.args.source one why e.too_large e.hash e.ambiguous) c.refused.ensures
