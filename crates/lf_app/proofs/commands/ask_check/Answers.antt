use Rattle.std.proofs.Common.{ap, length, ◌∙◌}
use Rattle.std.specs.Prelude.{ℕ}
use Rattle.std.proofs.lemmas.Result.{IfOk-weaker}
use Rattle.lf_format.specs.Keeps.{slots_in}
use Rattle.lf_format.specs.Shape.{Shape}
use Rattle.lf_words.specs.declared.command.Verb.TheVariants as verbs
use Rattle.lf_app.specs.declared.commands.Command.TheVariants.{Readable}
use Rattle.lf_app.specs.Commands.{IsRefusedFor, IfAccepted, accepted}
use Rattle.lf_app.proofs.Asking.{refused_for}
use Rattle.lf_app.proofs.commands.ask_check.Goals as goal

pub returns-in-Ok : goal.returns-in-Ok
returns-in-Ok c =
    accepted c.in-Ok.ensures.ok (ap (λ (n : ℕ). Readable n) (c.slots.ensures ∙ ap (λ (f : Shape). length (slots_in f.pieces)) (c.format.ensures ∙ c.in-Ok.ensures.same)))

pub returns : goal.returns
returns c =
    let e = c.in-Err.ensures in
    let why = c.in-Err.field-0.cause in
    let one = Readable (length (slots_in c.args.format.pieces)) in
    IfOk-weaker c.refused.result (IsRefusedFor verbs.Check why) (IfAccepted verbs.Check c.args.format one) (refused_for verbs.Check c.args.format one why e.too_large e.hash e.ambiguous) c.refused.ensures
