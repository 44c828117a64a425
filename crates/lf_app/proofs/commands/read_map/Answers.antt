use Rattle.std.proofs.Common.{ℕ, List, subst}
use Rattle.std.specs.Prelude.{IfOk}
use Rattle.std.proofs.lemmas.Result.{IfOk-weaker}
use Rattle.lf_words.specs.declared.command.Verb.TheVariants as verbs
use Rattle.lf_app.specs.declared.commands.Command.TheVariants.{Lines}
use Rattle.lf_app.specs.declared.commands.Job.TheVariants as jobs
use Rattle.lf_translate.specs.Translations.{Plan}
use Rattle.lf_app.specs.Commands.{IfAccepted, IsMapRefused, AsksToMap}
use Rattle.lf_app.proofs.Asking.{map_refusal, map_asks}
use Rattle.lf_app.proofs.commands.read_map.Goals as goal

pub parse_map-requires : goal.parse_map-requires
parse_map-requires c = rw c.as_str.ensures c.requires

pub returns-in_ok-copy-in-Ok : goal.returns-in_ok-copy-in-Ok
returns-in_ok-copy-in-Ok c =
    let text = c.args.text.now in
    let is = rw c.as_str.ensures at c.in-Ok.ensures.parsed in
    let plan : List ℕ → Plan = λ t. record { source = c.args.source; target = c.args.target; map = t } in
    let asked = subst (λ (t : List ℕ). IfOk c.ask_translate.result (IfAccepted verbs.Translate c.args.source (Lines (jobs.Translate (plan t))))) c.in_ok-copy-in-Ok.ensures c.ask_translate.ensures in
    IfOk-weaker c.ask_translate.result (IfAccepted verbs.Translate c.args.source (Lines (jobs.Translate (plan text)))) (AsksToMap (plan text)) (λ command h. map_asks c.args.source c.args.target text c.in-Ok.map command is h) asked

pub returns-in-Err : goal.returns-in-Err
returns-in-Err c =
    let text = c.args.text.now in
    let so = rw c.as_str.ensures at c.in-Err.ensures.faulty in
    let plan : Plan = record { source = c.args.source; target = c.args.target; map = text } in
    IfOk-weaker c.map_refused.result (IsMapRefused c.in-Err.fault) (AsksToMap plan) (λ command h. map_refusal c.args.source c.args.target text c.in-Err.fault command so h) c.map_refused.ensures
