use Rattle.std.specs.Prelude.{codes}
use Rattle.std.proofs.lemmas.Result.{on_ok_weaker}
use Rattle.lf_app.specs.Outcome.{map_fault_text}
use Rattle.lf_app.proofs.Texts.{added_more}
use Rattle.lf_app.proofs.showing.push_map.Goals as goal

pub returns : goal.returns
returns c = on_ok_weaker c.push_map_cause.result (λ e.
    added_more c.args.into.now c.extend.new.self c.push_map_cause.new.into (codes "logfmt: map: ") (map_fault_text c.args.fault) c.in_ok-extend.ensures.ok e) c.push_map_cause.ensures
