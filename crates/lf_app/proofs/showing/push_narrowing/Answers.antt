use Rattle.std.proofs.Common.{◌++◌}
use Rattle.std.specs.Prelude.{codes}
use Rattle.std.proofs.lemmas.Result.{on_ok_weaker}
use Rattle.lf_app.specs.Outcome.{side_text, fault_text}
use Rattle.lf_app.proofs.Texts.{added_more}
use Rattle.lf_app.proofs.showing.push_narrowing.Goals as goal

pub returns : goal.returns
returns c = on_ok_weaker c.push_cause.result (λ e.
    let old = c.args.into.now in
    let side = codes "logfmt: " ++ side_text c.args.which in
    let two = added_more old c.push_side.new.into c.extend.new.self side (codes " narrowing: ") c.in_ok-push_side.ensures c.in_ok-extend.ensures.ok in
    added_more old c.extend.new.self c.push_cause.new.into (side ++ codes " narrowing: ") (fault_text c.args.fault) two e) c.push_cause.ensures
