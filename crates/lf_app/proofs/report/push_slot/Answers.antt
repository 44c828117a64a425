use Rattle.std.specs.Prelude.{codes}
use Rattle.std.specs.Fmt.{decimal}
use Rattle.std.proofs.lemmas.Result.{on_ok_weaker}
use Rattle.lf_app.proofs.Texts.{added_more}
use Rattle.lf_app.proofs.report.push_slot.Goals as goal

pub returns : goal.returns
returns c = on_ok_weaker c.push_number.result (λ e.
    added_more c.args.into.now c.extend.new.self c.push_number.new.into (codes " s") (decimal c.args.slot) c.in_ok-extend.ensures.ok e) c.push_number.ensures
