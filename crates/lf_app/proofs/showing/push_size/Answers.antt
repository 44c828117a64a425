use Rattle.std.proofs.Common.{◌++◌}
use Rattle.std.specs.Prelude.{codes}
use Rattle.std.specs.Fmt.{decimal}
use Rattle.std.proofs.lemmas.Result.{on_ok_weaker}
use Rattle.lf_limits.specs.Limits.{most_size}
use Rattle.lf_app.proofs.Texts.{added_more}
use Rattle.lf_app.proofs.showing.push_size.Goals as goal

pub returns : goal.returns
returns c = on_ok_weaker c.push_number-2.result (λ e.
    let old = c.args.into.now in
    let first = c.extend.new.self in
    let second = c.push_number.new.into in
    let third = c.extend-2.new.self in
    let said = codes "logfmt: size " in
    let size = decimal c.args.size in
    let two = added_more old first second said size c.in_ok-extend.ensures.ok c.in_ok-push_number.ensures in
    let three = added_more old second third (said ++ size) (codes " over ") two c.in_ok-extend-2.ensures.ok in
    added_more old third c.push_number-2.new.into (said ++ size ++ codes " over ") (decimal most_size) three e) c.push_number-2.ensures
