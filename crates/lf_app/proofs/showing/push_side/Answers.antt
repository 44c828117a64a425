use Rattle.std.proofs.Common.{◌≡◌, ◌++◌, List, ℕ, subst}
use Rattle.std.specs.Prelude.{codes}
use Rattle.std.proofs.lemmas.Result.{on_ok_weaker}
use Rattle.lf_app.specs.Outcome.{side_text}
use Rattle.lf_app.proofs.Texts.{added_more}
use Rattle.lf_app.proofs.showing.push_side.Goals as goal

pub returns : goal.returns
returns c = on_ok_weaker c.extend-2.result (λ e.
    let word = subst (λ (w : List ℕ). c.extend-2.new.self ≡ c.extend.new.self ++ w) c.side_word.ensures e in
    added_more c.args.into.now c.extend.new.self c.extend-2.new.self (codes "logfmt: ") (side_text c.args.which) c.in_ok-extend.ensures.ok word) c.extend-2.ensures.ok
