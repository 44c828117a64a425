use Rattle.std.proofs.Common.{◌≡◌, ◌++◌, List, ℕ, subst}
use Rattle.std.specs.Prelude.{codes}
use Rattle.std.specs.Fmt.{decimal}
use Rattle.lf_app.specs.Outcome.{cause_text, side_text}
use Rattle.lf_app.proofs.Texts.{added_more}
use Rattle.lf_app.proofs.showing.push_fault.Goals as goal

pub returns : goal.returns
returns c =
    let old = c.args.into.now in
    let side = c.push_side.new.into in
    let first = c.extend.new.self in
    let second = c.extend-2.new.self in
    let third = c.extend-3.new.self in
    let cause = subst (λ (w : List ℕ). second ≡ first ++ w) c.cause_word.ensures c.in_ok-extend-2.ensures.ok in
    let word = cause_text c.args.cause in
    let named = codes "logfmt: " ++ side_text c.args.which in
    let said = named ++ codes " format: " in
    let one = added_more old side first named (codes " format: ") c.in_ok-push_side.ensures c.in_ok-extend.ensures.ok in
    let two = added_more old first second said word one cause in
    let three = added_more old second third (said ++ word) (codes " at ") two c.in_ok-extend-3.ensures.ok in
    added_more old third c.push_number.new.into (said ++ word ++ codes " at ") (decimal c.args.place) three c.in_ok-push_number.ensures
