use Rattle.std.proofs.Common.{ℕ, List, get_or, take, sym, subst}
use Rattle.std.proofs.lemmas.List.{take_more}
use Rattle.lf_core.specs.declared.marked.Move.{Move}
use Rattle.lf_core.specs.Marked.{no_move}
use Rattle.lf_tables.specs.declared.ways.Back.{Back}
use Rattle.lf_tables.specs.Ways.{GainsMoves}
use Rattle.lf_tables.proofs.WayLaws.{more_gain}
use Rattle.lf_tables.proofs.ways.add_moves.Goals as goal

pub loop-step-preserved : goal.loop-step-preserved
loop-step-preserved c =
    let old : List Back = c.args.backs.now.items in
    let new : List Back = c.add.new.backs.items in
    let moves : List Move = c.args.moves.now in
    let i : ℕ = c.loop-step.step-index in
    subst (λ (xs : List Move). GainsMoves c.args.before xs old new) (sym (take_more moves i no_move c.loop-step-test.true))
    (more_gain c.args.before (take i moves) (get_or moves i no_move) old c.loop-step.backs.items new c.loop-step.invariant c.in_ok-add.ensures)
