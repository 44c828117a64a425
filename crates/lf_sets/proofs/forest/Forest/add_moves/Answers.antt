use Rattle.std.proofs.Common.{ℕ, ◌∙◌, List, get_or, take, refl, sym, subst}
use Rattle.std.proofs.lemmas.List.{take_more}
use Rattle.lf_core.specs.declared.marked.Move.{Move}
use Rattle.lf_core.specs.Marked.{no_move}
use Rattle.lf_sets.specs.declared.forest.Node.{Node}
use Rattle.lf_sets.specs.Forests.{GainsMoves}
use Rattle.lf_sets.proofs.Levels.{moves_more}
use Rattle.lf_sets.proofs.forest.Forest.add_moves.Goals as goal

pub loop-step-preserved : goal.loop-step-preserved
loop-step-preserved c =
    let old : List Node = c.args.self.now.nodes.items in
    let new : List Node = c.add.new.self.nodes.items in
    let moves : List Move = c.args.moves.now in
    let i : ℕ = c.loop-step.step-index in
    let step : Move = get_or moves i no_move in
    let node : Node = record { point = step.to; mark = step.mark; before = c.args.at } in
    record {
      gains = subst (λ (xs : List Move). GainsMoves c.args.level c.args.at xs old new) (sym (take_more moves i no_move c.loop-step-test.true))
          (moves_more c.args.level c.args.at (take i moves) step node old c.loop-step.self.nodes.items new refl c.loop-step.invariant.gains c.in_ok-add.ensures.gains);
      numbered = c.in_ok-add.ensures.numbered;
      places = c.in_ok-add.ensures.places ∙ c.loop-step.invariant.places;
    }
