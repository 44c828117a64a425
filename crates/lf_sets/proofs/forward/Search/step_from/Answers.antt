use Rattle.std.proofs.Common.{◌≡◌, ℕ, ◌+◌, ◌∙◌, List, ap, subst}
use Rattle.std.proofs.lemmas.List.{get_or_default}
use Rattle.lf_core.specs.declared.marked.Move.{Move}
use Rattle.lf_core.specs.Marked.{Machine}
use Rattle.lf_sets.specs.declared.forest.Node.{Node}
use Rattle.lf_sets.specs.Forests.{no_node, point_at, GainsMoves, GainsStep}
use Rattle.lf_sets.proofs.Joins.{ok_map}
use Rattle.lf_sets.proofs.Levels.{step_of_moves}
use Rattle.lf_sets.proofs.forward.Search.step_from.Goals as goal

pub returns-clause-gains : goal.returns-clause-gains
returns-clause-gains g c =
    let m : Machine = g.M.Marked.machine c.args.m.now in
    let old : List Node = c.args.self.now.forest.nodes.items in
    let new : List Node = c.add_moves.new.self.nodes.items in
    let at : ℕ = c.args.at in
    let point : c.index.result.now.point ≡ point_at old at = ap (λ (x : Node). x.point) (c.index.ensures ∙ get_or_default old at c.index.result.now no_node c.requires.at) in
    let moves : c.as_slice.result.now ≡ m.moves (point_at old at) c.args.byte = c.as_slice.ensures ∙ c.in_ok-moves.ensures.ok ∙ ap (λ (p : ℕ). m.moves p c.args.byte) point in
    ok_map (GainsMoves c.args.level at c.as_slice.result.now old new) (GainsStep m c.args.byte c.args.level at (at + 1) old new) c.add_moves.result
    (λ h. step_of_moves m c.args.byte c.args.level at old new c.requires.at (subst (λ (xs : List Move). GainsMoves c.args.level at xs old new) moves h))
    c.add_moves.ensures.gains
