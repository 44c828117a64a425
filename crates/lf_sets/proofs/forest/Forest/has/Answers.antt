use Rattle.std.proofs.Common.{◌≡◌, ◌≤◌, ◌<◌, ◌∙◌, ℕ, List, length, get_or, sym, ap, arith, eq-eqb}
use Rattle.std.proofs.lemmas.Bool.{eqb-true}
use Rattle.std.proofs.lemmas.List.{get_or_default}
use Rattle.lf_sets.specs.declared.forest.Node.{Node}
use Rattle.lf_sets.specs.Forests.{no_node, point_at}
use Rattle.lf_sets.proofs.Levels.{numbered_at}
use Rattle.lf_sets.proofs.forest.Forest.has.Goals as goal

pub returns : goal.returns
returns c =
    let nodes : List Node = c.args.self.now.nodes.items in
    let places : List ℕ = c.args.self.now.places.items in
    let place : ℕ = c.index-place.result.now in
    let lt : place < length nodes = omega (arith, c.if-place-len.false, c.len.ensures, c.args.self.now.nodes.ok.0) in
    let at : place ≡ get_or places c.args.point 0 = c.index-place.ensures ∙ get_or_default places c.args.point place 0 c.requires.point in
    let node : c.index.result.now.point ≡ point_at nodes place = ap (λ (n : Node). n.point) (c.index.ensures ∙ get_or_default nodes place c.index.result.now no_node lt) in (
      λ t. (place, c.if-place-level.false, lt, sym node ∙ eqb-true c.index.result.now.point c.args.point t),
      λ h. eq-eqb c.index.result.now.point c.args.point (node ∙ (numbered_at c.args.level nodes places c.args.point place c.requires.numbered (sym at) h).2),
    )
