use Rattle.std.proofs.Common.{List, sym, subst}
use Rattle.lf_core.specs.Marked.{Machine}
use Rattle.lf_sets.specs.declared.forest.Node.{Node}
use Rattle.lf_sets.specs.Forests.{HasPoint}
use Rattle.lf_sets.proofs.Cutting.{level_has}
use Rattle.lf_sets.proofs.blocks.back_over.Goals as goal

pub point_place-place-requires : goal.point_place-place-requires
point_place-place-requires g c =
    let m : Machine = g.M.Marked.machine c.args.m.now in
    subst (λ (nodes : List Node). HasPoint nodes c.in_ok-level.level c.args.point) (sym c.as_slice-nodes.ensures.value)
    (level_has m c.args.points.now c.args.block.now c.trace.new.self.forest.nodes.items c.in_ok-level.level c.args.point c.in_ok-level.ensures.traced c.requires.point)
