use Rattle.std.proofs.Common.{◌≡◌, ℕ, ◌+◌, ◌-◌, ◌<◌, List, [], ◌++◌, length, drop, reverse, sym, subst, arith}
use Rattle.std.proofs.lemmas.List.{drop_all}
use Rattle.lf_core.specs.Marked.{Machine}
use Rattle.lf_sets.specs.declared.forest.Node.{Node}
use Rattle.lf_core.specs.Runs.{RunsToEnd}
use Rattle.lf_sets.specs.Forests.{point_at, before_at, IsTrail}
use Rattle.lf_sets.proofs.Levels.{trail_below, trail_step, walk_more}
use Rattle.lf_sets.proofs.backward.walk_back.Goals as goal

pub loop-k-init : goal.loop-k-init
loop-k-init g c =
    let m : Machine = g.M.Marked.machine c.args._m.now in
    let whole : length c.args.block.now - 0 ≡ length c.args.block.now = omega arith in
    let none : drop (length c.args.block.now - 0) c.args.block.now ≡ [] = drop_all (length c.args.block.now - 0) c.args.block.now (omega arith) in
    record {
      trail = subst (λ (n : ℕ). IsTrail m c.args.points.now c.args.block.now c.args.nodes.now n c.args.end) (sym whole) c.requires;
      below = trail_below m c.args.points.now c.args.block.now c.args.nodes.now (length c.args.block.now) c.args.end c.requires;
      ends = λ rest h. subst (λ (bs : List ℕ). RunsToEnd m (point_at c.args.nodes.now c.args.end) (bs ++ rest) (reverse c.args.back.now.items)) (sym none) h;
    }

pub loop-k-preserved : goal.loop-k-preserved
loop-k-preserved g c =
    let m : Machine = g.M.Marked.machine c.args._m.now in
    let points : List ℕ = c.args.points.now in
    let block : List ℕ = c.args.block.now in
    let nodes : List Node = c.args.nodes.now in
    let at : ℕ = c.loop-k.at in
    let lt : c.loop-k._k < length block = c.loop-k-test.true in
    let left : ℕ = length block - (c.loop-k._k + 1) in
    let next : length c.args.block.now - c.loop-k._k ≡ length c.args.block.now - (c.loop-k._k + 1) + 1 = omega (arith, lt) in
    let trail : IsTrail m points block nodes (left + 1) at = subst (λ (n : ℕ). IsTrail m points block nodes n at) next c.loop-k.invariant.trail in
    let rest_of : IsTrail m points block nodes left (before_at nodes at) = (trail_step m points block nodes left at trail).1 in
    record {
      trail = rest_of;
      below = trail_below m points block nodes left (before_at nodes at) rest_of;
      ends = λ rest h. walk_more m points block nodes left at rest c.loop-k.back.items c.push.new.self.items (omega (arith, lt)) trail c.in_ok-push.ensures.items
          (subst (λ (n : ℕ). RunsToEnd m (point_at nodes at) (drop n block ++ rest) (reverse c.loop-k.back.items)) next (c.loop-k.invariant.ends rest h));
    }
