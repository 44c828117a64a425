use Rattle.std.proofs.Common.{◌≡◌, ℕ, ◌+◌, ◌<◌, ◌∙◌, List, length, take, sym, subst, arith}
use Rattle.lf_core.specs.Marked.{Machine, IsMachine}
use Rattle.lf_sets.specs.declared.forest.Node.{Node}
use Rattle.lf_sets.specs.Forests.{point_at, IsNumbered, IsTraced}
use Rattle.lf_sets.proofs.Runs.{led_below}
use Rattle.lf_sets.proofs.Levels.{trail_leads, traced_more}
use Rattle.lf_sets.proofs.forward.Search.trace.Goals as goal

pub step-requires-clause-points : goal.step-requires-clause-points
step-requires-clause-points g c =
    let m : Machine = g.M.Marked.machine c.args.m.now in
    let lawful : IsMachine m = g.met.M.Marked.laws c.args.m.now in
    let nodes : List Node = c.loop-byte.self.forest.nodes.items in
    let k : ℕ = c.loop-byte.byte-index in
    let lt : k < length c.args.block.now = c.loop-byte-test.true in
    λ place from low. led_below m c.args.points.now (take k c.args.block.now) (point_at nodes place) lawful c.requires.points
    (trail_leads m c.args.points.now c.args.block.now nodes k place (omega (arith, lt)) (c.loop-byte.invariant.traced.trails place from low))

pub loop-byte-preserved : goal.loop-byte-preserved
loop-byte-preserved g c =
    let m : Machine = g.M.Marked.machine c.args.m.now in
    let nodes : List Node = c.loop-byte.self.forest.nodes.items in
    let new : List Node = c.step.new.self.forest.nodes.items in
    let k : ℕ = c.loop-byte.byte-index in
    let lt : k < length c.args.block.now = c.loop-byte-test.true in
    let n : c.len-level.result ≡ length nodes = c.len-level.ensures ∙ c.loop-byte.self.forest.nodes.ok.0 in
    record {
      traced = subst (λ (level : ℕ). IsTraced m c.args.points.now c.args.block.now (k + 1) new level) (sym n)
          (traced_more m c.args.points.now c.args.block.now k c.loop-byte.last nodes new lt c.loop-byte.invariant.traced c.in_ok-step.ensures.gains);
      numbered = λ _. subst (λ (level : ℕ). IsNumbered level new c.step.new.self.forest.places.items) (sym n) c.in_ok-step.ensures.numbered;
      places = c.in_ok-step.ensures.places;
    }
