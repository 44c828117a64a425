use Rattle.std.proofs.Common.{◌≡◌, ℕ, ◌+◌, ◌-◌, ◌*◌, ◌/◌, ◌<◌, ◌≤◌, List, [], ◌∷◌, length, refl, sym, subst, take, drop, reverse, arith}
use Rattle.lf_core.specs.declared.marked.Move.{Move}
use Rattle.lf_core.specs.Marked.{Machine, IsMachine, IsWholeRun}
use Rattle.lf_sets.specs.declared.blocks.TheConstants.{BLOCK}
use Rattle.lf_sets.specs.declared.forest.Node.{Node}
use Rattle.lf_core.specs.Runs.{RunsToEnd}
use Rattle.lf_sets.specs.Reached.{IsLedTo, ArePoints, AreReached}
use Rattle.lf_sets.specs.Forests.{point_at, IsTraced}
use Rattle.lf_sets.proofs.Runs.{reached_below, led_cut, from_start}
use Rattle.lf_sets.proofs.Cutting.{block_next, block_rest, level_below, no_whole, last_ends}
use Rattle.lf_sets.proofs.reader.SetReader.run.Goals as goal

pub trace-requires-clause-points : goal.trace-requires-clause-points
trace-requires-clause-points g c =
    let m : Machine = g.M.Marked.machine c.args.m.now in
    let lawful : IsMachine m = g.met.M.Marked.laws c.args.m.now in
    let last : ℕ = c.saturating_sub-last.result / 1024 in
    let are : AreReached m (take (last * BLOCK) c.args.line.now) c.index.result.now.items = c.in_ok-sets.ensures.each last c.index.result.now (omega arith) c.index.ensures in
    subst (λ (ps : List ℕ). ArePoints m ps) (sym c.deref.ensures.value) (reached_below m (take (last * BLOCK) c.args.line.now) c.index.result.now.items lawful are)

pub end_place-requires : goal.end_place-requires
end_place-requires g c =
    let m : Machine = g.M.Marked.machine c.args.m.now in
    let lawful : IsMachine m = g.met.M.Marked.laws c.args.m.now in
    let last : ℕ = c.saturating_sub-last.result / 1024 in
    let are : AreReached m (take (last * BLOCK) c.args.line.now) c.index.result.now.items = c.in_ok-sets.ensures.each last c.index.result.now (omega arith) c.index.ensures in
    let below : ArePoints m c.deref.result.now = subst (λ (ps : List ℕ). ArePoints m ps) (sym c.deref.ensures.value) (reached_below m (take (last * BLOCK) c.args.line.now) c.index.result.now.items lawful are) in
    let traced : IsTraced m c.deref.result.now c.block_at-block.result.now (length c.block_at-block.result.now) c.as_slice-nodes.result.now c.in_ok-level.level =
    subst (λ (nodes : List Node). IsTraced m c.deref.result.now c.block_at-block.result.now (length c.block_at-block.result.now) nodes c.in_ok-level.level) (sym c.as_slice-nodes.ensures.value) c.in_ok-level.ensures.traced in
    λ place from lt. level_below m c.deref.result.now c.block_at-block.result.now c.as_slice-nodes.result.now c.in_ok-level.level (point_at c.as_slice-nodes.result.now place) lawful below traced (place, from, lt, refl)

pub returns-in_default : goal.returns-in_default
returns-in_default g c =
    let m : Machine = g.M.Marked.machine c.args.m.now in
    let line : List ℕ = c.args.line.now in
    let block : List ℕ = c.block_at-block.result.now in
    let last : ℕ = c.saturating_sub-last.result / 1024 in
    let most : length line ≤ last * BLOCK + BLOCK = omega (arith, c.saturating_sub-last.ensures) in
    let are : AreReached m (take (last * BLOCK) line) c.deref.result.now =
    subst (λ (ps : List ℕ). AreReached m (take (last * BLOCK) line) ps) (sym c.deref.ensures.value) (c.in_ok-sets.ensures.each last c.index.result.now (omega arith) c.index.ensures) in
    let traced : IsTraced m c.deref.result.now block (length block) c.as_slice-nodes.result.now c.in_ok-level.level =
    subst (λ (nodes : List Node). IsTraced m c.deref.result.now block (length block) nodes c.in_ok-level.level) (sym c.as_slice-nodes.ensures.value) c.in_ok-level.ensures.traced in
    λ run whole. no_whole m line block c.deref.result.now (last * BLOCK) c.as_slice-nodes.result.now c.in_ok-level.level run (c.block_at-block.ensures.last most) are traced c.in_default.ensures whole

pub loop-k-init : goal.loop-k-init
loop-k-init g c =
    let m : Machine = g.M.Marked.machine c.args.m.now in
    let line : List ℕ = c.args.line.now in
    let block : List ℕ = c.block_at-block.result.now in
    let last : ℕ = c.saturating_sub-last.result / 1024 in
    let point : ℕ = c.in_ok-point.point in
    let back : List Move = c.walk_back.new.back.items in
    let all : c.saturating_sub-last.result / 1024 - 0 ≡ c.saturating_sub-last.result / 1024 = omega arith in
    let most : length line ≤ last * BLOCK + BLOCK = omega (arith, c.saturating_sub-last.ensures) in
    let are : AreReached m (take (last * BLOCK) line) c.deref-2.result.now =
    subst (λ (ps : List ℕ). AreReached m (take (last * BLOCK) line) ps) (sym c.deref-2.ensures.value) (c.in_ok-sets.ensures.each last c.index-2.result.now (omega arith) c.index-2.ensures) in
    let first : RunsToEnd m (point_at c.as_slice-nodes.result.now c.in-Some.end) [] (reverse c.in_ok-back.back.items) =
    subst (λ (r : List Move). RunsToEnd m (point_at c.as_slice-nodes.result.now c.in-Some.end) [] (reverse r)) (sym c.in_ok-back.ensures.items) (tt, c.in-Some.ensures.2) in
    record {
      led = subst (λ (n : ℕ). IsLedTo m (m.first ∷ []) (take (n * BLOCK) line) point) (sym all) (are.reached point c.in_ok-point.ensures.from);
      ends = subst (λ (n : ℕ). RunsToEnd m point (drop (n * BLOCK) line) (reverse back)) (sym all)
          (last_ends m line block (last * BLOCK) point (reverse back) (c.block_at-block.ensures.last most) (c.in_ok-point.ensures.ends [] first));
      places = c.in_ok-level.ensures.places;
    }

pub back_over-requires-clause-points : goal.back_over-requires-clause-points
back_over-requires-clause-points g c =
    let m : Machine = g.M.Marked.machine c.args.m.now in
    let lawful : IsMachine m = g.met.M.Marked.laws c.args.m.now in
    let at : ℕ = c.saturating_sub-last.result / 1024 - 1 - c.loop-k.k in
    let are : AreReached m (take (at * BLOCK) c.args.line.now) c.index-in-loop-k.result.now.items = c.in_ok-sets.ensures.each at c.index-in-loop-k.result.now (omega arith) c.index-in-loop-k.ensures in
    subst (λ (ps : List ℕ). ArePoints m ps) (sym c.deref-in-loop-k.ensures.value) (reached_below m (take (at * BLOCK) c.args.line.now) c.index-in-loop-k.result.now.items lawful are)

pub back_over-requires-clause-point : goal.back_over-requires-clause-point
back_over-requires-clause-point g c =
    let m : Machine = g.M.Marked.machine c.args.m.now in
    let line : List ℕ = c.args.line.now in
    let block : List ℕ = c.block_at-block-in-loop-k.result.now in
    let last : ℕ = c.saturating_sub-last.result / 1024 in
    let at : ℕ = c.saturating_sub-last.result / 1024 - 1 - c.loop-k.k in
    let lt : c.loop-k.k < last = c.loop-k-test.true in
    let next : c.saturating_sub-last.result / 1024 - c.loop-k.k ≡ c.saturating_sub-last.result / 1024 - 1 - c.loop-k.k + 1 = omega (arith, lt) in
    let fits : at * BLOCK + BLOCK ≤ length line = omega (arith, lt, c.saturating_sub-last.ensures) in
    let long : length block ≡ BLOCK = c.block_at-block-in-loop-k.ensures.full fits in
    let are : AreReached m (take (at * BLOCK) line) c.deref-in-loop-k.result.now =
    subst (λ (ps : List ℕ). AreReached m (take (at * BLOCK) line) ps) (sym c.deref-in-loop-k.ensures.value) (c.in_ok-sets.ensures.each at c.index-in-loop-k.result.now (omega arith) c.index-in-loop-k.ensures) in
    led_cut m (take (at * BLOCK) line) block c.deref-in-loop-k.result.now c.loop-k.point are
    (subst (λ (bs : List ℕ). IsLedTo m (m.first ∷ []) bs c.loop-k.point) (block_next line block at BLOCK long c.block_at-block-in-loop-k.ensures.is)
    (subst (λ (n : ℕ). IsLedTo m (m.first ∷ []) (take (n * BLOCK) line) c.loop-k.point) next c.loop-k.invariant.led))

pub loop-k-preserved : goal.loop-k-preserved
loop-k-preserved g c =
    let m : Machine = g.M.Marked.machine c.args.m.now in
    let line : List ℕ = c.args.line.now in
    let block : List ℕ = c.block_at-block-in-loop-k.result.now in
    let last : ℕ = c.saturating_sub-last.result / 1024 in
    let at : ℕ = c.saturating_sub-last.result / 1024 - 1 - c.loop-k.k in
    let point : ℕ = c.in_ok-point-2.point in
    let back : List Move = c.back_over.new.back.items in
    let lt : c.loop-k.k < last = c.loop-k-test.true in
    let next : c.saturating_sub-last.result / 1024 - c.loop-k.k ≡ c.saturating_sub-last.result / 1024 - 1 - c.loop-k.k + 1 = omega (arith, lt) in
    let here : c.saturating_sub-last.result / 1024 - 1 - c.loop-k.k ≡ c.saturating_sub-last.result / 1024 - (c.loop-k.k + 1) = omega (arith, lt) in
    let fits : at * BLOCK + BLOCK ≤ length line = omega (arith, lt, c.saturating_sub-last.ensures) in
    let long : length block ≡ BLOCK = c.block_at-block-in-loop-k.ensures.full fits in
    let are : AreReached m (take (at * BLOCK) line) c.deref-in-loop-k.result.now =
    subst (λ (ps : List ℕ). AreReached m (take (at * BLOCK) line) ps) (sym c.deref-in-loop-k.ensures.value) (c.in_ok-sets.ensures.each at c.index-in-loop-k.result.now (omega arith) c.index-in-loop-k.ensures) in
    let after : RunsToEnd m c.loop-k.point (drop ((at + 1) * BLOCK) line) (reverse c.loop-k.back.items) =
    subst (λ (n : ℕ). RunsToEnd m c.loop-k.point (drop (n * BLOCK) line) (reverse c.loop-k.back.items)) next c.loop-k.invariant.ends in
    let ends : RunsToEnd m point (drop (at * BLOCK) line) (reverse back) =
    subst (λ (bs : List ℕ). RunsToEnd m point bs (reverse back)) (sym (block_rest line block at BLOCK long c.block_at-block-in-loop-k.ensures.is)) (c.in_ok-point-2.ensures.ends (drop ((at + 1) * BLOCK) line) after) in
    record {
      led = subst (λ (n : ℕ). IsLedTo m (m.first ∷ []) (take (n * BLOCK) line) point) here (are.reached point c.in_ok-point-2.ensures.from);
      ends = subst (λ (n : ℕ). RunsToEnd m point (drop (n * BLOCK) line) (reverse back)) here ends;
      places = c.in_ok-point-2.ensures.places;
    }

pub returns : goal.returns
returns g c =
    let m : Machine = g.M.Marked.machine c.args.m.now in
    let line : List ℕ = c.args.line.now in
    let point : ℕ = c.loop-k.point in
    let back : List Move = c.loop-k.back.items in
    let done : c.saturating_sub-last.result / 1024 - c.loop-k.k ≡ 0 = omega (arith, c.loop-k-test.false) in
    let led : IsLedTo m (m.first ∷ []) [] point = subst (λ (n : ℕ). IsLedTo m (m.first ∷ []) (take (n * BLOCK) line) point) done c.loop-k.invariant.led in
    let ends : RunsToEnd m point line (reverse back) = subst (λ (n : ℕ). RunsToEnd m point (drop (n * BLOCK) line) (reverse back)) done c.loop-k.invariant.ends in
    subst (λ (r : List Move). IsWholeRun m line r) (sym c.turned.ensures) (from_start m line point (reverse back) led ends)
