use Rattle.std.proofs.Common.{◌≡◌, ℕ, ◌+◌, ◌*◌, ◌≤◌, ◌<◌, ◌∙◌, inl, inr, List, [], ◌∷◌, ◌++◌, length, get_or, sym, ap, subst, take, arith}
use Rattle.std.specs.Prelude.{Vec}
use Rattle.std.specs.declared.alloc.Global.{Global}
use Rattle.std.proofs.lemmas.Bool.{cases_lt}
use Rattle.std.proofs.lemmas.List.{get_or_append_left, get_or_push, length_push}
use Rattle.lf_core.specs.Marked.{Machine, IsMachine}
use Rattle.lf_sets.specs.declared.blocks.TheConstants.{BLOCK}
use Rattle.lf_sets.specs.Reached.{ArePoints, AreReached}
use Rattle.lf_sets.proofs.Runs.{reached_below}
use Rattle.lf_sets.proofs.Cutting.{block_next, reached_next}
use Rattle.lf_sets.proofs.blocks.checkpoints.Goals as goal

pub trace-requires-clause-points : goal.trace-requires-clause-points
trace-requires-clause-points g c =
    let m : Machine = g.M.Marked.machine c.args.m.now in
    let lawful : IsMachine m = g.met.M.Marked.laws c.args.m.now in
    let are : AreReached m (take (c.loop-k.k * BLOCK) c.args.line.now) c.index.result.now.items = c.loop-k.invariant.each c.loop-k.k c.index.result.now (omega arith) c.index.ensures in
    subst (λ (ps : List ℕ). ArePoints m ps) (sym c.deref.ensures.value) (reached_below m (take (c.loop-k.k * BLOCK) c.args.line.now) c.index.result.now.items lawful are)

pub loop-k-preserved : goal.loop-k-preserved
loop-k-preserved g c =
    let m : Machine = g.M.Marked.machine c.args.m.now in
    let line : List ℕ = c.args.line.now in
    let k : ℕ = c.loop-k.k in
    let old : List (Vec ℕ Global) = c.loop-k.sets.items in
    let set : Vec ℕ Global = c.in_ok-points_from.field-0 in
    let lt : k < c.args.last = c.loop-k-test.true in
    let is : c.push-in-loop-k.new.self.items ≡ old ++ set ∷ [] = c.in_ok-push-2.ensures.items in
    let count : length old ≡ k + 1 = c.loop-k.invariant.len in
    let fits : k * BLOCK + BLOCK ≤ length line = omega (arith, lt, c.requires.last) in
    let long : length c.block_at.result.now ≡ BLOCK = c.block_at.ensures.full fits in
    let are : AreReached m (take (k * BLOCK) line) c.deref.result.now =
    subst (λ (ps : List ℕ). AreReached m (take (k * BLOCK) line) ps) (sym c.deref.ensures.value) (c.loop-k.invariant.each k c.index.result.now (omega arith) c.index.ensures) in
    let more : AreReached m (take ((k + 1) * BLOCK) line) set.items =
    reached_next m (take (k * BLOCK) line) c.block_at.result.now (take ((k + 1) * BLOCK) line) c.deref.result.now set.items c.trace.new.self.forest.nodes.items c.in_ok-level.level
    (block_next line c.block_at.result.now k BLOCK long c.block_at.ensures.is) are c.in_ok-level.ensures.traced c.in_ok-points_from.ensures in
    record {
      len = ap (λ (vs : List (Vec ℕ Global)). length vs) is ∙ length_push old set ∙ ap (λ (n : ℕ). n + 1) count;
      each = λ j v le e. elim (cases_lt j (k + 1)) [
        | inl before ↦ c.loop-k.invariant.each j v (omega (arith, before)) (e ∙ ap (λ (vs : List (Vec ℕ Global)). get_or vs j v) is ∙ get_or_append_left old (set ∷ []) v j (omega (arith, count, before)))
        | inr last ↦
            let q : k + 1 ≡ j = omega (arith, last, le) in
            let same : v ≡ set = e ∙ ap (λ (vs : List (Vec ℕ Global)). get_or vs j v) is ∙ get_or_push old set v j (omega (arith, count, q)) in
            subst (λ (w : Vec ℕ Global). AreReached m (take (j * BLOCK) line) w.items) (sym same)
            (subst (λ (n : ℕ). AreReached m (take (n * BLOCK) line) set.items) q more)
      ];
      places = c.in_ok-level.ensures.places;
    }
