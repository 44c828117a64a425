use Rattle.std.proofs.Common.{◌≡◌, ℕ, ◌+◌, ◌<◌, ◌≤◌, ◌∙◌, List, length, subst, arith}
use Rattle.lf_core.specs.Marked.{Machine}
use Rattle.lf_sets.specs.declared.forest.Node.{Node}
use Rattle.lf_sets.specs.Forests.{IsNumbered, GainsStep}
use Rattle.lf_sets.proofs.Levels.{step_more}
use Rattle.lf_sets.proofs.forward.Search.step.Goals as goal

pub loop-at-preserved : goal.loop-at-preserved
loop-at-preserved g c =
    let m : Machine = g.M.Marked.machine c.args.m.now in
    let old : List Node = c.args.self.now.forest.nodes.items in
    let n : c.len-level.result ≡ length old = c.len-level.ensures ∙ c.args.self.now.forest.nodes.ok.0 in
    let low : c.loop-at.at < length old = omega (arith, n, c.loop-at-test.true) in
    let one : GainsStep m c.args.byte (length old) c.loop-at.at (c.loop-at.at + 1) c.loop-at.self.forest.nodes.items c.step_from.new.self.forest.nodes.items =
    subst (λ (k : ℕ). GainsStep m c.args.byte k c.loop-at.at (c.loop-at.at + 1) c.loop-at.self.forest.nodes.items c.step_from.new.self.forest.nodes.items) n c.in_ok-step_from.ensures.gains in
    record {
      gains = step_more m c.args.byte (length old) c.args.last c.loop-at.at old c.loop-at.self.forest.nodes.items c.step_from.new.self.forest.nodes.items c.loop-at.auto.at low c.loop-at.invariant.gains one;
      numbered = subst (λ (k : ℕ). IsNumbered k c.step_from.new.self.forest.nodes.items c.step_from.new.self.forest.places.items) n c.in_ok-step_from.ensures.numbered;
      places = c.in_ok-step_from.ensures.places;
    }

pub returns-clause-gains : goal.returns-clause-gains
returns-clause-gains g c =
    let m : Machine = g.M.Marked.machine c.args.m.now in
    let old : List Node = c.args.self.now.forest.nodes.items in
    let n : c.len-level.result ≡ length old = c.len-level.ensures ∙ c.args.self.now.forest.nodes.ok.0 in
    let most : c.loop-at.at ≤ c.len-level.result = c.loop-at.auto.at-end (omega (arith, n, c.requires.last)) in
    let q : c.loop-at.at ≡ length old = omega (arith, n, most, c.loop-at-test.false) in
    subst (λ (k : ℕ). GainsStep m c.args.byte (length old) c.args.last k old c.loop-at.self.forest.nodes.items) q c.loop-at.invariant.gains
