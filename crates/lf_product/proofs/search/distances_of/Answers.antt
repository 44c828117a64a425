use Rattle.std.proofs.Common.{◌≡◌, ℕ, arith, rules, ◌<◌, ◌≤◌, ◌+◌, ◌*◌, ◌∙◌, ap, length, subst, replicate, List, []}
use Rattle.std.proofs.lemmas.List.{length-map, length-replicate, nil_from_length}
use Rattle.lf_product.specs.declared.pages.TheConstants.{NONE, PAGE}
use Rattle.lf_product.specs.Pages.{pages_for}
use Rattle.lf_product.specs.declared.pair.SmallPair.{SmallPair}
use Rattle.lf_core.specs.Written.{machine_of}
use Rattle.lf_product.specs.Level.{Reached, AllBefore, room}
use Rattle.lf_product.proofs.Places.{steps_at-replicate}
use Rattle.lf_product.proofs.Levels.{next_complete, exact, steps_fit}
use Rattle.lf_product.proofs.search.distances_of.Goals as goal

pub first_level-requires-clause-none : goal.first_level-requires-clause-none
first_level-requires-clause-none c =
    let n : c.points.result ≡ (machine_of c.args.table.now).count = search (rules, length-map) in
    let is : c.in_ok-distances.distances ≡ replicate (pages_for (machine_of c.args.table.now).count * PAGE) NONE = c.in_ok-distances.ensures ∙ ap (λ (k : ℕ). replicate (pages_for k * PAGE) NONE) n in
    rw is (λ a b d ha hb. steps_at-replicate ((machine_of c.args.table.now).count) NONE a b d ha hb)

pub first_level-requires-clause-whole : goal.first_level-requires-clause-whole
first_level-requires-clause-whole c =
    let n : c.points.result ≡ (machine_of c.args.table.now).count = search (rules, length-map) in
    ap (λ (ds : List ℕ). length ds) c.in_ok-distances.ensures ∙ length-replicate (pages_for c.points.result * PAGE) NONE ∙ ap (λ (k : ℕ). pages_for k * PAGE) n

pub next_level-requires-clause-more : goal.next_level-requires-clause-more
next_level-requires-clause-more c = steps_fit (machine_of c.args.table.now).count c.levels.steps (room NONE c.levels.distances c.levels.level.items) c.requires.few c.levels.invariant.few

pub next_level-requires-clause-standing : goal.next_level-requires-clause-standing
next_level-requires-clause-standing c =
    let fit : c.levels.steps + 1 < NONE = steps_fit (machine_of c.args.table.now).count c.levels.steps (room NONE c.levels.distances c.levels.level.items) c.requires.few c.levels.invariant.few in
    rw c.deref-in-levels-2.ensures.value (record { few = c.requires.few; small = omega (arith, fit); whole = c.levels.invariant.whole; reached = c.levels.invariant.reached })

pub overflow_add-steps : goal.overflow_add-steps
overflow_add-steps c =
    let fit : c.levels.steps + 1 < NONE = steps_fit (machine_of c.args.table.now).count c.levels.steps (room NONE c.levels.distances c.levels.level.items) c.requires.few c.levels.invariant.few in
    omega (arith, fit)

pub levels-preserved : goal.levels-preserved
levels-preserved c =
    let m = machine_of c.args.table.now in
    let fit : c.levels.steps + 1 < NONE = steps_fit m.count c.levels.steps (room NONE c.levels.distances c.levels.level.items) c.requires.few c.levels.invariant.few in
    let some : 0 < length c.levels.level.items = search rules in
    let same : room NONE c.next_level.new.distances c.in_ok-level-2.level.items ≤ room NONE c.levels.distances [] = c.in_ok-level-2.ensures.going.less_room in
    let old : c.levels.steps + room NONE c.levels.distances c.levels.level.items ≤ pages_for m.count * PAGE = c.levels.invariant.few in
    record {
      whole = c.in_ok-level-2.ensures.going.grows.same_length ∙ c.levels.invariant.whole;
      reached = c.in_ok-level-2.ensures.going.reached;
      complete = next_complete m NONE c.levels.steps c.levels.distances c.next_level.new.distances c.levels.level.items c.in_ok-level-2.level.items c.requires.lawful fit c.levels.invariant.reached c.levels.invariant.complete c.in_ok-level-2.ensures.going.reached c.in_ok-level-2.ensures.going.grows
          (subst (λ (ps : List SmallPair). AllBefore m NONE c.next_level.new.distances ps) c.deref-in-levels-2.ensures.value c.in_ok-level-2.ensures.has);
      few = omega (arith, same, old, some);
    }

pub returns-clause-exact : goal.returns-clause-exact
returns-clause-exact c =
    let m = machine_of c.args.table.now in
    let empty : c.levels.level.items ≡ [] = nil_from_length c.levels.level.items (search rules) in
    let fit : c.levels.steps + 1 < NONE = steps_fit m.count c.levels.steps (room NONE c.levels.distances c.levels.level.items) c.requires.few c.levels.invariant.few in
    exact m NONE c.levels.steps c.levels.distances c.requires.lawful (omega (arith, fit))
    (subst (λ (ps : List SmallPair). Reached m m.count NONE c.levels.steps c.levels.distances ps) empty c.levels.invariant.reached)
    c.levels.invariant.complete
