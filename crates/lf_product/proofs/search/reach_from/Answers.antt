use Rattle.lf_product.proofs.search.reach_from.Goals as goal
use Rattle.std.proofs.Common.{◌≡◌, ℕ, arith, ◌∙◌, sym, [], get_or, inl, inr, subst, List}
use Rattle.std.specs.Prelude.{slice_index_or}
use Rattle.std.specs.List.{Contains}
use Rattle.std.proofs.lemmas.List.Elements.{Contains-get_or}
use Rattle.lf_product.specs.declared.arrivals.Arrival.{Arrival}
use Rattle.lf_product.specs.declared.pages.TheConstants.{NONE}
use Rattle.lf_core.specs.Written.{machine_of}
use Rattle.lf_product.specs.Arcs.{lists_of}
use Rattle.lf_product.specs.Level.{IsCovered}
use Rattle.lf_product.proofs.Levels.{going_trans}
use Rattle.lf_product.proofs.Sweep.{contains_take, contains_take_more, list_at, covered_grows, list_bound, contains_whole}

abbrev no_arrival : Arrival
no_arrival = record { from = 0; mark = 0; bytes = record { words = [] } }

pub reach_by-requires-clause-left : goal.reach_by-requires-clause-left
reach_by-requires-clause-left c =
    let xs_are : slice_index_or (lists_of c.args.arrivals.now) c.args.pair.left [] ≡ c.deref-x-items.result.now = list_at c.args.arrivals.now c.args.pair.left c.index-arrivals-pair.result (list_bound (machine_of c.args.table.now) c.args.arrivals.now c.args.pair.left c.args.pair c.requires.arrivals c.requires.left) c.index-arrivals-pair.is ∙ sym c.deref-x-items.ensures.value in
    c.requires.arrivals.from_below c.args.pair.left (get_or c.deref-x-items.result.now c.loop-x.x-index no_arrival) (rw xs_are (Contains-get_or c.deref-x-items.result.now c.loop-x.x-index no_arrival (omega arith)))

pub reach_by-requires-clause-right : goal.reach_by-requires-clause-right
reach_by-requires-clause-right c =
    let ys_are : slice_index_or (lists_of c.args.arrivals.now) c.args.pair.right [] ≡ c.deref-y-items.result.now = list_at c.args.arrivals.now c.args.pair.right c.index-arrivals-pair-in-loop-x.result (list_bound (machine_of c.args.table.now) c.args.arrivals.now c.args.pair.right c.args.pair c.requires.arrivals c.requires.right) c.index-arrivals-pair-in-loop-x.is ∙ sym c.deref-y-items.ensures.value in
    c.requires.arrivals.from_below c.args.pair.right (get_or c.deref-y-items.result.now c.loop-y.y-index no_arrival) (rw ys_are (Contains-get_or c.deref-y-items.result.now c.loop-y.y-index no_arrival (omega arith)))

pub reach_by-requires-clause-step : goal.reach_by-requires-clause-step
reach_by-requires-clause-step c =
    let xs_are : slice_index_or (lists_of c.args.arrivals.now) c.args.pair.left [] ≡ c.deref-x-items.result.now = list_at c.args.arrivals.now c.args.pair.left c.index-arrivals-pair.result (list_bound (machine_of c.args.table.now) c.args.arrivals.now c.args.pair.left c.args.pair c.requires.arrivals c.requires.left) c.index-arrivals-pair.is ∙ sym c.deref-x-items.ensures.value in
    let ys_are : slice_index_or (lists_of c.args.arrivals.now) c.args.pair.right [] ≡ c.deref-y-items.result.now = list_at c.args.arrivals.now c.args.pair.right c.index-arrivals-pair-in-loop-x.result (list_bound (machine_of c.args.table.now) c.args.arrivals.now c.args.pair.right c.args.pair c.requires.arrivals c.requires.right) c.index-arrivals-pair-in-loop-x.is ∙ sym c.deref-y-items.ensures.value in
    c.requires.arrivals.steps (get_or c.deref-x-items.result.now c.loop-x.x-index no_arrival) (get_or c.deref-y-items.result.now c.loop-y.y-index no_arrival)
    (rw xs_are (Contains-get_or c.deref-x-items.result.now c.loop-x.x-index no_arrival (omega arith)))
    (rw ys_are (Contains-get_or c.deref-y-items.result.now c.loop-y.y-index no_arrival (omega arith)))

pub loop-y-preserved : goal.loop-y-preserved
loop-y-preserved c =
    let m = machine_of c.args.table.now in
    let xs_are : slice_index_or (lists_of c.args.arrivals.now) c.args.pair.left [] ≡ c.deref-x-items.result.now = list_at c.args.arrivals.now c.args.pair.left c.index-arrivals-pair.result (list_bound (machine_of c.args.table.now) c.args.arrivals.now c.args.pair.left c.args.pair c.requires.arrivals c.requires.left) c.index-arrivals-pair.is ∙ sym c.deref-x-items.ensures.value in
    let ys_are : slice_index_or (lists_of c.args.arrivals.now) c.args.pair.right [] ≡ c.deref-y-items.result.now = list_at c.args.arrivals.now c.args.pair.right c.index-arrivals-pair-in-loop-x.result (list_bound (machine_of c.args.table.now) c.args.arrivals.now c.args.pair.right c.args.pair c.requires.arrivals c.requires.right) c.index-arrivals-pair-in-loop-x.is ∙ sym c.deref-y-items.ensures.value in
    let from_left = λ (x : Arrival) (h : Contains c.deref-x-items.result.now x). c.requires.arrivals.from_below c.args.pair.left x (rw xs_are h) in
    let from_right = λ (y : Arrival) (h : Contains c.deref-y-items.result.now y). c.requires.arrivals.from_below c.args.pair.right y (rw ys_are h) in
    let ds : List ℕ = c.loop-y.distances in
    let es : List ℕ = c.reach_by.new.distances in
    let this : Arrival = get_or c.deref-x-items.result.now c.loop-x.x-index no_arrival in
    let this_in : Contains c.deref-x-items.result.now this = Contains-get_or c.deref-x-items.result.now c.loop-x.x-index no_arrival (omega arith) in
    record {
      going = going_trans m NONE c.args.steps c.args.distances.now ds es c.args.waiting.now.items c.loop-y.waiting.items c.reach_by.new.waiting.items c.loop-y.invariant.going c.in_ok-reach_by.ensures.going;
      done = λ x y hx hy. covered_grows m.count NONE ds es x y c.args.pair c.in_ok-reach_by.ensures.going.grows (from_left x (contains_take c.deref-x-items.result.now c.loop-x.x-index x hx)) (from_right y (rw (← ys_are) hy)) (c.loop-y.invariant.done x y hx hy);
      row = λ y hy. elim (contains_take_more c.deref-y-items.result.now c.loop-y.y-index no_arrival y (omega arith) hy) [
        | inl h ↦ covered_grows m.count NONE ds es this y c.args.pair c.in_ok-reach_by.ensures.going.grows (from_left this this_in) (from_right y (contains_take c.deref-y-items.result.now c.loop-y.y-index y h)) (c.loop-y.invariant.row y h)
        | inr e ↦ subst (λ (z : Arrival). IsCovered m.count NONE es this z c.args.pair) e c.in_ok-reach_by.ensures.has
      ];
    }

pub loop-x-preserved : goal.loop-x-preserved
loop-x-preserved c =
    let m = machine_of c.args.table.now in
    let ys_are : slice_index_or (lists_of c.args.arrivals.now) c.args.pair.right [] ≡ c.deref-y-items.result.now = list_at c.args.arrivals.now c.args.pair.right c.index-arrivals-pair-in-loop-x.result (list_bound (machine_of c.args.table.now) c.args.arrivals.now c.args.pair.right c.args.pair c.requires.arrivals c.requires.right) c.index-arrivals-pair-in-loop-x.is ∙ sym c.deref-y-items.ensures.value in
    record {
      going = c.loop-y.invariant.going;
      done = λ x y hx hy. elim (contains_take_more c.deref-x-items.result.now c.loop-x.x-index no_arrival x (omega arith) hx) [
        | inl h ↦ c.loop-y.invariant.done x y h hy
        | inr e ↦ subst (λ (z : Arrival). IsCovered m.count NONE c.loop-y.distances z y c.args.pair) e (c.loop-y.invariant.row y (contains_whole c.deref-y-items.result.now c.loop-y.y-index y (omega (arith, c.loop-y-test.false)) (rw (← ys_are) hy)))
      ];
    }

pub returns-clause-has : goal.returns-clause-has
returns-clause-has c =
    let m = machine_of c.args.table.now in
    let xs_are : slice_index_or (lists_of c.args.arrivals.now) c.args.pair.left [] ≡ c.deref-x-items.result.now = list_at c.args.arrivals.now c.args.pair.left c.index-arrivals-pair.result (list_bound (machine_of c.args.table.now) c.args.arrivals.now c.args.pair.left c.args.pair c.requires.arrivals c.requires.left) c.index-arrivals-pair.is ∙ sym c.deref-x-items.ensures.value in
    c.requires.arrivals.all NONE c.loop-x.distances
    (λ x y hx hy. c.loop-x.invariant.done x y (contains_whole c.deref-x-items.result.now c.loop-x.x-index x (omega (arith, c.loop-x-test.false)) (rw (← xs_are) hx)) hy)
