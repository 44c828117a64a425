use Rattle.std.proofs.Common.{◌≡◌, ℕ, arith, rules, ◌<◌, ◌≤◌, ◌+◌, ◌∙◌, sym, ap, length, [], get_or, refl, List, subst, inl, inr, length-set}
use Rattle.std.specs.Prelude.{slice_index_or, Vec}
use Rattle.std.specs.List.{Contains}
use Rattle.std.specs.declared.alloc.Global.{Global}
use Rattle.std.proofs.lemmas.Bool.{cases_lt}
use Rattle.std.proofs.lemmas.List.{length-map}
use Rattle.std.proofs.lemmas.List.Elements.{Contains-get_or}
use Rattle.lf_product.specs.ByteSet.{HasByte}
use Rattle.lf_product.specs.declared.arrivals.Departure.{Departure}
use Rattle.lf_product.specs.declared.arrivals.Arrival.{Arrival}
use Rattle.lf_core.specs.Written.{machine_of}
use Rattle.lf_product.specs.Arcs.{seen, Departs, lists_of, Arrives}
use Rattle.lf_product.specs.Level.{LeadsTo}
use Rattle.lf_product.proofs.Sweep.{contains_none}
use Rattle.lf_product.proofs.Inbound.{more, more_cases, arrives_kept, arrives_new, moves_from, moves_on, depart_leads, depart_below, departs_take_more, departs_whole}
use Rattle.lf_product.proofs.arrivals.arrivals_of.Goals as goal

abbrev no_departure : Departure
no_departure = record { mark = 0; to = 0; bytes = record { words = [] } }

pub loop-d-init : goal.loop-d-init
loop-d-init c = record {
  len = c.loop-from.invariant.len;
  from_below = λ to x h. let lt = c.loop-from.invariant.from_below to x h in omega (arith, lt);
  leads = c.loop-from.invariant.leads;
  all = c.loop-from.invariant.all;
  here = λ b x h. absurd (contains_none h.by h.listed);
}

pub add_arrival-requires : goal.add_arrival-requires
add_arrival-requires c =
    let m = machine_of c.args.table.now in
    let w = c.args.table.now in
    let d : Departure = get_or c.deref-d-items.result.now c.loop-d.d-index no_departure in
    let listed : Contains c.in_ok-departures.departures.items d = rw (← c.deref-d-items.ensures.value) (Contains-get_or c.deref-d-items.result.now c.loop-d.d-index no_departure (omega arith)) in
    let below : d.to < m.count = depart_below w c.args.marked c.loop-from.from c.in_ok-departures.departures.items c.requires.lawful c.in_ok-departures.ensures.from c.in_ok-departures.ensures.some d listed in
    let n : length (lists_of c.loop-d.arrivals.items) ≡ m.count = c.loop-d.invariant.len in
    omega (arith, below, n, length-map c.loop-d.arrivals.items (λ (v : Vec Arrival Global). v.items))

pub loop-d-preserved : goal.loop-d-preserved
loop-d-preserved c =
    let m = machine_of c.args.table.now in
    let w = c.args.table.now in
    let d : Departure = get_or c.deref-d-items.result.now c.loop-d.d-index no_departure in
    let e : Arrival = record { from = c.loop-from.from; mark = d.mark; bytes = d.bytes } in
    let here : c.loop-d.d-index < length c.deref-d-items.result.now = omega arith in
    let listed : Contains c.in_ok-departures.departures.items d = rw (← c.deref-d-items.ensures.value) (Contains-get_or c.deref-d-items.result.now c.loop-d.d-index no_departure here) in
    let below : d.to < m.count = depart_below w c.args.marked c.loop-from.from c.in_ok-departures.departures.items c.requires.lawful c.in_ok-departures.ensures.from c.in_ok-departures.ensures.some d listed in
    let old : List (List Arrival) = lists_of c.loop-d.arrivals.items in
    let n : length (lists_of c.loop-d.arrivals.items) ≡ m.count = c.loop-d.invariant.len in
    let inside : d.to < length (lists_of c.loop-d.arrivals.items) = omega (arith, below, n) in
    let is : lists_of c.add_arrival.new.arrivals.items ≡ more (lists_of c.loop-d.arrivals.items) d.to e = c.in_ok-add_arrival.ensures in
    record {
      len = ap (λ (ls : List (List Arrival)). length ls) is ∙ length-set old d.to _ ∙ n;
      from_below = λ to x h. elim (more_cases old d.to e to x inside (subst (λ (ls : List (List Arrival)). Contains (slice_index_or ls to []) x) is h)) [
        | inl k ↦ c.loop-d.invariant.from_below to x k
        | inr (p, q) ↦ subst (λ (y : Arrival). y.from < c.loop-from.from + 1) q (omega arith)
      ];
      leads = λ to x h. elim (more_cases old d.to e to x inside (subst (λ (ls : List (List Arrival)). Contains (slice_index_or ls to []) x) is h)) [
        | inl k ↦ c.loop-d.invariant.leads to x k
        | inr (p, q) ↦ subst (λ (y : Arrival). LeadsTo m c.args.marked y to) q (subst (λ (t : ℕ). LeadsTo m c.args.marked e t) (sym p) (λ b low on. depart_leads w c.args.marked c.loop-from.from c.in_ok-departures.departures.items c.in_ok-departures.ensures.from d listed b low on))
      ];
      all = λ from b x below h. subst (λ (ls : List (List Arrival)). Arrives ls from (seen c.args.marked x) b) (sym is) (arrives_kept old d.to e from (seen c.args.marked x) b inside (c.loop-d.invariant.all from b x below h));
      here = λ b x h. elim (departs_take_more c.deref-d-items.result.now c.loop-d.d-index no_departure x b here h) [
        | inl k ↦ subst (λ (ls : List (List Arrival)). Arrives ls c.loop-from.from x b) (sym is) (arrives_kept old d.to e c.loop-from.from x b inside (c.loop-d.invariant.here b x k))
        | inr (d', q, mark, to, on) ↦ subst (λ (ls : List (List Arrival)). Arrives ls c.loop-from.from x b) (sym is) (arrives_new old d.to e c.loop-from.from x b inside refl (ap (λ (y : Departure). y.mark) q ∙ mark) (ap (λ (y : Departure). y.to) q ∙ to) (subst (λ (y : Departure). HasByte y.bytes b) (sym q) on))
      ];
    }

pub loop-from-preserved : goal.loop-from-preserved
loop-from-preserved c =
    let m = machine_of c.args.table.now in
    let w = c.args.table.now in
    record {
      len = c.loop-d.invariant.len;
      from_below = c.loop-d.invariant.from_below;
      leads = c.loop-d.invariant.leads;
      all = λ from b x below h. elim (cases_lt from c.loop-from.from) [
        | inl lt ↦ c.loop-d.invariant.all from b x lt h
        | inr ge ↦
            let q : from ≡ c.loop-from.from = omega (arith, ge, below) in
            let h' : Contains (m.moves c.loop-from.from b) x = subst (λ (k : ℕ). Contains (m.moves k b) x) q h in
            let departs : Departs c.deref-d-items.result.now (seen c.args.marked x) b = rw c.deref-d-items.ensures.value (c.in_ok-departures.ensures.all x b (moves_on w c.loop-from.from b x c.requires.lawful h') h') in
            subst (λ (k : ℕ). Arrives (lists_of c.loop-d.arrivals.items) k (seen c.args.marked x) b) (sym q) (c.loop-d.invariant.here b (seen c.args.marked x) (departs_whole c.deref-d-items.result.now c.loop-d.d-index (seen c.args.marked x) b (omega (arith, c.loop-d-test.false)) departs))
      ];
    }

pub returns : goal.returns
returns c =
    let m = machine_of c.args.table.now in
    let w = c.args.table.now in
    let end : m.count ≤ c.loop-from.from = search (rules, length-map) in
    let le : c.loop-from.from ≤ m.count = search (rules, length-map) in
    record {
      each_point = c.loop-from.invariant.len;
      from_below = λ to x h. let lt = c.loop-from.invariant.from_below to x h in omega (arith, lt, le);
      leads = c.loop-from.invariant.leads;
      all = λ from b x h. (moves_on w from b x c.requires.lawful h, c.loop-from.invariant.all from b x (let lt = moves_from w from b x h in omega (arith, lt, end)) h);
    }
