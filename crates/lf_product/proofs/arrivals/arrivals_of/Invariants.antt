use Rattle.std.proofs.Common.{◌≡◌, ℕ, ◌<◌, ◌+◌, take, [], slice_index_or, length}
use Rattle.std.specs.List.{Contains}
use Rattle.lf_core.specs.declared.marked.Move.{Move}
use Rattle.lf_product.specs.declared.arrivals.Arrival.{Arrival}
use Rattle.lf_core.specs.Written.{machine_of}
use Rattle.lf_product.specs.Arcs.{seen, Departs, lists_of, Arrives}
use Rattle.lf_product.specs.Level.{LeadsTo}
use Rattle.lf_product.proofs.arrivals.arrivals_of.Given as goal

abbrev pub invariant-loop-d : goal.invariant-loop-d
invariant-loop-d l = record {
  len : length (lists_of l.arrivals.items) ≡ (machine_of l.table).count;
  from_below : (to : ℕ) (x : Arrival) → Contains (slice_index_or (lists_of l.arrivals.items) to []) x → x.from < l.from + 1;
  leads : (to : ℕ) (x : Arrival) → Contains (slice_index_or (lists_of l.arrivals.items) to []) x → LeadsTo (machine_of l.table) l.marked x to;
  all : (from b : ℕ) (x : Move) → from < l.from → Contains ((machine_of l.table).moves from b) x → Arrives (lists_of l.arrivals.items) from (seen l.marked x) b;
  here : (b : ℕ) (x : Move) → Departs (take l.d-index l.d-items) x b → Arrives (lists_of l.arrivals.items) l.from x b;
}

abbrev pub invariant-loop-from : goal.invariant-loop-from
invariant-loop-from l = record {
  len : length (lists_of l.arrivals.items) ≡ (machine_of l.table).count;
  from_below : (to : ℕ) (x : Arrival) → Contains (slice_index_or (lists_of l.arrivals.items) to []) x → x.from < l.from;
  leads : (to : ℕ) (x : Arrival) → Contains (slice_index_or (lists_of l.arrivals.items) to []) x → LeadsTo (machine_of l.table) l.marked x to;
  all : (from b : ℕ) (x : Move) → from < l.from → Contains ((machine_of l.table).moves from b) x → Arrives (lists_of l.arrivals.items) from (seen l.marked x) b;
}
