use Rattle.std.proofs.Common.{◌≡◌, ℕ, [], slice_index_or, length}
use Rattle.lf_product.specs.Arcs.{lists_of}
use Rattle.lf_product.proofs.arrivals.no_arrivals.Given as goal

abbrev pub invariant-loop-k : goal.invariant-loop-k
invariant-loop-k l = record {
  len : length l.arrivals.items ≡ l._k;
  empty : (to : ℕ) → slice_index_or (lists_of l.arrivals.items) to [] ≡ [];
}
