use Rattle.std.proofs.Common.{◌≡◌}
use Rattle.lf_product.proofs.arrivals.add_departure.Given as goal

abbrev pub invariant-loop-i : goal.invariant-loop-i
invariant-loop-i l = l.departures.items ≡ l.fn.departures.items
