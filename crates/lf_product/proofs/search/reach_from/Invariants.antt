use Rattle.std.proofs.Common.{[], take, slice_index_or}
use Rattle.std.specs.List.{Contains}
use Rattle.lf_product.specs.declared.arrivals.Arrival.{Arrival}
use Rattle.lf_product.specs.declared.pages.TheConstants.{NONE}
use Rattle.lf_core.specs.Written.{machine_of}
use Rattle.lf_product.specs.Arcs.{lists_of}
use Rattle.lf_product.specs.Level.{IsCovered, Going}
use Rattle.lf_product.proofs.search.reach_from.Given as goal

abbrev pub invariant-loop-y : goal.invariant-loop-y
invariant-loop-y l = record {
  going : Going (machine_of l.table) NONE l.steps l.fn.distances l.fn.waiting.items l.distances l.waiting.items;
  done : (x y : Arrival) → Contains (take l.x-index l.x-items) x → Contains (slice_index_or (lists_of l.arrivals) l.pair.right []) y → IsCovered ((machine_of l.table).count) NONE l.distances x y l.pair;
  row : (y : Arrival) → Contains (take l.y-index l.y-items) y → IsCovered ((machine_of l.table).count) NONE l.distances l.x y l.pair;
}

abbrev pub invariant-loop-x : goal.invariant-loop-x
invariant-loop-x l = record {
  going : Going (machine_of l.table) NONE l.steps l.fn.distances l.fn.waiting.items l.distances l.waiting.items;
  done : (x y : Arrival) → Contains (take l.x-index l.x-items) x → Contains (slice_index_or (lists_of l.arrivals) l.pair.right []) y → IsCovered ((machine_of l.table).count) NONE l.distances x y l.pair;
}
