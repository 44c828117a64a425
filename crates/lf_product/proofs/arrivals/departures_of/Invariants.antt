use Rattle.std.proofs.Common.{ℕ, ◌<◌, take}
use Rattle.std.specs.List.{Contains}
use Rattle.lf_core.specs.declared.marked.Move.{Move}
use Rattle.lf_core.specs.Written.{moves_at}
use Rattle.lf_product.specs.Arcs.{seen, IsSeen, Departs, HaveBytes}
use Rattle.lf_product.proofs.arrivals.departures_of.Given as goal

abbrev pub invariant-loop-step : goal.invariant-loop-step
invariant-loop-step l = record {
  from : (x : Move) (b : ℕ) → b < 256 → Departs l.departures.items x b → IsSeen l.marked (moves_at l.table l.from b) x;
  all : (x : Move) (b : ℕ) → b < l.byte → Contains (moves_at l.table l.from b) x → Departs l.departures.items (seen l.marked x) b;
  here : (x : Move) → Contains (take l.step-index l.step-items) x → Departs l.departures.items (seen l.marked x) l.byte;
  some : HaveBytes l.departures.items;
}

abbrev pub invariant-loop-byte : goal.invariant-loop-byte
invariant-loop-byte l = record {
  from : (x : Move) (b : ℕ) → b < 256 → Departs l.departures.items x b → IsSeen l.marked (moves_at l.table l.from b) x;
  all : (x : Move) (b : ℕ) → b < l.byte → Contains (moves_at l.table l.from b) x → Departs l.departures.items (seen l.marked x) b;
  some : HaveBytes l.departures.items;
}
