use Rattle.std.proofs.Common.{◌≡◌, arith}
use Rattle.lf_core.specs.Marked.{Machine}
use Rattle.lf_core.specs.Written.{WrittenMachine, points_of}
use Rattle.lf_product.proofs.SameMachine.{points_are, lawful_are}
use Rattle.lf_product.proofs.pairs.distances.Goals as goal

pub distances_of-requires-clause-lawful : goal.distances_of-requires-clause-lawful
distances_of-requires-clause-lawful g c = lawful_are (g.M.Marked.machine c.args.m.now) c.in_ok-table.table c.in_ok-table.ensures (g.met.M.Marked.laws c.args.m.now)

pub distances_of-requires-clause-few : goal.distances_of-requires-clause-few
distances_of-requires-clause-few g c =
    let n : points_of c.in_ok-table.table ≡ (g.M.Marked.machine c.args.m.now).count = points_are (g.M.Marked.machine c.args.m.now) c.in_ok-table.table c.in_ok-table.ensures in
    omega (arith, n, c.requires)

pub invariant_of-result : goal.invariant_of-result
invariant_of-result g c =
    let m : Machine = g.M.Marked.machine c.args.m.now in
    let t : WrittenMachine = c.in_ok-table.table in
    let n : points_of t ≡ m.count = points_are m t c.in_ok-table.ensures in
    record {
      few = omega (arith, n, c.requires);
      lawful = lawful_are m t c.in_ok-table.ensures (g.met.M.Marked.laws c.args.m.now);
      whole = c.in_ok-distances.ensures.whole;
      exact = c.in_ok-distances.ensures.exact;
    }
