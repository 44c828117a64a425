use Rattle.std.proofs.Common.{◌≡◌, map}
use Rattle.std.specs.List.{range_with_len}
use Rattle.lf_written.proofs.table.ends_of.Given as goal

abbrev pub invariant-loop-point : goal.invariant-loop-point
invariant-loop-point g l = l.ends.items ≡ map (g.M.Marked.machine l.m).is_end (range_with_len 0 l.point)
