use Rattle.std.proofs.Common.{◌≡◌, ◌≤◌, ◌-◌, ◌*◌}
use Rattle.lf_log.specs.Generated.{DrawsLog}
use Rattle.lf_log.proofs.generating.draw_log.Given as goal

abbrev pub invariant-parts : goal.invariant-parts
invariant-parts l =
    (l.left ≤ l.fn.count)
    × DrawsLog l.fn.reader l.fn.seed l.state (l.fn.count - l.left) l.tally.bytes
    × (l.tally.read ≡ l.fn.count - l.left)
    × (l.tally.bytes ≤ (l.fn.count - l.left) * 18446744073709551616)

abbrev pub decreases-parts : goal.decreases-parts
decreases-parts l = l.left
