use Rattle.std.proofs.Common.{◌≡◌, ℕ, ◌-◌, ◌<◌, ◌≤◌, length, true, false, get_or}
use Rattle.lf_letters.proofs.marks.marked_len.Given as goal

abbrev pub invariant-chunks : goal.invariant-chunks
invariant-chunks l = record {
  within : l.at ≤ length l.text;
  marked : (k : ℕ) → k < l.at → get_or l.marks (get_or l.text k 0) false ≡ true;
}

abbrev pub decreases-chunks : goal.decreases-chunks
decreases-chunks l = length l.text - l.at
