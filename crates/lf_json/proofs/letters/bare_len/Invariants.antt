use Rattle.std.proofs.Common.{◌≡◌, ℕ, ◌<◌, false, get_or}
use Rattle.lf_json.specs.Text.{is_escaped}
use Rattle.lf_json.proofs.letters.bare_len.Given as goal

abbrev pub invariant-loop-at : goal.invariant-loop-at
invariant-loop-at l = (k : ℕ) → k < l.at → is_escaped (get_or l.text k 0) ≡ false
