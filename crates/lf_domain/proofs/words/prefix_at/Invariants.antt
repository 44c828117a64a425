use Rattle.std.proofs.Common.{◌≡◌, drop}
use Rattle.lf_domain.specs.WordLists.{prefix_at}
use Rattle.lf_domain.proofs.words.prefix_at.Given as goal

abbrev pub invariant-loop-word : goal.invariant-loop-word
invariant-loop-word l = prefix_at (drop l.word-index l.words) l.rest ≡ prefix_at l.words l.point
