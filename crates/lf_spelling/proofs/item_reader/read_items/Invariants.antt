use Rattle.std.proofs.Common.{◌≤◌, ◌-◌, length}
use Rattle.lf_spelling.proofs.Steps.{Progress}
use Rattle.lf_spelling.proofs.item_reader.read_items.Given as goal

abbrev pub invariant-loop-at : goal.invariant-loop-at
invariant-loop-at g l = record {
  within : l.at ≤ length l.text;
  progress : Progress g.F.ItemReader.item_is l.fn.front l.text l.at l.state l.built;
}

abbrev pub decreases-loop-at : goal.decreases-loop-at
decreases-loop-at g l = length l.text - l.at
