use Rattle.std.proofs.Common.{drop}
use Rattle.lf_json.specs.Text.{others_text}
use Rattle.lf_json.proofs.Fronts.{Leaves}
use Rattle.lf_json.proofs.writing.write_others.Given as goal

abbrev pub invariant-loop-value : goal.invariant-loop-value
invariant-loop-value l = Leaves l.initial.into l.into (others_text l.values) (others_text (drop l.value-index l.values))
