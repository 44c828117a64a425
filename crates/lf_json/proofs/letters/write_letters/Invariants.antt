use Rattle.std.proofs.Common.{length}
use Rattle.std.specs.List.{flat_map}
use Rattle.lf_json.specs.Text.{json_letter}
use Rattle.lf_json.proofs.Fronts.{Leaves}
use Rattle.lf_json.proofs.letters.write_letters.Given as goal

abbrev pub invariant-runs : goal.invariant-runs
invariant-runs l = Leaves l.initial.into l.into (flat_map json_letter l.text) (flat_map json_letter l.rest)

abbrev pub decreases-runs : goal.decreases-runs
decreases-runs l = length l.rest
