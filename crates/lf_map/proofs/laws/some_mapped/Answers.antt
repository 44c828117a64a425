use Rattle.std.proofs.Common.{refl}
use Rattle.lf_format.specs.Keeps.{slots_in}
use Rattle.lf_map.proofs.Kept.{parsed_kinded}
use Rattle.lf_map.proofs.Records.{mapped_some}
use Rattle.lf_map.proofs.laws.some_mapped.Goals as goal

pub returns : goal.returns
returns c = λ text source target exprs parses rec.
    mapped_some (slots_in source.pieces) (slots_in target.pieces) target.pieces exprs rec refl (parsed_kinded text source target exprs parses)
