use Rattle.std.proofs.Common.{refl}
use Rattle.lf_format.specs.KeptSlotLaws.{slot_keeps}
use Rattle.lf_known_json.proofs.json.number_slot.Goals as goal

pub returns : goal.returns
returns c = slot_keeps _ refl
