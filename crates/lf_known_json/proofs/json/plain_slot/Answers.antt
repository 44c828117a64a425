use Rattle.std.proofs.Common.{Bool, true, ◌&&◌, ap}
use Rattle.lf_format.specs.KeptSlotLaws.{slot_keeps}
use Rattle.lf_known_json.proofs.json.plain_slot.Goals as goal

pub returns : goal.returns
returns c = slot_keeps _ (ap (λ (b : Bool). b && true) c.requires)
