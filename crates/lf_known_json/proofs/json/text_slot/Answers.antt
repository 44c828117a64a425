use Rattle.std.proofs.Common.{refl}
use Rattle.lf_format.specs.KeptSlots.{all_bytes}
use Rattle.lf_format.specs.KeptSlotLaws.{slot_keeps}
use Rattle.lf_known_json.proofs.json.text_slot.Goals as goal

pub returns : goal.returns
unfolding all_bytes
returns c = slot_keeps _ refl
