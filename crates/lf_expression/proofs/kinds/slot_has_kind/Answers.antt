use Rattle.std.proofs.Common.{sym, ap, ◌∙◌}
use Rattle.std.specs.Prelude.{Option}
use Rattle.lf_format.specs.declared.kind.ValueKind.{ValueKind}
use Rattle.lf_format.specs.declared.slot.Slot.{Slot}
use Rattle.lf_format.specs.Keeps.{slots_in}
use Rattle.lf_expression.specs.Kinds.{same_kind, slot_has_kind}
use Rattle.lf_expression.proofs.Numbered.{nth_read, at_least_one, fits_below}
use Rattle.lf_expression.proofs.kinds.slot_has_kind.Goals as goal

pub returns : goal.returns
returns c =
    c.is_same.ensures ∙ ap (λ (k : ValueKind). same_kind c.args.kind k) c.value_kind.ensures
    ∙ sym (ap (λ (o : Option Slot). slot_has_kind c.args.kind o)
    (nth_read (slots_in c.args.source.now.pieces) c.args.k c.slot.result.now (at_least_one c.args.k c.if-k-eq0.false)
    (fits_below c.slots.result c.args.k c.slots.ensures c.if-slots-k.false) c.slot.ensures))
