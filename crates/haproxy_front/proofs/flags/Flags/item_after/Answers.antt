use Rattle.std.proofs.Common.{ap, sym, ◌∙◌, arith}
use Rattle.std.specs.Option.{option_copied}
use Rattle.haproxy_front.proofs.Cuts.{unclosed, plain_item, bad_item, flags_fit, flagged_item}
use Rattle.haproxy_front.proofs.flags.Flags.item_after.Goals as goal

pub returns-in_default : goal.returns-in_default
returns-in_default c = unclosed c.args.self.now c.args.text.now c.in_default.ensures

pub returns-in_default-part : goal.returns-in_default-part
returns-in_default-part c =
    plain_item c.args.self.now c.args.text.now c.in-Some.cut.rest.now (option_copied c.in-Some.cut.part) c.named.new.self c.named.result c.in-Some.ensures (ap option_copied c.in_default-part.is) c.named.ensures

pub returns-in_default-change : goal.returns-in_default-change
returns-in_default-change c =
    bad_item c.args.self.now c.args.text.now c.in-Some.cut.rest.now c.in-Some-part.changes.now (option_copied c.in-Some.cut.part) c.in-Some.ensures (ap option_copied c.in-Some-part.is) (sym c.change.ensures ∙ c.in_default-change.is)

pub named-requires-2 : goal.named-requires-2
named-requires-2 c =
    omega (arith, flags_fit c.args.text.now c.in-Some.cut.rest.now c.in-Some-part.changes.now (option_copied c.in-Some.cut.part) c.in-Some.ensures (ap option_copied c.in-Some-part.is))

pub returns : goal.returns
returns c =
    flagged_item c.args.self.now c.in-Some-change.own c.args.text.now c.in-Some.cut.rest.now c.in-Some-part.changes.now (option_copied c.in-Some.cut.part) c.named-2.new.self c.named-2.result c.in-Some.ensures (ap option_copied c.in-Some-part.is)
    (sym c.change.ensures ∙ c.in-Some-change.is) c.named-2.ensures
