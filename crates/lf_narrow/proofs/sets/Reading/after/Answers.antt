use Rattle.std.proofs.Common.{sym}
use Rattle.lf_core.specs.Class.{is_member}
use Rattle.lf_narrow.proofs.Listed.{item_listed, byte_listed}
use Rattle.lf_narrow.proofs.sets.Reading.after.Goals as goal

pub returns-in-Some : goal.returns-in-Some
returns-in-Some c = λ x rest h.
    item_listed x c.args.byte c.args.self.stage c.args.self.first c.args.self.last rest c.in-Some.item (is_member c.args.self.set x) (is_member c.with_item.result x) (sym c.in-Some.ensures) (c.with_item.ensures x h)

pub returns-in-None : goal.returns-in-None
returns-in-None c = λ x rest h.
    rw (c.after.ensures, c.if_dash.ensures, c.is_dash.ensures) (byte_listed x c.args.byte c.args.self.stage c.args.self.first c.args.self.last rest (is_member c.args.self.set x) (sym c.in-None.ensures))
