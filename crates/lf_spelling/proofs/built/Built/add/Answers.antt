use Rattle.std.proofs.Common.{sym, subst}
use Rattle.lf_spelling.specs.Building.{Builds}
use Rattle.lf_spelling.specs.declared.item_reader.Given.{Given}
use Rattle.lf_spelling.proofs.Joining.{built_nothing, built_spaced, built_braced}
use Rattle.lf_spelling.proofs.built.Built.add.Goals as goal

pub returns-in-Nothing : goal.returns-in-Nothing
returns-in-Nothing c = built_nothing c.args.self.now c.args.given c.in-Nothing.is

pub returns-in_ok-add_slot-in-Spaced : goal.returns-in_ok-add_slot-in-Spaced
returns-in_ok-add_slot-in-Spaced c =
    subst (λ (one : Given). Builds one c.args.self.now c.add_slot-in-Spaced.new.self) (sym c.in-Spaced.is)
    (built_spaced c.args.self.now c.add_byte-in-Spaced.new.self c.add_slot-in-Spaced.new.self c.in-Spaced.slot c.in_ok-add_byte-in-Spaced.ensures.built c.in_ok-add_slot-in-Spaced.ensures)

pub returns-in_ok-add_byte-in-Braced-2 : goal.returns-in_ok-add_byte-in-Braced-2
returns-in_ok-add_byte-in-Braced-2 c =
    subst (λ (one : Given). Builds one c.args.self.now c.add_byte-in-Braced-2.new.self) (sym c.in-Braced.is)
    (built_braced c.args.self.now c.add_byte-in-Braced.new.self c.add_slot-in-Braced.new.self c.add_byte-in-Braced-2.new.self c.in-Braced.slot c.in_ok-add_byte-in-Braced.ensures.built c.in_ok-add_slot-in-Braced.ensures c.in_ok-add_byte-in-Braced-2.ensures.built)
