use Rattle.std.proofs.Common.{refl, sym, subst}
use Rattle.lf_core.specs.declared.values.Value.TheVariants.{Num}
use Rattle.lf_format.specs.declared.slot.Absent.{Absent}
use Rattle.lf_format.specs.Kinds.{plain_text}
use Rattle.lf_format.specs.Slots.{IsNotAbsence}
use Rattle.lf_format.specs.PlainTextLaws.{number-some}
use Rattle.lf_format.proofs.absence.is_present_number.Goals as goal

pub returns-in-Blank : goal.returns-in-Blank
returns-in-Blank c =
    let k = c.args.kind.now in
    let some = number-some k c.args.number c.requires in
    ((λ _. subst (λ (a : Absent). IsNotAbsence a c.args.quoted (plain_text k (Num c.args.number))) (sym c.in-Blank.is) some), (λ _. refl))
