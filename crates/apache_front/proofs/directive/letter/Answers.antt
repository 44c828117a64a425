use Rattle.std.proofs.Common.{refl, sym, subst}
use Rattle.std.specs.Str.{IsUtf8}
use Rattle.apache_front.proofs.Cuts.{directive_text}
use Rattle.apache_front.proofs.directive.letter.Goals as goal

pub slot-requires : goal.slot-requires
slot-requires c = subst IsUtf8 (sym c.split_at.ensures.front) (directive_text c.args.text.now c.args.tail.now c.in-Some.letter.now c.in-Some.after.now c.in-Some-find_row.row c.requires.last c.requires.text c.in-Some.ensures.cases.0 (sym c.in-Some-find_row.ensures) _ refl)
