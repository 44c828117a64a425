use Rattle.std.proofs.Common.{List, rules, sym, subst}
use Rattle.lf_layout.specs.Places.{IsReadableFrom}
use Rattle.lf_layout.specs.declared.place.Place.{Place}
use Rattle.lf_layout.proofs.Walks.{reads-on}
use Rattle.lf_layout.proofs.machine.+reads.Goals as goal

pub reads-requires : goal.reads-requires
reads-requires t c =
    let from = subst (λ (ps : List Place). IsReadableFrom c.args.memory ps) (c.in-Some.ensures.cases.0) c.requires in
    (search rules, reads-on c.in-Some.place.now c.in-Some.places.now c.args.memory c.in-Some-split_first.letter.now c.in-Some-after.after from (sym c.in-Some-after.ensures.exact))
