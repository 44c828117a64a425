use Rattle.std.proofs.Common.{get_or}
use Rattle.std.proofs.lemmas.List.Elements.{Contains-get_or}
use Rattle.lf_tables.proofs.search.end_among.Goals as goal

pub is_end-requires : goal.is_end-requires
is_end-requires c = c.requires (get_or c.args.points.now c.loop-place.place 0) (Contains-get_or c.args.points.now c.loop-place.place 0 c.loop-place-test.true)
