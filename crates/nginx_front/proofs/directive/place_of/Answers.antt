use Rattle.std.proofs.Common.{length, refl}
use Rattle.std.proofs.lemmas.Option.{slice_get_read, slice_get_past}
use Rattle.nginx_front.proofs.Places.{place_there, place_past}
use Rattle.nginx_front.proofs.directive.place_of.Goals as goal

pub returns-in-Some : goal.returns-in-Some
returns-in-Some c = place_there c.args.given.now c.args.at c.in-Some.one.now (slice_get_read c.args.given.now (length c.args.given.now) c.args.at c.in-Some.one.now refl c.in-Some.ensures.lookup.3.0 c.in-Some.ensures.lookup.1)

pub returns-in-None : goal.returns-in-None
returns-in-None c = place_past c.args.given.now c.args.at (slice_get_past c.args.given.now c.args.at c.in-None.ensures.lookup.3)
