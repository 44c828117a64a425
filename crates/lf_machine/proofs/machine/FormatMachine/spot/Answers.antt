use Rattle.std.proofs.Common.{vec_len}
use Rattle.lf_machine.proofs.SpotLaws.{spots-many, spot-tells}
use Rattle.lf_machine.proofs.machine.FormatMachine.spot.Goals as goal

pub index-requires : goal.index-requires
index-requires c =
    spots-many c.args.self.now c.self.inside.parts.items c.self.inside.spots.items c.args.point (vec_len c.self.inside.spots) c.self.invariant.spotted c.self.view_is c.requires.least c.requires.most c.self.inside.spots.ok.0

pub returns : goal.returns
returns c =
    spot-tells c.args.self.now c.self.inside.parts.items c.self.inside.spots.items c.args.point c.index.result.now c.self.invariant.spotted c.self.view_is c.requires.least c.requires.most c.index.ensures
