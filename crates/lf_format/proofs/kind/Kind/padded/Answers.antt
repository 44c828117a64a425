use Rattle.std.specs.Int.{w64}
use Rattle.std.proofs.lemmas.Int.{to_z-of_z}
use Rattle.lf_format.proofs.SameKinds.{padded-same}
use Rattle.lf_format.proofs.kind.Kind.padded.Goals as goal

pub returns : goal.returns
returns c = λ not_negative. padded-same c.args.radix c.args.width _ _ c.args.lo c.args.hi _ not_negative (to_z-of_z w64 c.args.lo c.ranges.lo) (to_z-of_z w64 c.args.hi c.ranges.hi)
