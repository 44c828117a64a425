use Rattle.std.specs.Int.{w64}
use Rattle.std.proofs.lemmas.Int.{to_z-of_z}
use Rattle.lf_format.proofs.SameKinds.{fixed3-same}
use Rattle.lf_format.proofs.kind.Kind.fixed3.Goals as goal

pub returns : goal.returns
returns c = λ not_negative. fixed3-same _ _ c.args.lo c.args.hi _ not_negative (to_z-of_z w64 c.args.lo c.ranges.lo) (to_z-of_z w64 c.args.hi c.ranges.hi)
