use Rattle.lf_machine.proofs.Builds.{size-points}
use Rattle.lf_machine.proofs.machine.FormatMachine.build.Goals as goal

pub assemble-requires : goal.assemble-requires
assemble-requires c = size-points c.args.format.now.pieces c.requires
