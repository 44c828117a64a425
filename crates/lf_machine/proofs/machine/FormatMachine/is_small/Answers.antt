use Rattle.lf_machine.proofs.SizeLaws.{points-small}
use Rattle.lf_machine.proofs.machine.FormatMachine.is_small.Goals as goal

pub returns : goal.returns
returns c = points-small c.args.self.now
