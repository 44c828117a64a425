use Rattle.std.proofs.Common.{sym}
use Rattle.lf_machine.proofs.Builds.{marks-even}
use Rattle.lf_machine.proofs.row.marks_of.Goals as goal

pub returns-clause-exact : goal.returns-clause-exact
returns-clause-exact c = sym (marks-even c.args.parts.now)
