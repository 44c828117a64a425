use Rattle.std.proofs.Common.{None}
use Rattle.lf_compile.proofs.OneCause.{answers_are_one, told_cause}
use Rattle.lf_compile.proofs.accepting.compile.Goals as goal

pub returns-in-Ok-clause-exact : goal.returns-in-Ok-clause-exact
returns-in-Ok-clause-exact c = λ answer h. answers_are_one c.args.format answer None h c.in-Ok.ensures.ok

pub returns-in-Err-clause-exact : goal.returns-in-Err-clause-exact
returns-in-Err-clause-exact c = λ answer h. told_cause c.args.format answer c.in-Err.cause h c.in-Err.ensures.err
