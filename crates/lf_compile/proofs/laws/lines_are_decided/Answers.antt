use Rattle.lf_compile.proofs.Lines.{line_decided}
use Rattle.lf_compile.proofs.laws.lines_are_decided.Goals as goal

pub returns : goal.returns
returns c = line_decided
