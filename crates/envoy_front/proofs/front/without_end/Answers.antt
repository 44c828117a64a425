use Rattle.std.proofs.Common.{None, arith}
use Rattle.std.proofs.lemmas.Str.Pattern.{strip_suffix_char}
use Rattle.envoy_front.proofs.Ends.{kept}
use Rattle.envoy_front.proofs.front.without_end.Goals as goal

pub returns-in-None : goal.returns-in-None
returns-in-None c = kept c.args.text.now (strip_suffix_char 10 c.args.text.now None c.in-None.ensures.cases (omega arith))
