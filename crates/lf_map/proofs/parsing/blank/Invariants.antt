use Rattle.lf_map.proofs.Grown.{IsBlank}
use Rattle.lf_map.proofs.parsing.blank.Given as goal

abbrev pub invariant-loop-k : goal.invariant-loop-k
invariant-loop-k l = IsBlank l.form.items l._k
