use Rattle.lf_code_table.specs.Lone.{HasFirsts}
use Rattle.lf_code_table.proofs.lone.push_firsts.Given as goal

abbrev pub invariant-loop-byte : goal.invariant-loop-byte
invariant-loop-byte l = HasFirsts l.texts l.firsts.items l.byte
