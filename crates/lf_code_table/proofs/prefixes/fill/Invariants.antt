use Rattle.std.proofs.Common.{◌≡◌}
use Rattle.lf_code_table.specs.Table.{prefix_table}
use Rattle.lf_code_table.proofs.prefixes.fill.Given as goal

abbrev pub invariant-loop-letter : goal.invariant-loop-letter
invariant-loop-letter g l = l.table.items ≡ prefix_table (g.C.Code.can_take l.code) (g.C.Code.word l.code) l.letter
