use Rattle.lf_code_table.specs.Endings.{HasEndings}
use Rattle.lf_code_table.proofs.endings.fill.Given as goal

abbrev pub invariant-loop-letter : goal.invariant-loop-letter
invariant-loop-letter g l = HasEndings (g.C.Code.can_take l.code) (g.C.Code.word l.code) l.endings.items l.letter
