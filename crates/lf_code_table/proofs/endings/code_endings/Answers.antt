use Rattle.lf_code_table.proofs.EndingLaws.{endings-none}
use Rattle.lf_code_table.proofs.endings.code_endings.Goals as goal

pub fill-requires : goal.fill-requires
fill-requires g c = endings-none (g.C.Code.can_take c.args.code.now) (g.C.Code.word c.args.code.now) c.in_ok-endings.endings.items c.in_ok-endings.ensures
