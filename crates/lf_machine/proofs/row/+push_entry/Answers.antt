use Rattle.std.proofs.Common.{arith}
use Rattle.lf_machine.proofs.row.+push_entry.Goals as goal

pub push_enter-requires : goal.push_enter-requires
push_enter-requires t c = record { low = c.marks_of.ensures.most; early = omega arith }

pub push_enter-requires-in-Some : goal.push_enter-requires-in-Some
push_enter-requires-in-Some t c = record { low = c.marks_of.ensures.most; early = omega arith }
