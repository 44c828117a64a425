use Rattle.std.proofs.Common.{sym, subst, arith}
use Rattle.lf_core.specs.Marked.{Machine, IsMachine}
use Rattle.lf_core.specs.Written.{WrittenMachine, machine_of}
use Rattle.lf_core.specs.WrittenLaws.{written_is_machine}
use Rattle.lf_known_tables.specs.Nth.{nth_machine}
use Rattle.lf_known_tables.specs.NthLaws.{nth_lawful}
use Rattle.lf_known_tables.proofs.tests.tables_of.Goals as goal

pub build-requires : goal.build-requires
build-requires c =
    let m : Machine = nth_machine c.args.place in
    subst (λ (w : WrittenMachine). IsMachine (machine_of w)) (sym c.in_ok-table.ensures)
    (written_is_machine m (nth_lawful c.args.place (omega (arith, c.if-place-eq0.false))))
