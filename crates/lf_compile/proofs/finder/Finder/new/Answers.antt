use Rattle.std.proofs.Common.{sym, subst, ◌∙◌}
use Rattle.lf_core.specs.Marked.{IsMachine}
use Rattle.lf_core.specs.Written.{WrittenMachine, machine_of}
use Rattle.lf_core.specs.WrittenLaws.{written_is_machine}
use Rattle.lf_limits.specs.Limits.{most_sets}
use Rattle.lf_machine.specs.LineMachine.{line_machine, line-marked}
use Rattle.lf_compile.specs.Tabled.{AreTables}
use Rattle.lf_compile.proofs.SetLaws.{built_tables}
use Rattle.lf_compile.proofs.finder.Finder.new.Goals as goal

pub build-requires : goal.build-requires
build-requires c =
    let pieces = c.args.machine in
    subst (λ (w : WrittenMachine). IsMachine (machine_of w)) (sym c.requires.table) (written_is_machine (line_machine pieces) (line-marked pieces))

pub invariant_of-result : goal.invariant_of-result
invariant_of-result c =
    let pieces = c.args.machine in (
      subst (λ ps. AreTables ps c.in_ok-tables.tables) (sym c.new.ensures)
          (built_tables (line_machine pieces) most_sets c.args.table c.in_ok-tables.tables (line-marked pieces) c.requires.table c.in_ok-tables.ensures),
      c.requires.plan ∙ sym c.new.ensures,
    )
