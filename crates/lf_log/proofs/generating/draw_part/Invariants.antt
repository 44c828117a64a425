use Rattle.lf_log.specs.Generated.{DrawsPart}
use Rattle.lf_log.proofs.generating.draw_part.Given as goal

abbrev pub invariant-loop-number : goal.invariant-loop-number
invariant-loop-number l = DrawsPart l.fn.format l.initial.state l.state l._number l.part.text l.part.lengths.items
