use Rattle.std.proofs.Common.{length}
use Rattle.lf_format.specs.Keeps.{slots_in}
use Rattle.lf_map.specs.Forms.{form_said}
use Rattle.lf_map.proofs.Steps.{Counted}
use Rattle.lf_map.proofs.parsing.read_parts.Given as goal

abbrev pub invariant-parts : goal.invariant-parts
invariant-parts l = Counted (slots_in l.reading.source.now.pieces) (slots_in l.reading.target.now.pieces) l.reading.text.now (form_said l.initial.form) (form_said l.form) l.rest (length l.initial.form) (length l.form)

abbrev pub decreases-parts : goal.decreases-parts
decreases-parts l = length l.rest
