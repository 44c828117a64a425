use Rattle.std.proofs.Common.{length}
use Rattle.lf_map.proofs.parsing.+first_blank.Given as goal

abbrev pub decreases-first_blank : goal.decreases-first_blank
decreases-first_blank l = length l.form.now
