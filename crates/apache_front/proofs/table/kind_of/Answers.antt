use Rattle.std.proofs.Common.{sym, ap, ◌∙◌}
use Rattle.std.specs.Prelude.{pos}
use Rattle.std.specs.Int.Signed.{≤ℤ_refl}
use Rattle.lf_format.specs.CommonKinds.{zero_fits, one_fits}
use Rattle.apache_front.specs.Table.{kind_of}
use Rattle.apache_front.proofs.table.kind_of.Goals as goal

pub returns-in-Visible : goal.returns-in-Visible
returns-in-Visible c = c.texts.ensures one_fits ∙ ap kind_of (sym c.in-Visible.is)

pub returns-in-Filled : goal.returns-in-Filled
returns-in-Filled c = c.texts-in-Filled.ensures one_fits ∙ ap kind_of (sym c.in-Filled.is)

pub returns-in-Free : goal.returns-in-Free
returns-in-Free c = c.texts-in-Free.ensures zero_fits ∙ ap kind_of (sym c.in-Free.is)

pub returns-in-DashCount : goal.returns-in-DashCount
returns-in-DashCount c = c.dashed.ensures (≤ℤ_refl (pos 0)) ∙ ap kind_of (sym c.in-DashCount.is)
