use Rattle.std.proofs.Common.{sym, ap, ◌∙◌}
use Rattle.std.specs.Prelude.{pos}
use Rattle.std.specs.Int.Signed.{≤ℤ_refl}
use Rattle.lf_core.specs.declared.class.Class.{Class}
use Rattle.lf_format.specs.CommonKinds.{zero_fits, one_fits, texts}
use Rattle.nginx_front.specs.Table.{kind_of}
use Rattle.nginx_front.proofs.table.kind_of.Goals as goal

pub returns-in-Visible : goal.returns-in-Visible
returns-in-Visible c = c.texts.ensures one_fits ∙ ap (kind_of c.args.escape) (sym c.in-Visible.is)

pub returns-in-VisibleOrEmpty : goal.returns-in-VisibleOrEmpty
returns-in-VisibleOrEmpty c = c.texts-in-VisibleOrEmpty.ensures zero_fits ∙ ap (kind_of c.args.escape) (sym c.in-VisibleOrEmpty.is)

pub returns-in-Free : goal.returns-in-Free
returns-in-Free c = c.texts-in-Free.ensures zero_fits ∙ ap (λ (set : Class). texts set 0 zero_fits) c.letters_of.ensures ∙ ap (kind_of c.args.escape) (sym c.in-Free.is)

pub returns-in-Status : goal.returns-in-Status
returns-in-Status c = c.padded.ensures (≤ℤ_refl (pos 0)) ∙ ap (kind_of c.args.escape) (sym c.in-Status.is)

pub returns-in-Seconds : goal.returns-in-Seconds
returns-in-Seconds c = c.fixed3.ensures (≤ℤ_refl (pos 0)) ∙ ap (kind_of c.args.escape) (sym c.in-Seconds.is)
