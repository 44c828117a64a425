use Rattle.std.proofs.Common.{sym, ap, ◌∙◌}
use Rattle.std.specs.Option.{option_copied}
use Rattle.lf_format.specs.CommonKinds.{one_fits}
use Rattle.envoy_front.specs.Table.{kind_of}
use Rattle.envoy_front.proofs.table.kind_of.Goals as goal

pub returns-in-Visible : goal.returns-in-Visible
returns-in-Visible c = c.texts.ensures one_fits ∙ ap (λ s. kind_of s (option_copied c.args.argument) (option_copied c.args.digits)) (sym c.in-Visible.is)

pub returns-in-Reason : goal.returns-in-Reason
returns-in-Reason c = c.texts-in-Reason.ensures one_fits ∙ ap (λ s. kind_of s (option_copied c.args.argument) (option_copied c.args.digits)) (sym c.in-Reason.is)
