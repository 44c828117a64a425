use Rattle.std.proofs.Common.{sym, ap, ◌∙◌}
use Rattle.lf_format.specs.CommonKinds.{zero_fits, one_fits}
use Rattle.w3c_front.specs.Table.{kind_of}
use Rattle.w3c_front.proofs.table.kind_of.Goals as goal

pub returns-in-Decimal : goal.returns-in-Decimal
returns-in-Decimal c = c.texts.ensures one_fits ∙ ap kind_of (sym c.in-Decimal.is)

pub returns-in-Visible : goal.returns-in-Visible
returns-in-Visible c = c.texts-in-Visible.ensures one_fits ∙ ap kind_of (sym c.in-Visible.is)

pub returns-in-Word : goal.returns-in-Word
returns-in-Word c = c.texts-in-Word.ensures one_fits ∙ ap kind_of (sym c.in-Word.is)

pub returns-in-Comment : goal.returns-in-Comment
returns-in-Comment c = c.texts-in-Comment.ensures zero_fits ∙ ap kind_of (sym c.in-Comment.is)

pub returns-in-Bare : goal.returns-in-Bare
returns-in-Bare c = c.texts-in-Bare.ensures one_fits ∙ ap kind_of (sym c.in-Bare.is)

pub returns-in-Spaced : goal.returns-in-Spaced
returns-in-Spaced c = c.texts-in-Spaced.ensures one_fits ∙ ap kind_of (sym c.in-Spaced.is)
