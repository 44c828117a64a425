-- Numbers whose plain text may stand for absence.
use Rattle.std.specs.Prelude.{Bool, true, false}
use Rattle.lf_format.specs.declared.kind.Kind.{Kind}
use Rattle.lf_format.specs.declared.kind.Kind.TheVariants as kind

-- whether zero's plain text in the domain is `-`
abbrev pub prints_zero_as_dash : Kind → Bool
prints_zero_as_dash (kind.DashZero d) = true
prints_zero_as_dash k = false
