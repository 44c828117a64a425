-- Texts with an upper bound.
use Rattle.std.proofs.Common.{◌≡◌, ℕ, ◌≤◌, List, Some, sym, subst}
use Rattle.lf_limits.specs.Limits.{most_length}
use Rattle.lf_core.specs.declared.class.Class.{Class}
use Rattle.lf_format.specs.declared.kind.Kind.{Kind}
use Rattle.lf_format.specs.CommonKinds.{zero_fits, bounded_texts}
use Rattle.envoy_front.specs.Length.{number_of, number_fits}
use Rattle.envoy_front.specs.Table.{sized}

-- The bound is the number that the digits spell.
pub sized_same : (class : Class) (digits : List ℕ) (n : ℕ) (kind : Kind) → n ≡ number_of digits → ((most : n ≤ most_length) → kind ≡ bounded_texts class 0 n zero_fits most) → kind ≡ sized class (Some digits)
sized_same class digits n kind is = subst (λ (n : ℕ). ((most : n ≤ most_length) → kind ≡ bounded_texts class 0 n zero_fits most) → kind ≡ sized class (Some digits)) (sym is) (λ h. h (number_fits digits))
