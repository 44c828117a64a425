-- Bounds that meet: the greater lower and the lesser upper one.
use Rattle.std.specs.Prelude.{Bool, ◌≡◌, ℕ, ◌≤◌, ℤ, pos, ◌≤ℤ◌, Option, None, Some, max, min}
use Rattle.std.specs.Option.{ForSome}
use Rattle.std.specs.Int.{int_max, int_min}
use Rattle.std.proofs.Common.{arith}
use Rattle.std.proofs.lemmas.Int.{ints}
use Rattle.lf_limits.specs.Limits.{most_length}
use Rattle.lf_domain.specs.declared.text_set.TextSet.{TextSet}
use Rattle.lf_number.specs.declared.num_range.NumRange.{NumRange}
use Rattle.lf_number.specs.declared.dash_zero.DashZero.{DashZero}
use Rattle.lf_number.specs.declared.fixed3.Fixed3.{Fixed3}
use Rattle.lf_number.specs.declared.padded.Padded.{Padded}
use Rattle.lf_narrow.specs.Classes.{passing}

-- the lesser of two upper bounds, of which none is no bound
abbrev pub lesser : Option ℕ → Option ℕ → Option ℕ
lesser None other = other
lesser (Some most) None = Some most
lesser (Some most) (Some other) = Some (min most other)

-- a length that is bounded as all lengths are
abbrev pub bounded : ℕ → ℕ
bounded n = min n most_length

abbrev pub upper_bounded : Option ℕ → Option ℕ
upper_bounded None = None
upper_bounded (Some n) = Some (bounded n)

pub bounded_fits : (n : ℕ) → bounded n ≤ most_length
bounded_fits n = omega arith

pub upper_fits : (most : Option ℕ) → ForSome {T = ℕ} (upper_bounded most) (λ top. top ≤ most_length)
upper_fits None = λ x e. absurd (cc)
upper_fits (Some n) = λ x e. let same : bounded n ≡ x = cc in omega (arith, same)

-- the texts of both lengths; no number of a term is over `most_length`
abbrev pub met_lengths : ℕ → Option ℕ → TextSet → TextSet
met_lengths least most d = record {
  class = d.class;
  min = bounded (max d.min least);
  max = upper_bounded (lesser d.max most);
  min_bounded = bounded_fits (max d.min least);
  max_bounded = upper_fits (lesser d.max most);
}

-- the texts of letters that pass the test
abbrev pub met_letters : (ℕ → Bool) → TextSet → TextSet
met_letters test d = record {
  class = passing test d.class;
  min = d.min;
  max = d.max;
  min_bounded = d.min_bounded;
  max_bounded = d.max_bounded;
}

pub greater_not_negative : (a b : ℤ) → pos 0 ≤ℤ a → pos 0 ≤ℤ int_max a b
greater_not_negative a b h = grind (arith, ints)

-- the numbers of both ranges
abbrev pub met_numbers : ℤ → ℤ → NumRange → NumRange
met_numbers lo hi d = record { lo = int_max d.lo lo; hi = int_min d.hi hi }

abbrev pub met_dashed : ℤ → ℤ → DashZero → DashZero
met_dashed lo hi d = record { lo = int_max d.lo lo; hi = int_min d.hi hi; not_negative = greater_not_negative d.lo lo d.not_negative }

abbrev pub met_thousandths : ℤ → ℤ → Fixed3 → Fixed3
met_thousandths lo hi d = record { lo = int_max d.lo lo; hi = int_min d.hi hi; not_negative = greater_not_negative d.lo lo d.not_negative }

abbrev pub met_padded : ℤ → ℤ → Padded → Padded
met_padded lo hi d = record { radix = d.radix; width = d.width; lo = int_max d.lo lo; hi = int_min d.hi hi; not_negative = greater_not_negative d.lo lo d.not_negative }
