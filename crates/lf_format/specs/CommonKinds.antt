-- Kinds that many fronts have. A bound comes with the proof that its type keeps.
use Rattle.std.specs.Prelude.{◌≡◌, ℕ, ℤ, pos, ◌≤◌, ◌≤ℤ◌, None, Some}
use Rattle.std.specs.Option.{ForSome}
use Rattle.std.proofs.Common.{arith}
use Rattle.lf_core.specs.declared.class.Class.{Class}
use Rattle.lf_number.specs.declared.padded.Radix.{Radix}
use Rattle.lf_format.specs.declared.kind.Kind.{Kind}
use Rattle.lf_format.specs.declared.kind.Kind.TheVariants.{Num, DashZero, Fixed3, Padded, Text}
use Rattle.lf_limits.specs.Limits.{most_length}

pub none_fits : ForSome {T = ℕ} None (λ most. most ≤ most_length)
none_fits = λ x e. absurd (cc)

pub zero_fits : 0 ≤ most_length
zero_fits = omega arith

pub one_fits : 1 ≤ most_length
one_fits = omega arith

pub some_fits : (max : ℕ) → max ≤ most_length → ForSome {T = ℕ} (Some max) (λ most. most ≤ most_length)
some_fits max fits = λ x e. let same : max ≡ x = cc in omega (arith, fits, same)

-- so many letters of the class, or more
abbrev pub texts : Class → (min : ℕ) → min ≤ most_length → Kind
texts set min fits = Text (record { class = set; min = min; max = None; min_bounded = fits; max_bounded = none_fits })

-- so many letters of the class, `min` to `max` of them
abbrev pub bounded_texts : Class → (min max : ℕ) → min ≤ most_length → max ≤ most_length → Kind
bounded_texts set min max least most = Text (record { class = set; min = min; max = Some max; min_bounded = least; max_bounded = some_fits max most })

-- the whole numbers between two, these two counted
abbrev pub numbers : ℤ → ℤ → Kind
numbers lo hi = Num (record { lo = lo; hi = hi })

-- the same, with zero as `-`
abbrev pub dashed : (lo hi : ℤ) → pos 0 ≤ℤ lo → Kind
dashed lo hi not_negative = DashZero (record { lo = lo; hi = hi; not_negative = not_negative })

-- the same in thousandths
abbrev pub fixed3 : (lo hi : ℤ) → pos 0 ≤ℤ lo → Kind
fixed3 lo hi not_negative = Fixed3 (record { lo = lo; hi = hi; not_negative = not_negative })

-- the same in a radix, with leading zeros up to a width
abbrev pub padded : Radix → ℕ → (lo hi : ℤ) → pos 0 ≤ℤ lo → Kind
padded radix width lo hi not_negative = Padded (record { radix = radix; width = width; lo = lo; hi = hi; not_negative = not_negative })
