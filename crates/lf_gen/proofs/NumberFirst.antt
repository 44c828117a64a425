-- Which number of a range is printed first.
use Rattle.std.proofs.Common.{◌≡◌, ◌≢◌, ℕ, zero, suc, ◌≤◌, inl, inr, Bool, refl, arith, Contains}
use Rattle.std.specs.Prelude.{ℤ, pos, negsuc, ◌≤ℤ◌}
use Rattle.std.proofs.lemmas.Int.{ints}
use Rattle.std.proofs.lemmas.Bool.{false≢true}
use Rattle.lf_core.specs.declared.values.Value.{Value}
use Rattle.lf_core.specs.declared.values.Value.TheVariants.{Num}
use Rattle.lf_number.specs.Numbers.{IsBetween}
use Rattle.lf_number.specs.Radix.{radix_of}
use Rattle.lf_number.specs.RadixLaws.{radix_is}
use Rattle.lf_number.specs.declared.num_range.NumRange.{NumRange}
use Rattle.lf_number.specs.declared.dash_zero.DashZero.{DashZero}
use Rattle.lf_number.specs.declared.fixed3.Fixed3.{Fixed3}
use Rattle.lf_number.specs.declared.padded.Padded.{Padded}
use Rattle.lf_escape.specs.Codings.{coding_word}
use Rattle.lf_escape.specs.declared.coding.Coding.{Coding}
use Rattle.lf_format.specs.Kinds.{HoldsKind, plain_text}
use Rattle.lf_format.specs.PlainTextLaws.{number-some, number-dash}
use Rattle.lf_format.specs.Slots.{IsNotAbsence}
use Rattle.lf_format.specs.declared.kind.Kind.{Kind}
use Rattle.lf_format.specs.declared.kind.Kind.TheVariants as kind
use Rattle.lf_format.specs.declared.slot.Absent.{Absent}
use Rattle.lf_gen.specs.First.{Before, IsHeld, AreFirst, number_values}
use Rattle.lf_gen.proofs.Orders.{LineUpTo}
use Rattle.lf_gen.proofs.Lifted.{absence_cases}
use Rattle.lf_gen.proofs.NumberOrder.{number-rises, thousandths-rises, padded-rises, dash-rises, negatives-rise, zero-negative}
use Rattle.lf_gen.proofs.Own.{AllOwn, own-before, number-own, dash-own, thousandths-own, padded-own}

-- A number of the domain that isn't zero is not taken for absence.
some-present : (k : Kind) (z : ℤ) (absent : Absent) (quoted : Bool) → HoldsKind k (Num z) → z ≢ pos 0 → IsNotAbsence absent quoted (plain_text k (Num z))
some-present k z absent quoted h other = elim (absence_cases absent quoted (plain_text k (Num z))) [
  | inl fine ↦ fine
  | inr (inl dash) ↦ absurd (other (number-dash k z h dash).1)
  | inr (inr none) ↦ absurd (number-some k z h none)
]

-- What the domains of numbers share.
record IsNumeric (k : Kind) (lo hi : ℤ) : Type 0 where
  into : (z : ℤ) → IsBetween lo hi z → HoldsKind k (Num z)
  own : (z : ℤ) → AllOwn (plain_text k (Num z))
  rises : (a b : ℕ) → a ≤ b → LineUpTo (plain_text k (Num (pos a))) (plain_text k (Num (pos b)))

module _ (k : Kind) (code : Coding) (absent : Absent) (quoted : Bool) where
  abbrev Found : ℤ → ℤ → ℤ → Type 0
  Found lo hi n = (v : Value) × Contains (number_values lo hi) v × IsHeld k absent quoted v × Before (coding_word code) (plain_text k v) (plain_text k (Num n))

  -- zero is taken for absence: it is the number itself, or one comes first
  from-one : (hi : ℤ) (m : ℕ) → IsNumeric k (pos 0) hi → IsBetween (pos 0) hi (pos m) → IsNotAbsence absent quoted (plain_text k (Num (pos m))) → Found (pos 0) hi (pos m)
  from-one hi zero is h n =
      (Num (pos 0), (0, omega arith, refl), (is.into (pos 0) h, n), own-before code _ _ (is.own (pos 0)) (is.own (pos 0)) (is.rises 0 0 (omega arith)))
  from-one hi (suc m) is h n =
      let top = h.1 in
      let held = is.into (pos 1) (omega (arith, ints), omega (arith, ints, top)) in (
        Num (pos 1),
        (1, omega arith, refl),
        (held, some-present k (pos 1) absent quoted held (λ e. (let bad : ◌≡◌ {A = ℕ} 1 0 = cc in omega (arith, bad)))),
        own-before code _ _ (is.own (pos 1)) (is.own (pos (suc m))) (is.rises 1 (suc m) (omega arith)),
      )

  from-positive : (l m : ℕ) (hi : ℤ) → IsNumeric k (pos l) hi → IsBetween (pos l) hi (pos m) → IsNotAbsence absent quoted (plain_text k (Num (pos m))) → Found (pos l) hi (pos m)
  from-positive zero m hi is h n = elim (absence_cases absent quoted (plain_text k (Num (pos 0)))) [
    | inl fine ↦
        let top = h.1 in
        (Num (pos 0), (0, omega arith, refl), (is.into (pos 0) (omega (arith, ints), omega (arith, ints, top)), fine), own-before code _ _ (is.own (pos 0)) (is.own (pos m)) (is.rises 0 m (omega arith)))
    | inr taken ↦ from-one hi m is h n
  ]
  from-positive (suc l) m hi is h n =
      let low = h.0 in
      let top = h.1 in
      let held = is.into (pos (suc l)) (omega (arith, ints), omega (arith, ints, low, top)) in (
        Num (pos (suc l)),
        (0, omega arith, refl),
        (held, some-present k (pos (suc l)) absent quoted held (λ e. (let bad : suc l ≡ 0 = cc in omega (arith, bad)))),
        own-before code _ _ (is.own (pos (suc l))) (is.own (pos m)) (is.rises (suc l) m (omega (arith, ints, low))),
      )

  from-least : (lo hi n : ℤ) → pos 0 ≤ℤ lo → IsNumeric k lo hi → IsBetween lo hi n → IsNotAbsence absent quoted (plain_text k (Num n)) → Found lo hi n
  from-least (pos l) hi (pos m) least is h n = from-positive l m hi is h n
  from-least (pos l) hi (negsuc m) least is h n = absurd (let low = h.0 in omega (arith, ints, low))
  from-least (negsuc l) hi z least is h n = absurd (omega (arith, ints, least))

-- ---- each domain

module _ (code : Coding) (d : NumRange) where
  zero-present : (absent : Absent) (quoted : Bool) → HoldsKind (kind.Num d) (Num (pos 0)) → IsNotAbsence absent quoted (plain_text (kind.Num d) (Num (pos 0)))
  zero-present absent quoted h = elim (absence_cases absent quoted (plain_text (kind.Num d) (Num (pos 0)))) [
    | inl fine ↦ fine
    | inr (inl dash) ↦ absurd (false≢true (number-dash (kind.Num d) (pos 0) h dash).0)
    | inr (inr none) ↦ absurd (number-some (kind.Num d) (pos 0) h none)
  ]

  from-zero : (n : ℤ) → LineUpTo (plain_text (kind.Num d) (Num (pos 0))) (plain_text (kind.Num d) (Num n))
  from-zero (pos m) = number-rises 0 m (omega arith)
  from-zero (negsuc m) = zero-negative m

  signed : (absent : Absent) (quoted : Bool) (lo hi n : ℤ) → ((z : ℤ) → IsBetween lo hi z → HoldsKind (kind.Num d) (Num z)) → IsBetween lo hi n → IsNotAbsence absent quoted (plain_text (kind.Num d) (Num n)) → Found (kind.Num d) code absent quoted lo hi n
  signed absent quoted (pos l) hi n into h fine = from-least (kind.Num d) code absent quoted (pos l) hi n (omega (arith, ints)) (record { into = into; own = number-own; rises = number-rises }) h fine
  signed absent quoted (negsuc l) (pos top) n into h fine =
      let held = into (pos 0) (omega (arith, ints), omega (arith, ints)) in
      (Num (pos 0), (0, omega arith, refl), (held, zero-present absent quoted held), own-before code _ _ (number-own (pos 0)) (number-own n) (from-zero n))
  signed absent quoted (negsuc l) (negsuc top) (pos m) into h fine = absurd (let high = h.1 in omega (arith, ints, high))
  signed absent quoted (negsuc l) (negsuc top) (negsuc m) into h fine =
      let low = h.0 in
      let high = h.1 in
      let held = into (negsuc top) (omega (arith, ints, low, high), omega (arith, ints)) in
      (Num (negsuc top), (0, omega arith, refl), (held, some-present (kind.Num d) (negsuc top) absent quoted held (λ e. cc)), own-before code _ _ (number-own (negsuc top)) (number-own (negsuc m)) (negatives-rise top m (omega (arith, ints, high))))

pub num-first : (code : Coding) (d : NumRange) → AreFirst (kind.Num d) code (number_values d.lo d.hi)
num-first code d absent quoted (Num n) h = signed code d absent quoted d.lo d.hi n (λ z between. between) h.0 h.1
num-first code d absent quoted v h = absurd h.0

pub dash_zero-first : (code : Coding) (d : DashZero) → AreFirst (kind.DashZero d) code (number_values d.lo d.hi)
dash_zero-first code d absent quoted (Num n) h =
    from-least (kind.DashZero d) code absent quoted d.lo d.hi n d.not_negative (record { into = λ z between. between; own = dash-own; rises = dash-rises }) h.0 h.1
dash_zero-first code d absent quoted v h = absurd h.0

pub fixed3-first : (code : Coding) (d : Fixed3) → AreFirst (kind.Fixed3 d) code (number_values d.lo d.hi)
fixed3-first code d absent quoted (Num n) h =
    from-least (kind.Fixed3 d) code absent quoted d.lo d.hi n d.not_negative (record { into = λ z between. between; own = thousandths-own; rises = thousandths-rises }) h.0 h.1
fixed3-first code d absent quoted v h = absurd h.0

pub padded-first : (code : Coding) (d : Padded) → AreFirst (kind.Padded d) code (number_values d.lo d.hi)
padded-first code d absent quoted (Num n) h =
    from-least (kind.Padded d) code absent quoted d.lo d.hi n d.not_negative
    (record { into = λ z between. between; own = padded-own (radix_of d.radix) (radix_is d.radix) d.width; rises = padded-rises (radix_of d.radix) (radix_is d.radix) d.width }) h.0 h.1
padded-first code d absent quoted v h = absurd h.0
