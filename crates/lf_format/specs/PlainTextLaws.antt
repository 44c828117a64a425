-- Which plain texts are `-` or empty.
use Rattle.std.proofs.Common.{◌≡◌, ◌≢◌, ℕ, zero, suc, ◌/◌, ◌%◌, ◌≤◌, List, [], ◌∷◌, ◌++◌, true, false, ltb, refl, sym, ◌∙◌, ap, arith, ◌-◌, inl, inr}
use Rattle.std.specs.Prelude.{ℤ, pos, negsuc, ◌==◌, nat_eq, replicate, IsTrue, ◌↔◌, FitsSigned}
use Rattle.std.specs.Int.{w64}
use Rattle.std.proofs.Common.{of_z, to_z}
use Rattle.std.proofs.lemmas.Int.{to_z-of_z}
use Rattle.std.proofs.Math.Dec.{eqb-suc-zero}
use Rattle.std.proofs.lemmas.Bool.{cases_Bool, eqb-true, false≢true}
use Rattle.lf_number.specs.Numbers.{digit_letter, digits_within, digits, width, last_digits, decimal, magnitude, number_text, dash_text, thousandths_text, padded_text}
use Rattle.lf_number.specs.Digits.{letter-least}
use Rattle.lf_number.specs.Radix.{radix_of}
use Rattle.lf_core.specs.declared.values.Value.TheVariants.{Num}
use Rattle.lf_format.specs.declared.kind.Kind.{Kind}
use Rattle.lf_format.specs.declared.kind.Kind.TheVariants as kind
use Rattle.lf_format.specs.Kinds.{HoldsKind, plain_text}
use Rattle.lf_format.specs.Absence.{prints_zero_as_dash}

-- A text whose first letter isn't below the digits.
pub record BeginsHigh (text : List ℕ) : Type 0 where
  pub first : ℕ
  pub rest : List ℕ
  pub is : text ≡ first ∷ rest
  pub least : 48 ≤ first

pub begins-more : (text more : List ℕ) → BeginsHigh text → BeginsHigh (text ++ more)
begins-more text more b = record { first = b.first; rest = b.rest ++ more; is = ap (λ (t : List ℕ). t ++ more) b.is; least = b.least }

one-digit : (n : ℕ) → BeginsHigh (digit_letter n ∷ [])
one-digit n = record { first = digit_letter n; rest = []; is = refl; least = letter-least n }

within-begins : (r k n : ℕ) → BeginsHigh (digits_within r k n)
within-begins r zero n = one-digit n
within-begins r (suc k) n = elim (cases_Bool (ltb n r)) [
  | inl t ↦ rw t (one-digit n)
  | inr f ↦ rw f (begins-more (digits_within r k (n / r)) (digit_letter (n % r) ∷ []) (within-begins r k (n / r)))
]

digits-begin : (r n : ℕ) → BeginsHigh (digits r n)
unfolding digits
digits-begin r n = within-begins r n n

padded-begins : (r n k : ℕ) → BeginsHigh (replicate k 48 ++ digits r n)
padded-begins r n zero = digits-begin r n
padded-begins r n (suc k) = record { first = 48; rest = replicate k 48 ++ digits r n; is = refl; least = omega arith }

pub not-dash : (text : List ℕ) → BeginsHigh text → text ≢ 45 ∷ []
not-dash text b e =
    let same : b.first ∷ b.rest ≡ 45 ∷ [] = sym b.is ∙ e in
    let first : b.first ≡ 45 = cc in
    absurd (omega (arith, first, b.least))

pub not-none : (text : List ℕ) → BeginsHigh text → text ≢ []
not-none text b e = let same : b.first ∷ b.rest ≡ [] = sym b.is ∙ e in cc

minus-not_dash : (text : List ℕ) → BeginsHigh text → (45 ∷ text) ≢ 45 ∷ []
minus-not_dash text b e = let same : text ≡ [] = cc in not-none text b same

number-not_dash : (z : ℤ) → number_text z ≢ 45 ∷ []
number-not_dash (pos n) = not-dash (decimal n) (digits-begin 10 n)
number-not_dash (negsuc n) = minus-not_dash (decimal (suc n)) (digits-begin 10 (suc n))

number-not_none : (z : ℤ) → number_text z ≢ []
number-not_none (pos n) = not-none (decimal n) (digits-begin 10 n)
number-not_none (negsuc n) = λ e. cc

thousandths-begin : (z : ℤ) → BeginsHigh (thousandths_text z)
thousandths-begin z = begins-more (decimal (magnitude z / 1000)) (46 ∷ last_digits 10 3 (magnitude z)) (digits-begin 10 (magnitude z / 1000))

padded-text-begins : (r least : ℕ) (z : ℤ) → BeginsHigh (padded_text r least z)
padded-text-begins r least z = padded-begins r (magnitude z) (least - width r (magnitude z))

dash-not_none : (z : ℤ) → dash_text z ≢ []
dash-not_none z = elim (cases_Bool (magnitude z == 0)) [
  | inl t ↦ rw t (λ e. cc)
  | inr f ↦ rw f (number-not_none z)
]

dash-zero : (z : ℤ) → dash_text z ≡ 45 ∷ [] → z ≡ pos 0
dash-zero (pos zero) e = refl
dash-zero (pos (suc n)) e = let miss : suc n == 0 ≡ false = eqb-suc-zero n in absurd (number-not_dash (pos (suc n)) (sym (rw miss refl) ∙ e))
dash-zero (negsuc n) e = let miss : suc n == 0 ≡ false = eqb-suc-zero n in absurd (number-not_dash (negsuc n) (sym (rw miss refl) ∙ e))

-- No number's plain text is empty.
pub number-some : (k : Kind) (z : ℤ) → HoldsKind k (Num z) → plain_text k (Num z) ≢ []
number-some (kind.Num d) z h = number-not_none z
number-some (kind.DashZero d) z h = dash-not_none z
number-some (kind.Fixed3 d) z h = not-none (thousandths_text z) (thousandths-begin z)
number-some (kind.Padded d) z h = not-none (padded_text (radix_of d.radix) d.width z) (padded-text-begins (radix_of d.radix) d.width z)
number-some (kind.Words d) z h = absurd h
number-some (kind.Text d) z h = absurd h
number-some (kind.Query d) z h = absurd h
number-some (kind.Clf d) z h = absurd h
number-some (kind.Iso d) z h = absurd h
number-some (kind.IsoMillis d) z h = absurd h
number-some (kind.Ha d) z h = absurd h
number-some (kind.Date d) z h = absurd h
number-some (kind.Clock d) z h = absurd h

-- Only a zero is printed as a dash, and where the domain says so.
pub number-dash : (k : Kind) (z : ℤ) → HoldsKind k (Num z) → plain_text k (Num z) ≡ 45 ∷ [] → (prints_zero_as_dash k ≡ true) × (z ≡ pos 0)
number-dash (kind.Num d) z h e = absurd (number-not_dash z e)
number-dash (kind.DashZero d) z h e = (refl, dash-zero z e)
number-dash (kind.Fixed3 d) z h e = absurd (not-dash (thousandths_text z) (thousandths-begin z) e)
number-dash (kind.Padded d) z h e = absurd (not-dash (padded_text (radix_of d.radix) d.width z) (padded-text-begins (radix_of d.radix) d.width z) e)
number-dash (kind.Words d) z h e = absurd h
number-dash (kind.Text d) z h e = absurd h
number-dash (kind.Query d) z h e = absurd h
number-dash (kind.Clf d) z h e = absurd h
number-dash (kind.Iso d) z h e = absurd h
number-dash (kind.IsoMillis d) z h e = absurd h
number-dash (kind.Ha d) z h e = absurd h
number-dash (kind.Date d) z h e = absurd h
number-dash (kind.Clock d) z h e = absurd h

pub zero-dash : (k : Kind) → prints_zero_as_dash k ≡ true → plain_text k (Num (pos 0)) ≡ 45 ∷ []
zero-dash (kind.DashZero d) t = refl
zero-dash (kind.Num d) t = cc
zero-dash (kind.Fixed3 d) t = cc
zero-dash (kind.Padded d) t = cc
zero-dash (kind.Words d) t = cc
zero-dash (kind.Text d) t = cc
zero-dash (kind.Query d) t = cc
zero-dash (kind.Clf d) t = cc
zero-dash (kind.Iso d) t = cc
zero-dash (kind.IsoMillis d) t = cc
zero-dash (kind.Ha d) t = cc
zero-dash (kind.Date d) t = cc
zero-dash (kind.Clock d) t = cc

-- A test on the number tells whether it is printed as a dash.
pub dash-tells : (k : Kind) (z : ℤ) → FitsSigned w64 z → HoldsKind k (Num z) → prints_zero_as_dash k ≡ true → IsTrue (nat_eq (of_z w64 z) 0) ↔ (plain_text k (Num z) ≡ 45 ∷ [])
dash-tells k z f h t = (
  (λ hit.
      let zero : of_z w64 z ≡ 0 = eqb-true (of_z w64 z) 0 hit in
      let same : z ≡ pos 0 = sym (to_z-of_z w64 z f) ∙ ap (to_z w64) zero in
      ap (λ (x : ℤ). plain_text k (Num x)) same ∙ zero-dash k t),
  (λ e. let same = (number-dash k z h e).1 in ap (λ (x : ℤ). nat_eq (of_z w64 x) 0) same),
)

pub no-dash : (k : Kind) (z : ℤ) → HoldsKind k (Num z) → prints_zero_as_dash k ≡ false → plain_text k (Num z) ≢ 45 ∷ []
no-dash k z h f e = let t = (number-dash k z h e).0 in absurd (false≢true (sym f ∙ t))
