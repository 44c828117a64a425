-- Two tests that agree below a bound, as computed byte by byte.
use Rattle.std.proofs.Common.{◌≡◌, ℕ, zero, suc, ◌<◌, Bool, true, false, cond, ◌&&◌, not, eqb, refl, sym, ap, ◌∙◌, inl, inr, arith}
use Rattle.std.proofs.lemmas.Bool.{and_parts, cases_Bool, eqb-true}
use Rattle.std.proofs.lemmas.Bool.Decides.{nat_tests}

-- whether both hold or neither does
abbrev same : Bool → Bool → Bool
same a b = cond a b (not b)

-- whether the tests agree on each number below the bound
unfoldable pub agree : (ℕ → Bool) → (ℕ → Bool) → ℕ → Bool
agree p q zero = true
agree p q (suc n) = agree p q n && same (p n) (q n)

same_is : (a b : Bool) → same a b ≡ true → a ≡ b
same_is true true h = refl
same_is false false h = refl
same_is true false h = absurd cc
same_is false true h = absurd cc

pub agree_at : (p q : ℕ → Bool) (n b : ℕ) → agree p q n ≡ true → b < n → p b ≡ q b
unfolding agree
agree_at p q zero b h low = absurd (omega (arith, low))
agree_at p q (suc n) b h low =
    let both = and_parts (agree p q n) (same (p n) (q n)) h in
    elim (cases_Bool (eqb b n)) [
      | inl e ↦ let is : b ≡ n = eqb-true b n e in ap p is ∙ same_is (p n) (q n) both.1 ∙ ap q (sym is)
      | inr e ↦ let other : b < n = grind (arith, nat_tests) in agree_at p q n b both.0 other
    ]
