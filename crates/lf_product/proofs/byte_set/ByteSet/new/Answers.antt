use Rattle.std.proofs.Common.{◌≡◌, ℕ, arith, ◌/◌, ◌%◌, inl, inr, ◌∙◌, get_or, ap, replicate, zero}
use Rattle.std.proofs.lemmas.List.{get_or-replicate, get_or_past, length-replicate}
use Rattle.std.proofs.lemmas.Bool.{cases_lt}
use Rattle.std.proofs.lemmas.Nat.Bits.{bit_at-zero}
use Rattle.std.specs.Int.{bit_at}
use Rattle.lf_product.specs.ByteSet.{HasByte}
use Rattle.lf_product.proofs.byte_set.ByteSet.new.Goals as goal

none : (i : ℕ) → get_or (replicate 4 zero) i zero ≡ zero
none i = elim (cases_lt i 4) [ inl h ↦ get_or-replicate 4 i zero zero h | inr h ↦ get_or_past (replicate 4 zero) i zero (omega (arith, h, length-replicate 4 zero)) ]

pub returns : goal.returns
unfolding HasByte
returns c = λ b h.
    let e : bit_at (get_or (replicate 4 zero) (b / 64) zero) (b % 64) ≡ zero = ap (λ (w : ℕ). bit_at w (b % 64)) (none (b / 64)) ∙ bit_at-zero (b % 64) in
    let h' : bit_at (get_or (replicate 4 zero) (b / 64) zero) (b % 64) ≡ 1 = h in
    absurd (omega (arith, e, h'))
