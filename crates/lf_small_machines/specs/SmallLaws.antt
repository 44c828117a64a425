-- Small machines are lawful.
use Rattle.std.proofs.Common.{◌≡◌, ℕ, zero, suc, ◌+◌, ◌*◌, ◌<◌, ◌≤◌, inl, inr, List, [], ◌∷◌, ◌++◌, Bool, true, false, cond, ltb, refl, sym, subst, arith}
use Rattle.std.specs.Prelude.{Contains}
use Rattle.std.proofs.lemmas.List.Elements.{All-weaker, All-contains_itself, Contains-push_cases}
use Rattle.lf_core.specs.declared.marked.Move.{Move}
use Rattle.lf_core.specs.Marked.{IsMachine, NoneTwice}
use Rattle.lf_witness.specs.Sets.{has_point}
use Rattle.lf_small_machines.specs.Small.{move_of, push_if, moves_below, small_moves, small_machine}

-- the number of a move
abbrev number_of : Move → ℕ
number_of x = x.mark * 6 + x.to

-- no move twice, and each with a lesser number and to one of the six points
record IsGood (n : ℕ) (moves : List Move) : Type 0 where
  pub once : NoneTwice moves
  pub each : (x : Move) → Contains moves x → (number_of x < n) × (x.to < 6)

none_contained : (x : Move) → Contains [] x → ⊥
none_contained x (k, lt, is) = absurd (omega (arith, lt))

once_more : (xs : List Move) (y : Move) → NoneTwice xs → (Contains xs y → ⊥) → NoneTwice (xs ++ y ∷ [])
once_more [] y h other = (none_contained y, tt)
once_more (x ∷ xs) y h other = (
  λ at. elim (Contains-push_cases xs y x at) [ inl c ↦ h.0 c | inr e ↦ other (0, omega arith, sym e) ],
  once_more xs y h.1 (λ at. other (suc at.0, (let lt = at.1 in omega (arith, lt)), at.2)),
)

good_none : IsGood 0 []
good_none = record { once = tt; each = λ x at. absurd (none_contained x at) }

-- a move by its number
moved : (n : ℕ) → (number_of (move_of n) ≡ n) × ((move_of n).to < 6)
moved n = (omega arith, omega arith)

good_more : (flag : Bool) (n : ℕ) (xs : List Move) → IsGood n xs → IsGood (suc n) (push_if flag n xs)
good_more false n xs h = record { once = h.once; each = λ x at. (let lt = (h.each x at).0 in omega (arith, lt), (h.each x at).1) }
good_more true n xs h = record {
  once = once_more xs (move_of n) h.once (λ at. let lt = (h.each (move_of n) at).0 in absurd (omega (arith, lt, (moved n).0)));
  each = λ x at. elim (Contains-push_cases xs (move_of n) x at) [
    | inl c ↦ (let lt = (h.each x c).0 in omega (arith, lt), (h.each x c).1)
    | inr e ↦ subst (λ (y : Move). (number_of y < suc n) × (y.to < 6)) e ((let is = (moved n).0 in omega (arith, is)), (moved n).1)
  ];
}

good_below : (flags : List Bool) (at n : ℕ) → IsGood n (moves_below flags at n)
unfolding moves_below
good_below flags at zero = good_none
good_below flags at (suc n) = good_more (has_point flags (at + n)) n (moves_below flags at n) (good_below flags at n)

good_or_none : (t : Bool) (n : ℕ) (xs : List Move) → IsGood n xs → IsGood n (cond t xs [])
good_or_none true n xs h = h
good_or_none false n xs h = record { once = tt; each = λ x at. absurd (none_contained x at) }

good_moves : (flags : List Bool) (point byte : ℕ) → IsGood 12 (small_moves flags point byte)
good_moves flags point byte = good_or_none (ltb byte 256) 12 _ (good_below flags ((point * 256 + byte) * 12) 12)

no_byte : (flags : List Bool) (point byte : ℕ) → 256 ≤ byte → small_moves flags point byte ≡ []
no_byte flags point byte h = let above : ltb byte 256 ≡ false = grind arith in rw above refl

pub small_lawful : (start : ℕ) (flags ends : List Bool) → start < 6 → IsMachine (small_machine start flags ends)
small_lawful start flags ends low = record {
  begins = low;
  once = λ point byte h. (good_moves flags point byte).once;
  stays = λ point byte h. All-weaker (Contains (small_moves flags point byte)) (λ x. x.to < 6) (λ x at. ((good_moves flags point byte).each x at).1) _ (All-contains_itself (small_moves flags point byte));
  bytes = λ point byte h k. no_byte flags point byte k;
}
