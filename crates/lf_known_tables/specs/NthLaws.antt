-- The machines of the tests are lawful.
use Rattle.std.proofs.Common.{◌≡◌, ℕ, zero, suc, ◌+◌, ◌<◌, ◌≤◌, List, [], ◌∷◌, Bool, true, false, cond, ltb, refl, ap, arith}
use Rattle.std.specs.Prelude.{Contains, All, ◌==◌}
use Rattle.std.proofs.lemmas.List.Elements.{All-nil, All-cons}
use Rattle.lf_core.specs.declared.marked.Move.{Move}
use Rattle.lf_core.specs.Marked.{IsMachine, NoneTwice}
use Rattle.lf_known_tables.specs.Nth.{step, listed, nth_moves, nth_machine}

no_moves : (x : Move) → Contains [] x → ⊥
no_moves x (k, lt, is) = absurd (omega (arith, lt))

-- the move that stays isn't the one to the next point
not_next : Contains (step 1 ∷ []) (step 0) → ⊥
not_next (zero, lt, is) = absurd (let to : 1 ≡ 0 = ap (λ (x : Move). x.to) is in omega (arith, to))
not_next (suc k, lt, is) = absurd (omega (arith, lt))

once : (first letter low : Bool) (point : ℕ) → NoneTwice (listed first letter low point)
once true true low point = (not_next, (no_moves (step 1), tt))
once true false low point = (no_moves (step 0), tt)
once false letter true point = (no_moves (step (point + 1)), tt)
once false letter false point = tt

once_or_none : (byte : Bool) (moves : List Move) → NoneTwice moves → NoneTwice (cond byte moves [])
once_or_none true moves h = h
once_or_none false moves h = tt

-- each leads to a point
abbrev Stay : ℕ → List Move → Type 0
Stay places moves = All (λ (x : Move). x.to < places + 1) moves

stay : (places : ℕ) (first letter low : Bool) (point : ℕ) → 1 ≤ places → (low ≡ true → point < places) → Stay places (listed first letter low point)
stay places true true low point some h = All-cons (λ (x : Move). x.to < places + 1) (step 0) (step 1 ∷ []) (omega arith) (All-cons (λ (x : Move). x.to < places + 1) (step 1) [] (omega (arith, some)) (All-nil (λ (x : Move). x.to < places + 1)))
stay places true false low point some h = All-cons (λ (x : Move). x.to < places + 1) (step 0) [] (omega arith) (All-nil (λ (x : Move). x.to < places + 1))
stay places false letter true point some h = All-cons (λ (x : Move). x.to < places + 1) (step (point + 1)) [] (let lt = h refl in omega (arith, lt)) (All-nil (λ (x : Move). x.to < places + 1))
stay places false letter false point some h = All-nil (λ (x : Move). x.to < places + 1)

stay_or_none : (places : ℕ) (byte : Bool) (moves : List Move) → Stay places moves → Stay places (cond byte moves [])
stay_or_none places true moves h = h
stay_or_none places false moves h = All-nil (λ (x : Move). x.to < places + 1)

below : (point places : ℕ) → ltb point places ≡ true → point < places
below point places h = grind (arith, h)

no_byte : (places point byte : ℕ) → 256 ≤ byte → cond (ltb byte 256) (nth_moves places point byte) [] ≡ []
no_byte places point byte h = let above : ltb byte 256 ≡ false = grind arith in rw above refl

pub nth_lawful : (places : ℕ) → 1 ≤ places → IsMachine (nth_machine places)
nth_lawful places some = record {
  begins = omega arith;
  once = λ point byte h. once_or_none (ltb byte 256) (nth_moves places point byte) (once (point == 0) (byte == 97) (ltb point places) point);
  stays = λ point byte h. stay_or_none places (ltb byte 256) (nth_moves places point byte) (stay places (point == 0) (byte == 97) (ltb point places) point some (below point places));
  bytes = λ point byte h k. no_byte places point byte k;
}
