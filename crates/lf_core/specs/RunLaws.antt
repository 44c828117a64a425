-- Moves and runs are the same or not, and the order of runs, move by move.
use Rattle.std.proofs.Common.{◌≡◌, ◌≢◌, ℕ, ◌⊎◌, inl, inr, List, [], ◌∷◌, ◌++◌, refl, ap, ◌∙◌, arith}
use Rattle.std.proofs.lemmas.Bool.{cases_eq}
use Rattle.lf_core.specs.declared.marked.Move.{Move}
use Rattle.lf_core.specs.Marked.{stop}
use Rattle.lf_core.specs.Runs.{MoveLt, RunLe}

pub move_is : (x y : Move) → x.mark ≡ y.mark → x.to ≡ y.to → x ≡ y
move_is x y h k = ap (λ (v : ℕ). record { mark = v; to = x.to }) h ∙ ap (λ (v : ℕ). record { mark = y.mark; to = v }) k

pub move_cases : (x y : Move) → (x ≡ y) ⊎ (x ≢ y)
move_cases x y =
    elim (cases_eq x.mark y.mark) [
      | inl h ↦ elim (cases_eq x.to y.to) [ inl k ↦ inl (move_is x y h k) | inr n ↦ inr (λ e. n (ap (λ (z : Move). z.to) e)) ]
      | inr n ↦ inr (λ e. n (ap (λ (z : Move). z.mark) e))
    ]

-- a move and a run, each the same as another, make the same run
pub run_is : (x y : Move) (xs ys : List Move) → x ≡ y → xs ≡ ys → (x ∷ xs) ≡ (y ∷ ys)
run_is x y xs ys h k = ap (λ (z : Move). z ∷ xs) h ∙ ap (λ (zs : List Move). y ∷ zs) k

pub run_cases : (xs ys : List Move) → (xs ≡ ys) ⊎ (xs ≢ ys)
run_cases [] [] = inl refl
run_cases [] (y ∷ ys) = inr (λ e. cc)
run_cases (x ∷ xs) [] = inr (λ e. cc)
run_cases (x ∷ xs) (y ∷ ys) =
    elim (move_cases x y) [
      | inl h ↦ elim (run_cases xs ys) [ inl k ↦ inl (run_is x y xs ys h k) | inr n ↦ inr (λ e. n (cc)) ]
      | inr n ↦ inr (λ e. n (cc))
    ]

-- where a run stops after one move more
pub stop_push : (run : List Move) (point : ℕ) (x : Move) → stop point (run ++ x ∷ []) ≡ x.to
stop_push [] point x = refl
stop_push (y ∷ ys) point x = stop_push ys y.to x

-- no run is less than the empty one
pub run_le-none : (run : List Move) → RunLe [] run
run_le-none [] = inr refl
run_le-none (x ∷ xs) = inl tt

pub run_le-cons : (x y : Move) (xs ys : List Move) → x ≡ y → RunLe xs ys → RunLe (x ∷ xs) (y ∷ ys)
run_le-cons x y xs ys e (inl lt) = inl (inr (e, lt))
run_le-cons x y xs ys e (inr same) = inr (run_is x y xs ys e same)

not_less : (x y : Move) → x ≡ y → MoveLt x y → ⊥
not_less x y e (inl lt) = absurd (let same = ap (λ (z : Move). z.mark) e in omega (arith, lt, same))
not_less x y e (inr both) = absurd (let same = ap (λ (z : Move). z.to) e in omega (arith, both.1, same))

pub run_le-tail : (x : Move) (xs ys : List Move) → RunLe (x ∷ xs) (x ∷ ys) → RunLe xs ys
run_le-tail x xs ys (inl (inl lt)) = absurd (not_less x x refl lt)
run_le-tail x xs ys (inl (inr both)) = inl both.1
run_le-tail x xs ys (inr same) = inr (cc)

-- the first moves of a run that isn't above another
pub run_le-first : (x y : Move) (xs ys : List Move) → RunLe (x ∷ xs) (y ∷ ys) → MoveLt x y ⊎ ((x ≡ y) × RunLe xs ys)
run_le-first x y xs ys (inl (inl lt)) = inl lt
run_le-first x y xs ys (inl (inr both)) = inr (both.0, inl both.1)
run_le-first x y xs ys (inr same) = let e : x ≡ y = cc in let f : xs ≡ ys = cc in inr (e, inr f)
