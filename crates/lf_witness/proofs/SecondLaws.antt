-- The second least run.
use Rattle.std.proofs.Common.{◌≡◌, ◌≢◌, ℕ, zero, suc, ◌+◌, ◌<◌, ◌≤◌, inl, inr, Bool, List, [], ◌∷◌, ◌++◌, Option, None, Some, length, get_or, take, drop, refl, sym, ap, ◌∙◌, subst, arith, append_assoc}
use Rattle.std.specs.Prelude.{Contains, All}
use Rattle.std.proofs.lemmas.List.{drop_more, take_more, drop_all}
use Rattle.lf_core.specs.declared.marked.Move.{Move}
use Rattle.lf_core.specs.Marked.{Machine, IsMachine, IsRun, stop, no_move}
use Rattle.lf_core.specs.WrittenLaws.{move_stays}
use Rattle.lf_core.specs.Runs.{RunsToEnd, MoveLt, RunLe, IsShared}
use Rattle.lf_core.specs.RunLaws.{move_cases, stop_push, run_is, run_le-cons, run_le-tail, run_le-first}
use Rattle.lf_witness.specs.Runs.{IsLeastRun, IsSecondRun, IsOnlyRun}
use Rattle.lf_witness.specs.Sets.{AreEnding}
use Rattle.lf_witness.specs.Open.{IsOpen, IsLeast, IsLeastOpen}
use Rattle.lf_witness.specs.declared.second.Branch.{Branch}
use Rattle.lf_witness.specs.Branch.{IsBranch, OnlyFrom, IsOtherMove}
use Rattle.lf_witness.proofs.RunSteps.{opens_by, tail_runs}

pub only_none : (m : Machine) (p : ℕ) → IsOnlyRun m p [] []
only_none m p [] runs = refl
only_none m p (x ∷ xs) runs = absurd runs.0

-- Where no other move is open, the run stays the only one.
pub only_more : (m : Machine) (p c : ℕ) (cs : List ℕ) (x : Move) (l : List Move) (after : List Bool) → IsMachine m → p < m.count → AreEnding m cs after → ((y : Move) → Contains (m.moves p c) y → IsOpen after (Some x) y → ⊥) → IsOnlyRun m x.to cs l → IsOnlyRun m p (c ∷ cs) (x ∷ l)
only_more m p c cs x l after lawful low are none only [] runs = absurd runs.0
only_more m p c cs x l after lawful low are none only (y ∷ o) runs =
    elim (move_cases x y) [
      | inl e ↦ run_is y x o l (sym e) (only o (tail_runs m p c cs x y o e runs))
      | inr n ↦ absurd (none y runs.0.0 (opens_by m p c cs after (Some x) y o lawful low are runs (λ e. n (cc))))
    ]

-- The least other move, and then the least run.
pub second_here : (m : Machine) (p c : ℕ) (cs : List ℕ) (x : Move) (l : List Move) (after : List Bool) (step : Move) (tail : List Move) → IsMachine m → p < m.count → AreEnding m cs after → IsLeast (m.moves p c) after (Some x) step → IsOnlyRun m x.to cs l → IsLeastRun m step.to cs tail → IsSecondRun m p (c ∷ cs) (x ∷ l) (step ∷ tail)
second_here m p c cs x l after step tail lawful low are first only rest = record {
  runs = ((first.listed, rest.runs.0), rest.runs.1);
  differs = λ e. first.opens.other (cc);
  least = below;
}
  where
    below : (other : List Move) → RunsToEnd m p (c ∷ cs) other → other ≢ (x ∷ l) → RunLe (step ∷ tail) other
    below [] runs differs = absurd runs.0
    below (y ∷ o) runs differs =
        elim (move_cases x y) [
          | inl e ↦ absurd (differs (run_is y x o l (sym e) (only o (tail_runs m p c cs x y o e runs))))
          | inr n ↦
              elim (first.least y runs.0.0 (opens_by m p c cs after (Some x) y o lawful low are runs (λ e. n (cc)))) [
                | inl lt ↦ inl (inl lt)
                | inr e ↦ run_le-cons step y tail o e (rest.least o (tail_runs m p c cs step y o e runs))
              ]
        ]

least_tail : (m : Machine) (p c : ℕ) (cs : List ℕ) (x : Move) (l : List Move) → IsLeastRun m p (c ∷ cs) (x ∷ l) → IsLeastRun m x.to cs l
least_tail m p c cs x l h = record {
  runs = (h.runs.0.1, h.runs.1);
  least = λ o runs. run_le-tail x l o (h.least (x ∷ o) ((h.runs.0.0, runs.0), runs.1));
}

second_cons : (m : Machine) (p c : ℕ) (cs : List ℕ) (x : Move) (l t : List Move) → IsLeastRun m p (c ∷ cs) (x ∷ l) → IsSecondRun m x.to cs l t → IsSecondRun m p (c ∷ cs) (x ∷ l) (x ∷ t)
second_cons m p c cs x l t h s = record {
  runs = ((h.runs.0.0, s.runs.0), s.runs.1);
  differs = λ e. s.differs (cc);
  least = below;
}
  where
    below : (other : List Move) → RunsToEnd m p (c ∷ cs) other → other ≢ (x ∷ l) → RunLe (x ∷ t) other
    below [] runs differs = absurd runs.0
    below (y ∷ o) runs differs =
        elim (run_le-first x y l o (h.least (y ∷ o) runs)) [
          | inl lt ↦ inl (inl lt)
          | inr both ↦ run_le-cons x y t o both.0 (s.least o (tail_runs m p c cs x y o both.0 runs) (λ e. differs (run_is y x o l (sym both.0) e)))
        ]

-- What is second least from a place of the least run on is so from its start.
pub second_lift : (m : Machine) (i p : ℕ) (line : List ℕ) (first s : List Move) → IsLeastRun m p line first → IsSecondRun m (stop p (take i first)) (drop i line) (drop i first) s → IsSecondRun m p line first (take i first ++ s)
second_lift m zero p line first s h t = t
second_lift m (suc i) p [] [] s h t = t
second_lift m (suc i) p [] (x ∷ l) s h t = absurd h.runs.0
second_lift m (suc i) p (c ∷ cs) [] s h t = absurd h.runs.0
second_lift m (suc i) p (c ∷ cs) (x ∷ l) s h t =
    second_cons m p c cs x l (take i l ++ s) h (second_lift m i x.to cs l s (least_tail m p c cs x l h) t)

run_length : (m : Machine) (p : ℕ) (line : List ℕ) (run : List Move) → IsRun m.moves p line run → length run ≡ length line
run_length m p [] [] runs = refl
run_length m p [] (x ∷ xs) runs = absurd runs
run_length m p (c ∷ cs) [] runs = absurd runs
run_length m p (c ∷ cs) (x ∷ xs) runs = ap suc (run_length m x.to cs xs runs.1)

pub least_length : (m : Machine) (p : ℕ) (line : List ℕ) (run : List Move) → IsLeastRun m p line run → length run ≡ length line
least_length m p line run h = run_length m p line run h.runs.0

-- the point after the first moves of a run is a point
pub stop_below : (m : Machine) (i p : ℕ) (line : List ℕ) (run : List Move) → IsMachine m → p < m.count → IsRun m.moves p line run → stop p (take i run) < m.count
stop_below m zero p line run lawful low runs = low
stop_below m (suc i) p [] [] lawful low runs = low
stop_below m (suc i) p [] (x ∷ xs) lawful low runs = absurd runs
stop_below m (suc i) p (c ∷ cs) [] lawful low runs = absurd runs
stop_below m (suc i) p (c ∷ cs) (x ∷ xs) lawful low runs = stop_below m i x.to cs xs lawful (move_stays m p c x lawful low runs.0) runs.1

-- the point after one move more
pub stop_more : (p i : ℕ) (run : List Move) → i < length run → stop p (take (i + 1) run) ≡ (get_or run i no_move).to
stop_more p i run lt = ap (stop p) (take_more run i no_move lt) ∙ stop_push (take i run) p (get_or run i no_move)

pub only_from_end : (m : Machine) (line : List ℕ) (first : List Move) (at : ℕ) → IsLeastRun m m.first line first → length line ≤ at → OnlyFrom m line first at
only_from_end m line first at h all =
    let q = stop m.first (take at first) in
    let none : drop at line ≡ [] = drop_all at line all in
    let end : drop at first ≡ [] = drop_all at first (omega (arith, least_length m m.first line first h, all)) in
    subst (λ (bs : List ℕ). IsOnlyRun m q bs (drop at first)) (sym none) (subst (λ (xs : List Move). IsOnlyRun m q [] xs) (sym end) (only_none m q))

-- the rest of the only run after one move more
only_next : (m : Machine) (line : List ℕ) (first : List Move) (at : ℕ) → at < length first → OnlyFrom m line first (at + 1) → IsOnlyRun m (get_or first at no_move).to (drop (at + 1) line) (drop (at + 1) first)
only_next m line first at lt h = subst (λ (q : ℕ). IsOnlyRun m q (drop (at + 1) line) (drop (at + 1) first)) (stop_more m.first at first lt) h

pub only_from_more : (m : Machine) (line : List ℕ) (first : List Move) (at : ℕ) (after : List Bool) → IsMachine m → IsLeastRun m m.first line first → at < length line → AreEnding m (drop (at + 1) line) after → ((y : Move) → Contains (m.moves (stop m.first (take at first)) (get_or line at 0)) y → IsOpen after (Some (get_or first at no_move)) y → ⊥) → OnlyFrom m line first (at + 1) → OnlyFrom m line first at
only_from_more m line first at after lawful h lt are none only =
    let q = stop m.first (take at first) in
    let low : at < length first = omega (arith, least_length m m.first line first h, lt) in
    let more = only_more m q (get_or line at 0) (drop (at + 1) line) (get_or first at no_move) (drop (at + 1) first) after lawful (stop_below m at m.first line first lawful lawful.begins h.runs.0) are none (only_next m line first at low only) in
    subst (λ (bs : List ℕ). IsOnlyRun m q bs (drop at first)) (sym (drop_more line at 0 lt))
    (subst (λ (xs : List Move). IsOnlyRun m q (get_or line at 0 ∷ drop (at + 1) line) xs) (sym (drop_more first at no_move low)) more)

pub branch_is : (m : Machine) (line : List ℕ) (first : List Move) (at : ℕ) (step : Move) (after : List Bool) → IsMachine m → IsLeastRun m m.first line first → at < length line → AreEnding m (drop (at + 1) line) after → IsLeast (m.moves (stop m.first (take at first)) (get_or line at 0)) after (Some (get_or first at no_move)) step → OnlyFrom m line first (at + 1) → IsBranch m line first (record { at = at; step = step })
branch_is m line first at step after lawful h lt are least only =
    let q = stop m.first (take at first) in
    let low : at < length first = omega (arith, least_length m m.first line first h, lt) in
    let point : q < m.count = stop_below m at m.first line first lawful lawful.begins h.runs.0 in
    let below : step.to < m.count = move_stays m q (get_or line at 0) step lawful point least.listed in
    record {
      within = lt;
      below = below;
      can = are.reach step.to below least.opens.leads;
      second = λ tail rest.
          let here = second_here m q (get_or line at 0) (drop (at + 1) line) (get_or first at no_move) (drop (at + 1) first) after step tail lawful point are least (only_next m line first at low only) rest in
          subst (λ (bs : List ℕ). IsSecondRun m q bs (drop at first) (step ∷ tail)) (sym (drop_more line at 0 lt))
          (subst (λ (xs : List Move). IsSecondRun m q (get_or line at 0 ∷ drop (at + 1) line) xs (step ∷ tail)) (sym (drop_more first at no_move low)) here);
    }

-- What the least other move tells.
pub other_is : (m : Machine) (line : List ℕ) (first : List Move) (at : ℕ) (after : List Bool) (step : Option Move) → IsMachine m → IsLeastRun m m.first line first → at < length line → AreEnding m (drop (at + 1) line) after → IsLeastOpen (m.moves (stop m.first (take at first)) (get_or line at 0)) after (Some (get_or first at no_move)) step → OnlyFrom m line first (at + 1) → IsOtherMove m line first at step
other_is m line first at after None lawful h lt are openss only = only_from_more m line first at after lawful h lt are openss only
other_is m line first at after (Some step) lawful h lt are openss only = branch_is m line first at step after lawful h lt are openss only

-- The moves lead to points, of each of which the set tells.
pub moves_within : (m : Machine) (p c : ℕ) (cs : List ℕ) (moves : List Move) (after : List Bool) → IsMachine m → p < m.count → moves ≡ m.moves p c → AreEnding m cs after → All (λ (x : Move). x.to < length after) moves
moves_within m p c cs moves after lawful low is are =
    subst (λ (n : ℕ). All (λ (x : Move). x.to < n) moves) (sym are.each_point) (subst (λ (xs : List Move). All (λ (x : Move). x.to < m.count) xs) (sym is) (lawful.stays p c low))

-- A shared line has another run than the least.
pub shared_not_only : (m : Machine) (line : List ℕ) (first : List Move) → IsShared m line → IsOnlyRun m m.first line first → ⊥
shared_not_only m line first (left, right, h, k, n) only = n (only left h ∙ sym (only right k))

pub second_whole : (m : Machine) (line : List ℕ) (first run tail : List Move) (b : Branch) → IsLeastRun m m.first line first → IsBranch m line first b → IsLeastRun m b.step.to (drop (b.at + 1) line) tail → run ≡ (take b.at first ++ b.step ∷ []) ++ tail → IsSecondRun m m.first line first run
second_whole m line first run tail b h branch rest is =
    subst (λ (xs : List Move). IsSecondRun m m.first line first xs) (sym (is ∙ append_assoc (take b.at first) (b.step ∷ []) tail))
    (second_lift m b.at m.first line first (b.step ∷ tail) h (branch.second tail rest))
