-- Least runs, one move after another.
use Rattle.std.proofs.Common.{◌≡◌, ℕ, ◌+◌, ◌<◌, ◌≤◌, inl, inr, Bool, true, List, [], ◌∷◌, ◌++◌, Option, None, Some, length, get_or, drop, sym, ap, ◌∙◌, subst, append_assoc}
use Rattle.std.specs.Prelude.{Contains}
use Rattle.std.proofs.lemmas.List.{append-nil, drop_more, drop_all}
use Rattle.lf_core.specs.declared.marked.Move.{Move}
use Rattle.lf_core.specs.Marked.{Machine, IsMachine}
use Rattle.lf_core.specs.RunLaws.{run_le-none, run_le-cons}
use Rattle.lf_core.specs.WrittenLaws.{move_stays}
use Rattle.lf_core.specs.Runs.{RunsToEnd, RunLe}
use Rattle.lf_witness.specs.Runs.{IsLeastRun}
use Rattle.lf_witness.specs.Sets.{CanEnd, AreEnding}
use Rattle.lf_witness.specs.Open.{IsOpen, IsLeast}
use Rattle.lf_witness.proofs.Endings.{end_on, end_from_none}

-- a move from which the rest can be read is open
pub opens_by : (m : Machine) (p c : ℕ) (cs : List ℕ) (after : List Bool) (but : Option Move) (y : Move) (o : List Move) → IsMachine m → p < m.count → AreEnding m cs after → RunsToEnd m p (c ∷ cs) (y ∷ o) → (but ≡ Some y → ⊥) → IsOpen after but y
opens_by m p c cs after but y o lawful low are runs other = record {
  leads = are.all y.to (move_stays m p c y lawful low runs.0.0) (o, (runs.0.1, runs.1));
  other = other;
}

pub tail_runs : (m : Machine) (p c : ℕ) (cs : List ℕ) (x y : Move) (o : List Move) → x ≡ y → RunsToEnd m p (c ∷ cs) (y ∷ o) → RunsToEnd m x.to cs o
tail_runs m p c cs x y o e runs = subst (λ (w : Move). RunsToEnd m w.to cs o) (sym e) (runs.0.1, runs.1)

-- after the least open move, the least run
pub least_cons : (m : Machine) (p c : ℕ) (cs : List ℕ) (after : List Bool) (x : Move) (tail : List Move) → IsMachine m → p < m.count → AreEnding m cs after → IsLeast (m.moves p c) after None x → IsLeastRun m x.to cs tail → IsLeastRun m p (c ∷ cs) (x ∷ tail)
least_cons m p c cs after x tail lawful low are first rest = record {
  runs = ((first.listed, rest.runs.0), rest.runs.1);
  least = below;
}
  where
    below : (other : List Move) → RunsToEnd m p (c ∷ cs) other → RunLe (x ∷ tail) other
    below [] runs = absurd runs.0
    below (y ∷ o) runs =
        elim (first.least y runs.0.0 (opens_by m p c cs after None y o lawful low are runs (λ e. cc))) [
          | inl lt ↦ inl (inl lt)
          | inr e ↦ run_le-cons x y tail o e (rest.least o (tail_runs m p c cs x y o e runs))
        ]

-- The run grew by moves after which the least run completes it to the least.
pub record Extends (m : Machine) (start : ℕ) (line : List ℕ) (i : ℕ) (old run : List Move) (point : ℕ) : Type 0 where
  pub taken : List Move
  pub grown : run ≡ old ++ taken
  pub below : point < m.count
  pub can : CanEnd m (drop i line) point
  pub least : (tail : List Move) → IsLeastRun m point (drop i line) tail → IsLeastRun m start line (taken ++ tail)

pub extends_none : (m : Machine) (start : ℕ) (line : List ℕ) (run : List Move) → start < m.count → CanEnd m line start → Extends m start line 0 run run start
extends_none m start line run low can = record { taken = []; grown = sym (append-nil run); below = low; can = can; least = λ tail h. h }

pub extends_more : (m : Machine) (start : ℕ) (line : List ℕ) (i : ℕ) (old run new : List Move) (point : ℕ) (after : List Bool) (x : Move) → IsMachine m → i < length line → AreEnding m (drop (i + 1) line) after → IsLeast (m.moves point (get_or line i 0)) after None x → new ≡ run ++ x ∷ [] → Extends m start line i old run point → Extends m start line (i + 1) old new x.to
extends_more m start line i old run new point after x lawful lt are first pushed e =
    let c = get_or line i 0 in
    let low : x.to < m.count = move_stays m point c x lawful e.below first.listed in
    record {
      taken = e.taken ++ x ∷ [];
      grown = pushed ∙ ap (λ (zs : List Move). zs ++ x ∷ []) e.grown ∙ append_assoc old e.taken (x ∷ []);
      below = low;
      can = are.reach x.to low first.opens.leads;
      least = λ tail h.
          subst (λ (zs : List Move). IsLeastRun m start line zs) (sym (append_assoc e.taken (x ∷ []) tail))
          (e.least (x ∷ tail) (subst (λ (bs : List ℕ). IsLeastRun m point bs (x ∷ tail)) (sym (drop_more line i 0 lt)) (least_cons m point c (drop (i + 1) line) after x tail lawful e.below are first h)));
    }

pub extends_stuck : (m : Machine) (start : ℕ) (line : List ℕ) (i : ℕ) (old run : List Move) (point : ℕ) (after : List Bool) → IsMachine m → i < length line → AreEnding m (drop (i + 1) line) after → ((y : Move) → Contains (m.moves point (get_or line i 0)) y → IsOpen after None y → ⊥) → Extends m start line i old run point → ⊥
extends_stuck m start line i old run point after lawful lt are none e =
    let c = get_or line i 0 in
    let on = end_on m c (drop (i + 1) line) point (subst (λ (bs : List ℕ). CanEnd m bs point) (drop_more line i 0 lt) e.can) in
    none on.0 on.1 (record { leads = are.all on.0.to (move_stays m point c on.0 lawful e.below on.1) on.2; other = λ h. cc })

pub extends_all : (m : Machine) (start : ℕ) (line : List ℕ) (i : ℕ) (old run : List Move) (point : ℕ) → length line ≤ i → Extends m start line i old run point → (more : List Move) × (run ≡ old ++ more) × IsLeastRun m start line more
extends_all m start line i old run point all e =
    let none : drop i line ≡ [] = drop_all i line all in
    let ends : m.is_end point ≡ true = end_from_none m point (subst (λ (bs : List ℕ). CanEnd m bs point) none e.can) in
    let last : IsLeastRun m point (drop i line) [] = subst (λ (bs : List ℕ). IsLeastRun m point bs []) (sym none) (record { runs = (tt, ends); least = λ other h. run_le-none other }) in
    (e.taken, e.grown, subst (λ (zs : List Move). IsLeastRun m start line zs) (append-nil e.taken) (e.least [] last))
