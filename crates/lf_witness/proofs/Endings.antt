-- Sets of points for one byte more, and runs that go on by one move.
use Rattle.std.proofs.Common.{◌≡◌, ℕ, ◌+◌, ◌-◌, ◌<◌, Bool, true, List, [], ◌∷◌, ◌++◌, length, get_or, drop, refl, sym, ap, ◌∙◌, subst, arith}
use Rattle.std.specs.List.{Contains}
use Rattle.std.proofs.lemmas.List.{drop_more}
use Rattle.lf_core.specs.declared.marked.Move.{Move}
use Rattle.lf_core.specs.Marked.{Machine, IsMachine, IsRun, stop}
use Rattle.lf_core.specs.WrittenLaws.{move_stays}
use Rattle.lf_witness.specs.Sets.{CanEnd, AreBefore, AreEnding}

pub end_from_none : (m : Machine) (p : ℕ) → CanEnd m [] p → m.is_end p ≡ true
end_from_none m p ([], (h, e)) = e
end_from_none m p (x ∷ xs, (h, e)) = absurd h

pub none_from_end : (m : Machine) (p : ℕ) → m.is_end p ≡ true → CanEnd m [] p
none_from_end m p h = ([], (tt, h))

pub end_by : (m : Machine) (c : ℕ) (cs : List ℕ) (p : ℕ) (x : Move) → Contains (m.moves p c) x → CanEnd m cs x.to → CanEnd m (c ∷ cs) p
end_by m c cs p x h (run, (runs, e)) = (x ∷ run, ((h, runs), e))

pub end_on : (m : Machine) (c : ℕ) (cs : List ℕ) (p : ℕ) → CanEnd m (c ∷ cs) p → (x : Move) × Contains (m.moves p c) x × CanEnd m cs x.to
end_on m c cs p ([], (h, e)) = absurd h
end_on m c cs p (x ∷ xs, (h, e)) = (x, h.0, (xs, (h.1, e)))

ending_before : (m : Machine) (c : ℕ) (cs : List ℕ) (after set : List Bool) → IsMachine m → AreEnding m cs after → AreBefore m c after set → AreEnding m (c ∷ cs) set
ending_before m c cs after set lawful are b = record {
  each_point = b.each_point;
  reach = λ p lt h. let l = b.leads p lt h in end_by m c cs p l.0 l.1 (are.reach l.0.to (move_stays m p c l.0 lawful lt l.1) l.2);
  all = λ p lt h. let e = end_on m c cs p h in b.all p lt (e.0, e.1, are.all e.0.to (move_stays m p c e.0 lawful lt e.1) e.2);
}

-- one set more
pub sets_more : (m : Machine) (line : List ℕ) (k : ℕ) (after set : List Bool) → IsMachine m → k < length line → AreEnding m (drop (length line - k) line) after → AreBefore m (get_or line (length line - 1 - k) 0) after set → AreEnding m (drop (length line - (k + 1)) line) set
sets_more m line k after set lawful lt are b =
    let i : ℕ = length line - 1 - k in
    let here : length line - (k + 1) ≡ length line - 1 - k = omega arith in
    let next : length line - k ≡ length line - 1 - k + 1 = omega (arith, lt) in
    let rest : drop (length line - (k + 1)) line ≡ get_or line i 0 ∷ drop (length line - k) line = ap (λ (n : ℕ). drop n line) here ∙ drop_more line i 0 (omega (arith, lt)) ∙ ap (λ (n : ℕ). get_or line i 0 ∷ drop n line) (sym next) in
    subst (λ (bs : List ℕ). AreEnding m bs set) (sym rest) (ending_before m (get_or line i 0) (drop (length line - k) line) after set lawful are b)
