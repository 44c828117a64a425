-- Of two machines side by side, runs of each are runs of both as one.
use Rattle.std.proofs.Common.{◌≡◌, ℕ, ◌+◌, ◌<◌, inl, inr, List, [], ◌∷◌, true, map, refl, sym, ap, ◌∙◌, subst, arith, Result, Ok, Err, Option, Some, None}
use Rattle.std.specs.Prelude.{MatchOption, IfOk, Contains}
use Rattle.lf_core.specs.declared.marked.Move.{Move}
use Rattle.lf_core.specs.Marked.{Machine, IsMachine}
use Rattle.lf_core.specs.Runs.{RunsToEnd}
use Rattle.lf_core.specs.Written.{WrittenMachine, machine_of, written}
use Rattle.lf_core.specs.WrittenLaws.{move_stays, same_moves, written_is_end}
use Rattle.lf_product.specs.declared.pair.Pair.{Pair}
use Rattle.lf_product.specs.Walk.{SharesAt, IsLeast, IsLevel, IsLeastWord}
use Rattle.lf_product.proofs.RunPairs.{two_from_shares, shares_from_two}
use Rattle.lf_product.proofs.Deciding.{contains_cases, contains_first}
use Rattle.lf_product.proofs.Sweep.{contains_none}
use Rattle.lf_meet.specs.Both.{shifted, both}
use Rattle.lf_meet.specs.BothLaws.{left_moves, right_moves, left_ends, right_ends, from_shifted, to_shifted, both_lawful}
use Rattle.lf_meet.specs.Meet.{IsMet, IsLeastMet, AreApart, IsLeastShare}

-- one machine is a part of another, in which each of its points has a place
record IsPart (m w : Machine) (place : ℕ → ℕ) : Type 0 where
  pub ends : (p : ℕ) → p < m.count → w.is_end (place p) ≡ m.is_end p
  pub goes : (p c : ℕ) (x : Move) → p < m.count → Contains (m.moves p c) x → Contains (w.moves (place p) c) (record { mark = x.mark; to = place x.to })
  pub comes : (p c : ℕ) (y : Move) → p < m.count → Contains (w.moves (place p) c) y → (x : Move) × Contains (m.moves p c) x × (place x.to ≡ y.to)

runs_into : (m w : Machine) (place : ℕ → ℕ) → IsPart m w place → IsMachine m → (p : ℕ) (line : List ℕ) (run : List Move) → p < m.count → RunsToEnd m p line run → (other : List Move) × RunsToEnd w (place p) line other
runs_into m w place part lawful p [] [] low (h, e) = ([], (tt, part.ends p low ∙ e))
runs_into m w place part lawful p [] (x ∷ run) low (h, e) = absurd h
runs_into m w place part lawful p (c ∷ line) [] low (h, e) = absurd h
runs_into m w place part lawful p (c ∷ line) (x ∷ run) low (h, e) =
    let r = runs_into m w place part lawful x.to line run (move_stays m p c x lawful low h.0) (h.1, e) in
    (record { mark = x.mark; to = place x.to } ∷ r.0, ((part.goes p c x low h.0, r.1.0), r.1.1))

runs_out : (m w : Machine) (place : ℕ → ℕ) → IsPart m w place → IsMachine m → (p : ℕ) (line : List ℕ) (other : List Move) → p < m.count → RunsToEnd w (place p) line other → (run : List Move) × RunsToEnd m p line run
runs_out m w place part lawful p [] [] low (h, e) = ([], (tt, sym (part.ends p low) ∙ e))
runs_out m w place part lawful p [] (y ∷ other) low (h, e) = absurd h
runs_out m w place part lawful p (c ∷ line) [] low (h, e) = absurd h
runs_out m w place part lawful p (c ∷ line) (y ∷ other) low (h, e) =
    let f = part.comes p c y low h.0 in
    let rest : RunsToEnd w (place f.0.to) line other = subst (λ (q : ℕ). RunsToEnd w q line other) (sym f.2) (h.1, e) in
    let r = runs_out m w place part lawful f.0.to line other (move_stays m p c f.0 lawful low f.1) rest in
    (f.0 ∷ r.0, ((f.1, r.1.0), r.1.1))

-- where both runs begin, with the value set
abbrev pub starts : Machine → Machine → Pair
starts m n = record { left = m.first; right = m.count + n.first; differed = true }

abbrev pub side_by_side : Machine → Machine → Machine
side_by_side m n = machine_of (written (both m n))

only_one : (x y : Pair) → Contains (x ∷ []) y → x ≡ y
only_one x y h = elim (contains_cases x [] y h) [ inl e ↦ e | inr none ↦ absurd (contains_none y none) ]

pub one_level : (m : Machine) (k : ℕ) (p : Pair) → p.left < m.count → p.right < m.count → IsLeast m k p → IsLevel m k (p ∷ [])
one_level m k p left right least = record {
  some = omega arith;
  below = record {
    left = λ q h. subst (λ (r : Pair). r.left < m.count) (only_one p q h) left;
    right = λ q h. subst (λ (r : Pair). r.right < m.count) (only_one p q h) right;
  };
  each_least = λ q h. subst (λ (r : Pair). IsLeast m k r) (only_one p q h) least;
}

module _ (m n : Machine) (left : IsMachine m) (right : IsMachine n) where
  moves_left : (p c : ℕ) → p < m.count → (side_by_side m n).moves p c ≡ m.moves p c
  moves_left p c low = same_moves (both m n) p c (both_lawful m n left right) (omega (arith, low)) ∙ left_moves m n p c low

  moves_right : (p c : ℕ) → p < n.count → (side_by_side m n).moves (m.count + p) c ≡ map (shifted m.count) (n.moves p c)
  moves_right p c low =
      same_moves (both m n) (m.count + p) c (both_lawful m n left right) (omega (arith, low))
      ∙ right_moves m n (m.count + p) c (omega arith)
      ∙ ap (λ (q : ℕ). map (shifted m.count) (n.moves q c)) (omega arith)

  left_part : IsPart m (side_by_side m n) (λ p. p)
  left_part = record {
    ends = λ p low. written_is_end (both m n) p (omega (arith, low)) ∙ left_ends m n p low;
    goes = λ p c x low h. subst (λ (xs : List Move). Contains xs x) (sym (moves_left p c low)) h;
    comes = λ p c y low h. (y, subst (λ (xs : List Move). Contains xs y) (moves_left p c low) h, refl);
  }

  right_part : IsPart n (side_by_side m n) (λ p. m.count + p)
  right_part = record {
    ends = λ p low. written_is_end (both m n) (m.count + p) (omega (arith, low)) ∙ right_ends m n (m.count + p) (omega arith) ∙ ap n.is_end (omega arith);
    goes = λ p c x low h. subst (λ (xs : List Move). Contains xs (shifted m.count x)) (sym (moves_right p c low)) (to_shifted m.count (n.moves p c) x h);
    comes = λ p c y low h.
        let f = from_shifted m.count (n.moves p c) y (subst (λ (xs : List Move). Contains xs y) (moves_right p c low) h) in
        (f.0, f.1, ap (λ (z : Move). z.to) f.2);
  }

  shares_from_met : (line : List ℕ) → IsMet m n line → SharesAt (side_by_side m n) line (starts m n)
  shares_from_met line (a, b, ha, hb) =
      let ra = runs_into m (side_by_side m n) (λ p. p) left_part left m.first line a left.begins ha in
      let rb = runs_into n (side_by_side m n) (λ p. m.count + p) right_part right n.first line b right.begins hb in
      shares_from_two (side_by_side m n) line ra.0 rb.0 m.first (m.count + n.first) true ra.1 rb.1 (inl refl)

  met_from_shares : (line : List ℕ) → SharesAt (side_by_side m n) line (starts m n) → IsMet m n line
  met_from_shares line h =
      let t = two_from_shares (side_by_side m n) line m.first (m.count + n.first) true h in
      let ra = runs_out m (side_by_side m n) (λ p. p) left_part left m.first line t.left left.begins t.runs_left in
      let rb = runs_out n (side_by_side m n) (λ p. m.count + p) right_part right n.first line t.right right.begins t.runs_right in
      (ra.0, rb.0, ra.1, rb.1)

  least_met : (line : List ℕ) → IsLeastWord (side_by_side m n) (starts m n ∷ []) line → IsLeastMet m n line
  least_met line h =
      let s = h.shared in record {
        met = met_from_shares line (subst (λ (p : Pair). SharesAt (side_by_side m n) line p) (sym (only_one (starts m n) s.0 s.1)) s.2);
        least = λ other k. h.least other (starts m n, contains_first (starts m n) [], shares_from_met other k);
      }

  meeting : (found : Option (List ℕ)) → IsLeastShare (side_by_side m n) (starts m n) found → MatchOption found (AreApart m n) (λ line. IsLeastMet m n line)
  meeting None none = λ line k. none line (shares_from_met line k)
  meeting (Some line) h = least_met line h

-- what is found of the two as one is so of both
pub meeting_is : {E : Type 0} (m n : Machine) (w : WrittenMachine) (p : Pair) (r : Result (Option (List ℕ)) E) → IsMachine m → IsMachine n → w ≡ written (both m n) → p ≡ starts m n → IfOk r (λ found. IsLeastShare (machine_of w) p found) → IfOk r (λ found. MatchOption found (AreApart m n) (λ line. IsLeastMet m n line))
meeting_is m n w p (Ok found) left right e is h =
    meeting m n left right found (subst (λ (v : WrittenMachine). IsLeastShare (machine_of v) (starts m n) found) e (subst (λ (q : Pair). IsLeastShare (machine_of w) q found) is h))
meeting_is m n w p (Err e) left right is begins h = tt
