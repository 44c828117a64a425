-- The points from which a byte leads somewhere, and the ways back that they give.
use Rattle.std.proofs.Common.{◌≡◌, ℕ, ◌+◌, ◌<◌, ◌≤◌, inl, inr, List, [], ◌∷◌, ◌++◌, length, get_or, sym, ap, ◌∙◌, subst, arith, refl}
use Rattle.std.specs.List.{Contains}
use Rattle.std.proofs.lemmas.Bool.{cases_lt, cases_eq}
use Rattle.std.proofs.lemmas.List.{get_or_default}
use Rattle.std.proofs.lemmas.List.Elements.{Contains-get_or, Contains-append_left, Contains-append_right, Contains-append_cases}
use Rattle.lf_core.specs.declared.marked.Move.{Move}
use Rattle.lf_core.specs.Marked.{Machine}
use Rattle.lf_tables.specs.declared.ways.Back.{Back}
use Rattle.lf_tables.specs.Ways.{HasTo, IsRising, GainsMoves, AreWays}
use Rattle.lf_tables.specs.Found.{AreRising}
use Rattle.lf_tables.specs.Movers.{AreMovers, GainsFrom, AreWaysOf}
use Rattle.lf_tables.proofs.Reach.{only_one, is_one}

none_contains : {A : Type 0} {x : A} → Contains [] x → ⊥
none_contains (k, lt, is) = omega (arith, lt)

pub no_movers : (m : Machine) (byte : ℕ) → AreMovers m byte 0 []
no_movers m byte = record {
  low = λ p h. absurd (none_contains h);
  all = λ p y lt h. absurd (omega (arith, lt));
}

-- from a point without moves the byte leads nowhere
pub skip_mover : (m : Machine) (byte many : ℕ) (points : List ℕ) → AreMovers m byte many points → m.moves many byte ≡ [] → AreMovers m byte (many + 1) points
skip_mover m byte many points are no_moves = record {
  low = λ p h. omega (arith, are.low p h);
  all = λ p y lt h. elim (cases_lt p many) [
    | inl below ↦ are.all p y below h
    | inr above ↦
        let e : p ≡ many = omega (arith, lt, above) in
        absurd (none_contains (subst (λ (xs : List Move). Contains xs y) (ap (λ (q : ℕ). m.moves q byte) e ∙ no_moves) h))
  ];
}

pub push_mover : (m : Machine) (byte many : ℕ) (points : List ℕ) → AreMovers m byte many points → AreMovers m byte (many + 1) (points ++ many ∷ [])
push_mover m byte many points are = record {
  low = λ p h. elim (Contains-append_cases points (many ∷ []) p h) [
    | inl old ↦ omega (arith, are.low p old)
    | inr new ↦ omega (arith, only_one p many new)
  ];
  all = λ p y lt h. elim (cases_lt p many) [
    | inl below ↦ Contains-append_left points (many ∷ []) p (are.all p y below h)
    | inr above ↦
        let e : many ≡ p = omega (arith, lt, above) in
        Contains-append_right points (many ∷ []) p (subst (λ (q : ℕ). Contains (many ∷ []) q) e (is_one many))
  ];
}

pub gains_at : (m : Machine) (points : List ℕ) (byte p place : ℕ) (old new : List Back) → AreRising points → place < length points → get_or points place 0 ≡ p → GainsMoves place (m.moves p byte) old new → GainsFrom m points byte p old new
gains_at m points byte p place old new up lt is gains = record {
  rising = gains.rising;
  keeps = gains.keeps;
  only = λ x h. elim (gains.only x h) [
    | inl before ↦ inl before
    | inr (e, by) ↦ inr (
      omega (arith, lt, e),
      subst (λ (q : ℕ). Contains (m.moves q byte) x.step) (sym (ap (λ (i : ℕ). get_or points i 0) e ∙ is)) by,
    )
  ];
  all = λ k y kl e h. gains.all y h;
}

pub gains_nothing : (m : Machine) (points : List ℕ) (byte p : ℕ) (old : List Back) → IsRising old → ((k : ℕ) → k < length points → get_or points k 0 ≡ p → ⊥) → GainsFrom m points byte p old old
gains_nothing m points byte p old up none = record {
  rising = up;
  keeps = λ x h. h;
  only = λ x h. inl h;
  all = λ k y lt e h. absurd (none k lt e);
}

pub no_ways_of : (m : Machine) (points : List ℕ) (byte : ℕ) → AreWaysOf m points byte [] []
no_ways_of m points byte = record {
  rising = λ i j ij jn. absurd (omega (arith, jn));
  led = λ x h. absurd (none_contains h);
  all = λ k y lt h by. absurd (none_contains h);
}

pub more_ways_of : (m : Machine) (points : List ℕ) (byte p : ℕ) (movers : List ℕ) (old new : List Back) → AreWaysOf m points byte movers old → GainsFrom m points byte p old new → AreWaysOf m points byte (movers ++ p ∷ []) new
more_ways_of m points byte p movers old new are gains = record {
  rising = gains.rising;
  led = λ x h. elim (gains.only x h) [ inl before ↦ are.led x before | inr by ↦ by ];
  all = λ k y lt h by. elim (Contains-append_cases movers (p ∷ []) (get_or points k 0) h) [
    | inl before ↦ let (x, there, e) = are.all k y lt before by in (x, gains.keeps x there, e)
    | inr here ↦
        let e : p ≡ get_or points k 0 = only_one (get_or points k 0) p here in
        gains.all k y lt (sym e) (subst (λ (q : ℕ). Contains (m.moves q byte) y) (sym e) by)
  ];
}

-- the points from which the byte leads somewhere give all ways back
pub all_ways_of : (m : Machine) (points : List ℕ) (byte : ℕ) (movers : List ℕ) (backs : List Back) → ((p : ℕ) → Contains points p → p < m.count) → AreMovers m byte m.count movers → AreWaysOf m points byte movers backs → AreWays m points byte (length points) backs
all_ways_of m points byte movers backs low are of = record {
  rising = of.rising;
  led = of.led;
  all = λ k y lt by. of.all k y lt (are.all (get_or points k 0) y (low (get_or points k 0) (Contains-get_or points k 0 lt)) by) by;
}
