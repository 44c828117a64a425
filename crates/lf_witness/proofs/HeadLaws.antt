-- The least line that begins with a byte: a run to an end stands beside itself.
use Rattle.std.proofs.Common.{◌≡◌, ℕ, suc, ◌<◌, ◌≤◌, inl, inr, min, Bool, true, List, [], ◌∷◌, ◌++◌, Option, None, Some, length, get_or, refl, sym, ap, subst, arith}
use Rattle.std.specs.Prelude.{Contains}
use Rattle.std.proofs.lemmas.Bool.{cases_lt}
use Rattle.std.proofs.lemmas.List.Elements.{Contains-push_cases, Contains-append_left, Contains-push, Contains-get_or}
use Rattle.lf_core.specs.declared.marked.Move.{Move}
use Rattle.lf_core.specs.Marked.{Machine, IsMachine, IsWholeRun}
use Rattle.lf_core.specs.WrittenLaws.{move_stays}
use Rattle.lf_product.specs.declared.pair.Pair.{Pair}
use Rattle.lf_product.specs.Distance.{Suffices, IsDistance}
use Rattle.lf_product.specs.Walk.{LineLe, Shares, SharesFrom, IsNextOf, AreBelow, IsLevel, IsLeastWord}
use Rattle.lf_product.proofs.RunPairs.{two_from_shares, shares_from_two, suffices_from_shares, shares_from_suffices}
use Rattle.lf_product.proofs.WalkSteps.{no_pair, level_from_next}
use Rattle.lf_witness.specs.Runs.{IsLeastRun}
use Rattle.lf_witness.specs.Sets.{CanEnd}
use Rattle.lf_witness.specs.Heads.{EndsIn, IsNearest, lesser_number, HasNoHeaded, IsLeastHeaded, IsLeastTail}
use Rattle.lf_witness.proofs.Endings.{end_on, end_by}

ends_of_can : (m : Machine) (line : List ℕ) (p : ℕ) → CanEnd m line p → Shares m line p p true
ends_of_can m line p (run, runs) = shares_from_two m line run run p p true runs runs (inl refl)

can_of_ends : (m : Machine) (line : List ℕ) (a b : ℕ) (d : Bool) → Shares m line a b d → CanEnd m line a
can_of_ends m line a b d h = let t = two_from_shares m line a b d h in (t.left, t.runs_left)

-- One more move.
pub nearest_more : (m : Machine) (seen : List Move) (x : Move) (least n : Option ℕ) → IsNearest m seen least → IsDistance m x.to x.to true n → IsNearest m (seen ++ x ∷ []) (lesser_number least n)
nearest_more m seen x None None h d = λ y k listed ends.
    elim (Contains-push_cases seen x y listed) [ inl before ↦ h y k before ends | inr is ↦ d k (subst (λ (z : Move). EndsIn m k z.to) (sym is) ends) ]
nearest_more m seen x None (Some n) h d = (
  (x, Contains-push seen x, d.0),
  λ y k listed ends.
      elim (Contains-push_cases seen x y listed) [ inl before ↦ absurd (h y k before ends) | inr is ↦ d.1 k (subst (λ (z : Move). EndsIn m k z.to) (sym is) ends) ],
)
nearest_more m seen x (Some n) None h d = (
  (h.0.0, Contains-append_left seen (x ∷ []) h.0.0 h.0.1, h.0.2),
  λ y k listed ends.
      elim (Contains-push_cases seen x y listed) [ inl before ↦ h.1 y k before ends | inr is ↦ absurd (d k (subst (λ (z : Move). EndsIn m k z.to) (sym is) ends)) ],
)
nearest_more m seen x (Some n) (Some j) h d = (
  elim (cases_lt n j) [
    | inl lt ↦
        let is : n ≡ min n j = omega (arith, lt) in
        (h.0.0, Contains-append_left seen (x ∷ []) h.0.0 h.0.1, subst (λ (k : ℕ). EndsIn m k h.0.0.to) is h.0.2)
    | inr ge ↦ let is : j ≡ min n j = omega (arith, ge) in (x, Contains-push seen x, subst (λ (k : ℕ). EndsIn m k x.to) is d.0)
  ],
  λ y k listed ends.
      elim (Contains-push_cases seen x y listed) [
        | inl before ↦ (let le = h.1 y k before ends in omega (arith, le))
        | inr is ↦ (let le = d.1 k (subst (λ (z : Move). EndsIn m k z.to) (sym is) ends) in omega (arith, le))
      ],
)

-- both runs begin at the start, and are not told apart
abbrev pub beside : Machine → Pair
beside m = record { left = m.first; right = m.first; differed = true }

-- what the byte leads to from there, so many bytes before an end
pub record AreFirsts (m : Machine) (byte left : ℕ) (level : List Pair) : Type 0 where
  pub nearest : IsNearest m (m.moves m.first byte) (Some left)
  pub from : (p : Pair) → Contains level p → IsNextOf m left (beside m ∷ []) byte p
  pub all : (p : Pair) → IsNextOf m left (beside m ∷ []) byte p → Contains level p

-- one pair of the start, whatever it is called
abbrev pub beside_at : ℕ → List Pair
beside_at s = record { left = s; right = s; differed = true } ∷ []

pub firsts_are : (m : Machine) (byte left s : ℕ) (moves : List Move) (level : List Pair) → s ≡ m.first → moves ≡ m.moves m.first byte → IsNearest m moves (Some left) → ((p : Pair) → Contains level p → IsNextOf m left (beside_at s) byte p) → ((p : Pair) → IsNextOf m left (beside_at s) byte p → Contains level p) → AreFirsts m byte left level
firsts_are m byte left s moves level start is near from all = record {
  nearest = subst (λ (xs : List Move). IsNearest m xs (Some left)) is near;
  from = λ p h. subst (λ (q : ℕ). IsNextOf m left (beside_at q) byte p) start (from p h);
  all = λ p n. all p (subst (λ (q : ℕ). IsNextOf m left (beside_at q) byte p) (sym start) n);
}

is_one : (x : Pair) → Contains (x ∷ []) x
is_one x = (0, omega arith, refl)

pub beside_below : (m : Machine) → IsMachine m → AreBelow m (beside m ∷ [])
beside_below m lawful = record {
  left = λ p h. subst (λ (q : Pair). q.left < m.count) (one p h) lawful.begins;
  right = λ p h. subst (λ (q : Pair). q.right < m.count) (one p h) lawful.begins;
}
  where
    one : (p : Pair) → Contains (beside m ∷ []) p → beside m ≡ p
    one p h = elim (Contains-push_cases [] (beside m) p h) [ inl none ↦ (let lt = none.1 in absurd (omega (arith, lt))) | inr is ↦ is ]

-- where a move leads to a point so many bytes before an end
first_at : (m : Machine) (byte left : ℕ) (level : List Pair) (x : Move) → AreFirsts m byte left level → Contains (m.moves m.first byte) x → EndsIn m left x.to → Contains level (record { left = x.to; right = x.to; differed = true })
first_at m byte left level x f listed ends =
    f.all (record { left = x.to; right = x.to; differed = true }) (record {
      from = beside m;
      listed = is_one (beside m);
      next = record {
        x = x;
        y = x;
        on_left = listed;
        on_right = listed;
        left_is = refl;
        right_is = refl;
        differed_is = refl;
        least = (ends, λ j h. f.nearest.1 x j listed h);
      };
    })

pub firsts_level : (m : Machine) (byte left : ℕ) (level : List Pair) → IsMachine m → AreFirsts m byte left level → IsLevel m left level
firsts_level m byte left level lawful f =
    let there = first_at m byte left level f.nearest.0.0 f f.nearest.0.1 f.nearest.0.2 in
    let lt = there.1 in
    level_from_next m left (beside m ∷ []) byte level lawful (beside_below m lawful) (omega (arith, lt)) f.from

from_beside : (m : Machine) (byte left : ℕ) (p : Pair) → IsNextOf m left (beside m ∷ []) byte p → (x : Move) × Contains (m.moves m.first byte) x × (x.to ≡ p.left)
from_beside m byte left p n =
    elim (Contains-push_cases [] (beside m) n.from n.listed) [
      | inl none ↦ (let lt = none.1 in absurd (omega (arith, lt)))
      | inr is ↦ (n.next.x, subst (λ (q : Pair). Contains (m.moves q.left byte) n.next.x) (sym is) n.next.on_left, sym n.next.left_is)
    ]

-- the least word is no longer than the pairs' distance
short : (m : Machine) (left : ℕ) (level : List Pair) (tail : List ℕ) → IsLevel m left level → IsLeastWord m level tail → length tail ≤ left
short m left level tail v word =
    let p : Pair = get_or level 0 no_pair in
    let listed : Contains level p = Contains-get_or level 0 no_pair v.some in
    let way = shares_from_suffices m left p.left p.right p.differed (v.each_least p listed).0 in
    let len = way.1 in
    elim (word.least way.0 (p, listed, way.2)) [ inl lt ↦ omega (arith, lt, len) | inr both ↦ (let same = both.0 in omega (arith, same, len)) ]

pub least_tail_is : (m : Machine) (byte left : ℕ) (level : List Pair) (tail : List ℕ) → IsMachine m → AreFirsts m byte left level → IsLeastWord m level tail → IsLeastTail m byte tail
least_tail_is m byte left level tail lawful f word =
    let level_is = firsts_level m byte left level lawful f in
    let p = word.shared.0 in
    let x = from_beside m byte left p (f.from p word.shared.1) in
    let can : CanEnd m tail p.left = can_of_ends m tail p.left p.right p.differed word.shared.2 in
    record {
      can = end_by m byte tail m.first x.0 x.1 (subst (λ (q : ℕ). CanEnd m tail q) (sym x.2) can);
      least = λ other g.
          let (y, listed, on) = end_on m byte other m.first g in
          let shares = ends_of_can m other y.to on in
          let ends = suffices_from_shares m other y.to y.to true shares in
          let le : left ≤ length other = f.nearest.1 y (length other) listed ends in
          let len : length tail ≤ left = short m left level tail level_is word in
          elim (cases_lt left (length other)) [
            | inl lt ↦ inl (omega (arith, lt, len))
            | inr ge ↦
                let same : length other ≡ left = omega (arith, le, ge) in
                let there = first_at m byte left level y f listed (subst (λ (k : ℕ). EndsIn m k y.to) same ends) in
                word.least other (record { left = y.to; right = y.to; differed = true }, there, shares)
          ];
    }

-- Where no point after the byte leads to an end, no line that begins with it has a whole run.
pub headed_none : (m : Machine) (byte : ℕ) → IsNearest m (m.moves m.first byte) None → HasNoHeaded m byte
headed_none m byte none other whole runs =
    let (y, listed, on) = end_on m byte other m.first (whole, runs) in
    none y (length other) listed (suffices_from_shares m other y.to y.to true (ends_of_can m other y.to on))

-- The line and the run that were found.
pub headed_is : (m : Machine) (byte : ℕ) (tail line : List ℕ) (run : List Move) → IsLeastTail m byte tail → line ≡ byte ∷ tail → IsLeastRun m m.first line run → IsLeastHeaded m byte line run
headed_is m byte tail line run h begins least = record {
  rest = tail;
  begins = begins;
  least_line = λ other whole runs. subst (λ (bs : List ℕ). LineLe bs (byte ∷ other)) (sym begins) (longer other (h.least other (whole, runs)));
  least_run = least;
}
  where
    longer : (other : List ℕ) → LineLe tail other → LineLe (byte ∷ tail) (byte ∷ other)
    longer other (inl lt) = inl (omega (arith, lt))
    longer other (inr both) = inr (ap suc both.0, inr (refl, both.1))
