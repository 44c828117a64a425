-- Ways back that are added in their order.
use Rattle.std.proofs.Common.{◌≡◌, ℕ, ◌+◌, ◌-◌, ◌<◌, ◌≤◌, ◌⊎◌, inl, inr, List, [], ◌∷◌, ◌++◌, length, get_or, map, sym, ap, ◌∙◌, subst, arith}
use Rattle.std.specs.Prelude.{insert}
use Rattle.std.specs.List.{Contains}
use Rattle.std.proofs.lemmas.Bool.{cases_lt, cases_eq}
use Rattle.std.proofs.lemmas.List.{length-map, get_or-map, get_or_default}
use Rattle.std.proofs.lemmas.List.Edits.{length-insert, get_or-insert_at, get_or-insert_below, get_or-insert_above}
use Rattle.std.proofs.lemmas.List.Elements.{Contains-get_or, Contains-append_left, Contains-append_right, Contains-append_cases}
use Rattle.lf_core.specs.declared.marked.Move.{Move}
use Rattle.lf_core.specs.Marked.{Machine}
use Rattle.lf_tables.specs.declared.ways.Back.{Back}
use Rattle.lf_tables.specs.Ways.{no_back, back_at, to_at, HasTo, IsRising, GainsMoves, AreWays}
use Rattle.lf_tables.proofs.Reach.{only_one, is_one, LeadTo}

module _ (old : List Back) (at : ℕ) (x : Back) (le : at ≤ length old) where
  low : (k : ℕ) → k < at → to_at (insert old at x) k ≡ to_at old k
  low k h = ap (λ (y : Back). y.step.to) (get_or-insert_below old at x no_back k h le)

  here : (k : ℕ) → k ≡ at → to_at (insert old at x) k ≡ x.step.to
  here k e = ap (to_at (insert old at x)) e ∙ ap (λ (y : Back). y.step.to) (get_or-insert_at old at x no_back le)

  high : (k : ℕ) → at < k → to_at (insert old at x) k ≡ to_at old (k - 1)
  high k h =
      let e : k ≡ k - 1 + 1 = omega (arith, h) in
      ap (to_at (insert old at x)) e ∙ ap (λ (y : Back). y.step.to) (get_or-insert_above old at x no_back (k - 1) (omega (arith, h)) le)

  rises : IsRising old → ((k : ℕ) → k < at → to_at old k < x.step.to) → ((k : ℕ) → at ≤ k → k < length old → x.step.to < to_at old k) → IsRising (insert old at x)
  rises up below above i j ij jn =
      let n : length (insert old at x) ≡ length old + 1 = length-insert old at x le in
      elim (cases_lt j at) [
        | inl jl ↦ omega (arith, low i (omega (arith, ij, jl)), low j jl, up i j ij (omega (arith, jl, le)))
        | inr jh ↦ elim (cases_eq j at) [
          | inl je ↦ omega (arith, low i (omega (arith, ij, je)), here j je, below i (omega (arith, ij, je)))
          | inr jne ↦
              let jg : at < j = omega (arith, jh, jne) in
              let jo : j - 1 < length old = omega (arith, jn, n, jg) in
              elim (cases_lt i at) [
                | inl il ↦ omega (arith, low i il, high j jg, below i il, above (j - 1) (omega (arith, jg)) jo)
                | inr ih ↦ elim (cases_eq i at) [
                  | inl ie ↦ omega (arith, here i ie, high j jg, above (j - 1) (omega (arith, jg)) jo)
                  | inr ine ↦
                      let ig : at < i = omega (arith, ih, ine) in
                      omega (arith, high i ig, high j jg, up (i - 1) (j - 1) (omega (arith, ij, ig)) jo)
                ]
              ]
        ]
      ]

  stays : (y : Back) → Contains old y → Contains (insert old at x) y
  stays y (k, lt, is) =
      let n : length (insert old at x) ≡ length old + 1 = length-insert old at x le in
      elim (cases_lt k at) [
        | inl kl ↦ (k, omega (arith, n, lt), get_or-insert_below old at x y k kl le ∙ is)
        | inr kh ↦ (k + 1, omega (arith, n, lt), get_or-insert_above old at x y k kh le ∙ is)
      ]

  comes : (y : Back) → Contains (insert old at x) y → Contains old y ⊎ (x ≡ y)
  comes y (k, lt, is) =
      let n : length (insert old at x) ≡ length old + 1 = length-insert old at x le in
      elim (cases_lt k at) [
        | inl kl ↦ inl (k, omega (arith, kl, le), sym (get_or-insert_below old at x y k kl le) ∙ is)
        | inr kh ↦ elim (cases_eq k at) [
          | inl ke ↦ inr (sym (ap (λ (i : ℕ). get_or (insert old at x) i y) ke ∙ get_or-insert_at old at x y le) ∙ is)
          | inr kne ↦
              let e : k ≡ k - 1 + 1 = omega (arith, kh, kne) in
              inl (
                k - 1,
                omega (arith, n, lt, kh, kne),
                sym (ap (λ (i : ℕ). get_or (insert old at x) i y) e ∙ get_or-insert_above old at x y (k - 1) (omega (arith, kh, kne)) le) ∙ is,
              )
        ]
      ]

  stands : Contains (insert old at x) x
  stands = (at, omega (arith, le, length-insert old at x le), get_or-insert_at old at x x le)

pub insert_gains : (old : List Back) (at : ℕ) (x : Back) → at ≤ length old → IsRising old → ((k : ℕ) → k < at → to_at old k < x.step.to) → ((k : ℕ) → at ≤ k → k < length old → x.step.to < to_at old k) → GainsMoves x.before (x.step ∷ []) old (insert old at x)
insert_gains old at x le up below above = record {
  rising = rises old at x le up below above;
  keeps = stays old at x le;
  only = λ y h. elim (comes old at x le y h) [
    | inl before ↦ inl before
    | inr e ↦ inr (ap (λ (z : Back). z.before) (sym e), subst (λ (z : Back). Contains (x.step ∷ []) z.step) e (is_one x.step))
  ];
  all = λ y h. (x, stands old at x le, ap (λ (z : Move). z.to) (only_one y x.step h));
}

-- nothing is added where a way leads back from the point
pub there_gains : (old : List Back) (at : ℕ) (x : Back) → at < length old → IsRising old → to_at old at ≡ x.step.to → GainsMoves x.before (x.step ∷ []) old old
there_gains old at x lt up e = record {
  rising = up;
  keeps = λ y h. h;
  only = λ y h. inl h;
  all = λ y h. (back_at old at, Contains-get_or old at no_back lt, e ∙ ap (λ (z : Move). z.to) (only_one y x.step h));
}

pub no_moves_gain : (before : ℕ) (old : List Back) → IsRising old → GainsMoves before [] old old
no_moves_gain before old up = record {
  rising = up;
  keeps = λ y h. h;
  only = λ y h. inl h;
  all = λ y h. absurd (let (k, lt, is) = h in omega (arith, lt));
}

pub more_gain : (before : ℕ) (xs : List Move) (y : Move) (old mid new : List Back) → GainsMoves before xs old mid → GainsMoves before (y ∷ []) mid new → GainsMoves before (xs ++ y ∷ []) old new
more_gain before xs y old mid new h k = record {
  rising = k.rising;
  keeps = λ z c. k.keeps z (h.keeps z c);
  only = λ z c. elim (k.only z c) [
    | inl c' ↦ elim (h.only z c') [ inl o ↦ inl o | inr a ↦ inr (a.0, left z.step a.1) ]
    | inr a ↦ inr (a.0, right z.step a.1)
  ];
  all = λ z c. elim (Contains-append_cases xs (y ∷ []) z c) [
    | inl c' ↦ let (w, there, e) = h.all z c' in (w, k.keeps w there, e)
    | inr c' ↦ k.all z c'
  ];
}
  where
    left : (z : Move) → Contains xs z → Contains (xs ++ y ∷ []) z
    left z c = Contains-append_left xs (y ∷ []) z c

    right : (z : Move) → Contains (y ∷ []) z → Contains (xs ++ y ∷ []) z
    right z c = Contains-append_right xs (y ∷ []) z c

pub no_ways : (m : Machine) (points : List ℕ) (byte : ℕ) → AreWays m points byte 0 []
no_ways m points byte = record {
  rising = λ i j ij jn. absurd (omega (arith, jn));
  led = λ x h. absurd (let (k, lt, is) = h in omega (arith, lt));
  all = λ k y lt h. absurd (omega (arith, lt));
}

pub more_ways : (m : Machine) (points : List ℕ) (byte many : ℕ) (old new : List Back) → AreWays m points byte many old → GainsMoves many (m.moves (get_or points many 0) byte) old new → AreWays m points byte (many + 1) new
more_ways m points byte many old new h k = record {
  rising = k.rising;
  led = λ x c. elim (k.only x c) [
    | inl o ↦ let (lt, by) = h.led x o in (omega (arith, lt), by)
    | inr a ↦ (omega (arith, a.0), subst (λ (i : ℕ). Contains (m.moves (get_or points i 0) byte) x.step) (sym a.0) a.1)
  ];
  all = λ i y lt c. elim (cases_lt i many) [
    | inl less ↦ let (w, there, e) = h.all i y less c in (w, k.keeps w there, e)
    | inr ge ↦
        let e : i ≡ many = omega (arith, lt, ge) in
        k.all y (subst (λ (j : ℕ). Contains (m.moves (get_or points j 0) byte) y) e c)
  ];
}

-- the points that the ways lead back from
abbrev pub tos : List Back → List ℕ
tos backs = map (λ back. back.step.to) backs

pub tos_at : (backs : List Back) (k : ℕ) → k < length backs → get_or (tos backs) k 0 ≡ to_at backs k
tos_at backs k lt = get_or-map (λ (x : Back). x.step.to) backs k no_back 0 lt

pub length_tos : (backs : List Back) → length (tos backs) ≡ length backs
length_tos backs = length-map backs (λ (x : Back). x.step.to)

pub has_tos : (backs : List Back) (p : ℕ) → HasTo backs p → Contains (tos backs) p
has_tos backs p (x, (k, lt, is), e) = (
  k,
  omega (arith, lt, length_tos backs),
  get_or-map (λ (y : Back). y.step.to) backs k x p lt ∙ ap (λ (y : Back). y.step.to) is ∙ e,
)

pub tos_has : (backs : List Back) (p : ℕ) → Contains (tos backs) p → HasTo backs p
tos_has backs p (k, lt, is) =
    let low : k < length backs = omega (arith, lt, length_tos backs) in
    (back_at backs k, Contains-get_or backs k no_back low, sym (get_or-map (λ (y : Back). y.step.to) backs k no_back p low) ∙ is)

pub ways_lead : (m : Machine) (points : List ℕ) (byte : ℕ) (backs : List Back) → AreWays m points byte (length points) backs → LeadTo m points byte (tos backs)
ways_lead m points byte backs are = record {
  led = λ p h.
      let (x, there, e) = tos_has backs p h in
      let (lt, by) = are.led x there in
      (get_or points x.before 0, Contains-get_or points x.before 0 lt, x.step, by, e);
  all = λ q x h c.
      let (k, lt, is) = h in
      has_tos backs x.to (are.all k x lt (subst (λ (r : ℕ). Contains (m.moves r byte) x) (sym is ∙ get_or_default points k q 0 lt) c));
}

-- from a place on that leads elsewhere, the ways lead back from points above
pub above_place : (old : List Back) (at p : ℕ) → IsRising old → ((k : ℕ) → at ≤ k → k < length old → p ≤ to_at old k) → (at < length old → to_at old at ≡ p → ⊥) → (k : ℕ) → at ≤ k → k < length old → p < to_at old k
above_place old at p up above other k le lt =
    elim (cases_eq k at) [
      | inl e ↦ elim (cases_eq (to_at old at) p) [
        | inl same ↦ absurd (other (omega (arith, le, lt)) same)
        | inr ne ↦
            let here : to_at old k ≡ to_at old at = ap (to_at old) e in
            omega (arith, here, ne, above k le lt)
      ]
      | inr ne ↦
          let first : at < length old = omega (arith, le, lt) in
          omega (arith, up at k (omega (arith, le, ne)) lt, above at (omega arith) first)
    ]
