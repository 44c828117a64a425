-- Cells of pairs, and reads and writes of one.
use Rattle.std.proofs.Common.{◌≡◌, ◌≢◌, ℕ, zero, suc, ◌+◌, ◌*◌, ◌/◌, ◌%◌, ◌<◌, ◌≤◌, ◌⊎◌, inl, inr, min, max, Bool, true, false, cond, eqb, List, length, get_or, set, replicate, refl, ap, ◌∙◌, arith, get_or-set_same, get_or-set_other}
use Rattle.std.specs.Int.{div_ceil}
use Rattle.std.proofs.Math.Nat.{max_comm, min_comm}
use Rattle.std.proofs.lemmas.Bool.{cases_eq, cases_lt}
use Rattle.std.proofs.lemmas.Nat.{mul-le}
use Rattle.std.proofs.lemmas.List.{get_or-replicate}
use Rattle.lf_product.specs.declared.pages.TheConstants.{PAGE, BLOCK}
use Rattle.lf_product.specs.Pages.{cell, page_of, place_of, pages_for}
use Rattle.lf_product.specs.Cells.{steps_at}

flag_below : (d : Bool) → cond d 1 0 < 2
flag_below true = omega arith
flag_below false = omega arith

abbrev pub one_if : Bool → ℕ
one_if d = cond d 1 0

flag_same : (d e : Bool) → one_if d ≡ one_if e → d ≡ e
flag_same true true h = refl
flag_same true false h = absurd (omega (arith, h))
flag_same false true h = absurd (omega (arith, h))
flag_same false false h = refl

-- the double of a half of a product of neighbours
even : (h : ℕ) → h * (h + 1) / 2 * 2 ≡ h * (h + 1)
even zero = refl
even (suc h) = let e : h * (h + 1) / 2 * 2 ≡ h * (h + 1) = even h in omega (arith, e)

-- a greater block's first page comes after each page of a lesser one
pages_rise : (h h' : ℕ) → h < h' → h * (h + 1) / 2 + h < h' * (h' + 1) / 2
pages_rise h h' lt =
    let most : (h + 1) * (h + 2) ≤ h' * (h' + 1) = mul-le (h + 1) (h + 2) h' (h' + 1) (omega (arith, lt)) (omega (arith, lt)) in
    omega (arith, most, even h, even h')

pub place_below : (a b : ℕ) (d : Bool) → place_of a b d < PAGE
unfolding place_of
place_below a b d = let f : one_if d < 2 = flag_below d in omega (arith, f)

pub cell-lt : (n a b : ℕ) (d : Bool) → a < n → b < n → cell a b d < pages_for n * PAGE
unfolding cell page_of pages_for
cell-lt n a b d ha hb =
    let high : max a b / BLOCK < div_ceil n BLOCK = omega (arith, ha, hb) in
    let order : min a b / BLOCK ≤ max a b / BLOCK = omega arith in
    let rise = pages_rise (max a b / BLOCK) (div_ceil n BLOCK) high in
    omega (arith, rise, order, place_below a b d)

pub cell_swap : (a b : ℕ) (d : Bool) → cell a b d ≡ cell b a d
unfolding cell page_of place_of
cell_swap a b d = rw (max_comm a b, min_comm a b) refl

same_block : (h l h' l' : ℕ) → l ≤ h → l' ≤ h' → h * (h + 1) / 2 + l ≡ h' * (h' + 1) / 2 + l' → h ≡ h'
same_block h l h' l' le le' e =
    elim (cases_lt h h') [
      | inl lt ↦ let rise = pages_rise h h' lt in absurd (omega (arith, rise, le, e))
      | inr ge ↦ elim (cases_lt h' h) [ inl lt ↦ let rise = pages_rise h' h lt in absurd (omega (arith, rise, le', e)) | inr ge' ↦ omega (arith, ge, ge') ]
    ]

same_places : (x y f x' y' f' : ℕ) → y < 64 → y' < 64 → f < 2 → f' < 2 → x * 128 + 2 * y + f ≡ x' * 128 + 2 * y' + f' → (x ≡ x') × ((y ≡ y') × (f ≡ f'))
same_places x y f x' y' f' hy hy' hf hf' e = (omega (arith, e, hy, hy', hf, hf'), (omega (arith, e, hy, hy', hf, hf'), omega (arith, e, hy, hy', hf, hf')))

same_points : (a b a' b' : ℕ) → max a b ≡ max a' b' → min a b ≡ min a' b' → ((a ≡ a') × (b ≡ b')) ⊎ ((a ≡ b') × (b ≡ a'))
same_points a b a' b' high low =
    elim (cases_lt a b) [
      | inl lt ↦ elim (cases_lt a' b') [ inl lt' ↦ inl (omega (arith, high, low, lt, lt'), omega (arith, high, low, lt, lt')) | inr ge' ↦ inr (omega (arith, high, low, lt, ge'), omega (arith, high, low, lt, ge')) ]
      | inr ge ↦ elim (cases_lt a' b') [ inl lt' ↦ inr (omega (arith, high, low, ge, lt'), omega (arith, high, low, ge, lt')) | inr ge' ↦ inl (omega (arith, high, low, ge, ge'), omega (arith, high, low, ge, ge')) ]
    ]

pub cell_same : (a b : ℕ) (d : Bool) (a' b' : ℕ) (d' : Bool) → cell a b d ≡ cell a' b' d' → (((a ≡ a') × (b ≡ b')) ⊎ ((a ≡ b') × (b ≡ a'))) × (d ≡ d')
unfolding cell page_of place_of
cell_same a b d a' b' d' e =
    let small : place_of a b d < PAGE = place_below a b d in
    let small' : place_of a' b' d' < PAGE = place_below a' b' d' in
    let page : page_of a b ≡ page_of a' b' = omega (arith, e, small, small') in
    let place : place_of a b d ≡ place_of a' b' d' = omega (arith, e, small, small') in
    let rest = same_places (max a b % BLOCK) (min a b % BLOCK) (one_if d) (max a' b' % BLOCK) (min a' b' % BLOCK) (one_if d') (omega arith) (omega arith) (flag_below d) (flag_below d') place in
    let block : max a b / BLOCK ≡ max a' b' / BLOCK = same_block (max a b / BLOCK) (min a b / BLOCK) (max a' b' / BLOCK) (min a' b' / BLOCK) (omega arith) (omega arith) page in
    let first : max a b / BLOCK * (max a b / BLOCK + 1) / 2 ≡ max a' b' / BLOCK * (max a' b' / BLOCK + 1) / 2 = ap (λ (h : ℕ). h * (h + 1) / 2) block in
    let second : min a b / BLOCK ≡ min a' b' / BLOCK = omega (arith, page, first) in
    let high : max a b ≡ max a' b' = omega (arith, block, rest.0) in
    let low : min a b ≡ min a' b' = omega (arith, second, rest.1.0) in
    (same_points a b a' b' high low, flag_same d d' rest.1.1)

pub eqb_comm : (a b : ℕ) → eqb a b ≡ eqb b a
eqb_comm a b = elim (cases_eq a b) [ inl e ↦ rw e refl | inr ne ↦ grind (arith, ne) ]

-- a write is read back
pub steps_at-set_same : (ds : List ℕ) (a b : ℕ) (d : Bool) (v a' b' : ℕ) (d' : Bool) → cell a' b' d' ≡ cell a b d → cell a b d < length ds → steps_at (set ds (cell a b d) v) a' b' d' ≡ v
unfolding steps_at
steps_at-set_same ds a b d v a' b' d' e h = ap (λ (i : ℕ). get_or (set ds (cell a b d) v) i 0) e ∙ get_or-set_same ds (cell a b d) v 0 h

-- two flagged pairs of one place have one distance
pub steps_at-same : (ds : List ℕ) (a b : ℕ) (d : Bool) (a' b' : ℕ) (d' : Bool) → cell a' b' d' ≡ cell a b d → steps_at ds a' b' d' ≡ steps_at ds a b d
unfolding steps_at
steps_at-same ds a b d a' b' d' e = ap (λ (i : ℕ). get_or ds i 0) e

-- the other places stay
pub steps_at-set_other : (ds : List ℕ) (a b : ℕ) (d : Bool) (v a' b' : ℕ) (d' : Bool) → cell a' b' d' ≢ cell a b d → steps_at (set ds (cell a b d) v) a' b' d' ≡ steps_at ds a' b' d'
unfolding steps_at
steps_at-set_other ds a b d v a' b' d' h = get_or-set_other ds (cell a b d) (cell a' b' d') v 0 h

pub steps_at-replicate : (n none a b : ℕ) (d : Bool) → a < n → b < n → steps_at (replicate (pages_for n * PAGE) none) a b d ≡ none
unfolding steps_at
steps_at-replicate n none a b d ha hb = get_or-replicate (pages_for n * PAGE) (cell a b d) none 0 (cell-lt n a b d ha hb)
