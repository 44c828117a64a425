-- What sixteen lanes hold, lane by lane.
use Rattle.std.proofs.Common.{◌≡◌, ◌≢◌, ℕ, ◌+◌, ◌-◌, ◌*◌, ◌/◌, ◌%◌, ◌^◌, ◌<◌, ◌≤◌, eqb, Bool, true, false, not, cond, List, length, get_or, map, replicate, drop, Fits, w8, refl, sym, ap, ◌∙◌, subst, arith, inl, inr, bit_and}
use Rattle.std.specs.List.{prefix_len}
use Rattle.std.proofs.lemmas.Bool.{cases_lt, eqb-false, ne_eqb, not-true}
use Rattle.std.proofs.lemmas.List.{get_or-drop}
use Rattle.std.proofs.lemmas.List.Sums.{prefix_len-le-length, prefix_len_passes}
use Rattle.std.proofs.lemmas.Nat.{and_mask}
use Rattle.std.proofs.lemmas.Simd.{length-zip2, get_or-zip2, get_or-replicate, get_or-chunk, SwzOk, SwzOk-from_below, swz_l, length-swz_l, get_or-swz_l_below, Each1-from_get_or, Each1-get_or, bitmask_splat, first_set_mask_l}
use lib.Lanes.{chunk, zip2, mask_l, top, Each1}
use Rattle.lf_letters.specs.Rows.{AreWithin, first_set, high_bits, row_holds}

module _ (f : ℕ → ℕ → ℕ) (v : List ℕ) (x : ℕ) (long : length v ≡ 16) where
  each : (k : ℕ) → k < 16 → get_or (zip2 f v (replicate 16 x)) k 0 ≡ f (get_or v k 0) x
  each k l = get_or-zip2 f v (replicate 16 x) k 0 0 0 (omega arith) (omega arith) ∙ ap (f (get_or v k 0)) (get_or-replicate 16 k x 0 l)

  many : length (zip2 f v (replicate 16 x)) ≡ 16
  many = length-zip2 f v (replicate 16 x) long ∙ long

  pub long-swizzled : (entries : List ℕ) → length (swz_l w8 16 entries 0 (zip2 f v (replicate 16 x))) ≡ 16
  long-swizzled entries = length-swz_l w8 16 entries 0 (zip2 f v (replicate 16 x)) ∙ many

  module _ (small : (k : ℕ) → k < 16 → f (get_or v k 0) x < 16) where
    -- places below 16 are in the entries
    in-entries : SwzOk w8 16 16 0 (zip2 f v (replicate 16 x))
    in-entries =
        SwzOk-from_below w8 16 1 16 0 _ refl (omega (arith, many)) (Each1-from_get_or (λ j. j < 16) _ 0 (λ k l. omega (arith, each k (omega (arith, many, l)), small k (omega (arith, many, l)))))

    at-place : (entries : List ℕ) (k : ℕ) → k < 16 → get_or (swz_l w8 16 entries 0 (zip2 f v (replicate 16 x))) k 0 ≡ get_or entries (f (get_or v k 0) x) 0
    at-place entries k l =
        let js = zip2 f v (replicate 16 x) in
        let lane = each k l in
        let place : 16 * ((0 + k) / 16) + get_or js k 0 ≡ f (get_or v k 0) x = omega (arith, lane, l) in
        get_or-swz_l_below w8 16 entries 0 js k (omega (arith, many, l)) (omega (arith, lane, small k l)) ∙ ap (λ (n : ℕ). get_or entries n 0) place

low-small : (v : List ℕ) (k : ℕ) → k < 16 → bit_and (get_or v k 0) 15 < 16
low-small v k l = omega (arith, and_mask (get_or v k 0) 4)

pub SwzOk-low : (v : List ℕ) → length v ≡ 16 → SwzOk w8 16 16 0 (zip2 bit_and v (replicate 16 15))
SwzOk-low v long = in-entries bit_and v 15 long (low-small v)

-- Each lane is the entry at its low half.
pub low-entry : (entries v : List ℕ) → length v ≡ 16 → (k : ℕ) → k < 16 → get_or (swz_l w8 16 entries 0 (zip2 bit_and v (replicate 16 15))) k 0 ≡ get_or entries (get_or v k 0 % 16) 0
low-entry entries v long k l = at-place bit_and v 15 long (low-small v) entries k l ∙ ap (λ (n : ℕ). get_or entries n 0) (and_mask (get_or v k 0) 4)

abbrev shifted : ℕ → ℕ → ℕ
shifted a b = a / 2 ^ b

module _ (v : List ℕ) (long : length v ≡ 16) (fits : Each1 (Fits w8) v) where
  high-small : (k : ℕ) → k < 16 → shifted (get_or v k 0) 4 < 16
  high-small k l = omega (arith, (Each1-get_or (Fits w8) v k 0 (omega (arith, long, l)) fits).fits)

  pub SwzOk-high : SwzOk w8 16 16 0 (zip2 (λ a b. a / 2 ^ b) v (replicate 16 4))
  SwzOk-high = in-entries shifted v 4 long high-small

  -- Each lane is the entry at its high half.
  pub high-entry : (entries : List ℕ) (k : ℕ) → k < 16 → get_or (swz_l w8 16 entries 0 (zip2 (λ a b. a / 2 ^ b) v (replicate 16 4))) k 0 ≡ get_or entries (get_or v k 0 / 16) 0
  high-entry entries k l = at-place shifted v 4 long high-small entries k l

module _ (v : List ℕ) (r : ℕ) (long : length v ≡ 16) (found : r ≡ first_set (mask_l (map (top 7) (zip2 (λ a b. cond (eqb a b) 255 0) v (replicate 16 0))) % 2 ^ 64) 16) where
  counted : r ≡ prefix_len (λ x. not (eqb x 0)) v
  counted = found ∙ ap (λ (m : ℕ). first_set m 16) (bitmask_splat w8 eqb v 16 0 long (omega arith)) ∙ first_set_mask_l (λ x. eqb x 0) v 16 long (omega arith)

  pub run-within : r ≤ 16
  run-within = omega (arith, counted, long, prefix_len-le-length (λ x. not (eqb x 0)) v)

  -- No lane of the run is zero.
  pub run-nonzero : (k : ℕ) → k < r → get_or v k 0 ≢ 0
  run-nonzero k l = eqb-false (get_or v k 0) 0 (not-true _ (prefix_len_passes (λ x. not (eqb x 0)) v k 0 (omega (arith, counted, l))))

-- The bytes of a run have their bits in the rows.
pub rows-held : (rows text a b : List ℕ) (at r : ℕ) → length a ≡ 16 → length b ≡ 16 → r ≤ 16
    → ((k : ℕ) → k < 16 → get_or a k 0 ≡ get_or rows (get_or (chunk at 16 text) k 0 % 16) 0) → ((k : ℕ) → k < 16 → get_or b k 0 ≡ get_or high_bits (get_or (chunk at 16 text) k 0 / 16) 0)
    → ((k : ℕ) → k < r → get_or (zip2 bit_and a b) k 0 ≢ 0) → (k : ℕ) → k < r → row_holds rows (get_or text (at + k) 0) ≡ true
rows-held rows text a b at r la lb most low high some k l =
    let lane = get_or-chunk at 16 text k 0 (omega (arith, most, l)) in
    let first = low k (omega (arith, most, l)) ∙ ap (λ (x : ℕ). get_or rows (x % 16) 0) lane in
    let second = high k (omega (arith, most, l)) ∙ ap (λ (x : ℕ). get_or high_bits (x / 16) 0) lane in
    let x = get_or text (at + k) 0 in
    let value : get_or (zip2 bit_and a b) k 0 ≡ bit_and (get_or rows (x % 16) 0) (get_or high_bits (x / 16) 0) =
    get_or-zip2 bit_and a b k 0 0 0 (omega (arith, most, l, la)) (omega (arith, most, l, lb)) ∙ ap (λ (n : ℕ). bit_and n (get_or b k 0)) first ∙ ap (λ (n : ℕ). bit_and (get_or rows (x % 16) 0) n) second in
    ap not (ne_eqb _ _ (λ e. some k l (value ∙ e)))

-- A run more is marked.
pub marked-more : (marks : List Bool) (rows text : List ℕ) (at run : ℕ) → AreWithin rows marks → ((k : ℕ) → Fits w8 (get_or text k 0)) → ((k : ℕ) → k < at → get_or marks (get_or text k 0) false ≡ true)
    → ((k : ℕ) → k < run → row_holds rows (get_or text (at + k) 0) ≡ true) → (k : ℕ) → k < at + run → get_or marks (get_or text k 0) false ≡ true
marked-more marks rows text at run within fits front held k l = elim (cases_lt k at) [
  | inl early ↦ front k early
  | inr late ↦
      let back : at + (k - at) ≡ k = omega (arith, late) in
      subst (λ (j : ℕ). get_or marks (get_or text j 0) false ≡ true) back (within (get_or text (at + (k - at)) 0) (fits (at + (k - at))).fits (held (k - at) (omega (arith, late, l))))
]

-- What follows is marked too.
pub marked-last : (marks : List Bool) (text rest : List ℕ) (at run : ℕ) → rest ≡ drop at text → ((k : ℕ) → k < at → get_or marks (get_or text k 0) false ≡ true)
    → ((k : ℕ) → k < run → get_or marks (get_or rest k 0) false ≡ true) → (k : ℕ) → k < at + run → get_or marks (get_or text k 0) false ≡ true
marked-last marks text rest at run is front held k l = elim (cases_lt k at) [
  | inl early ↦ front k early
  | inr late ↦
      let back : at + (k - at) ≡ k = omega (arith, late) in
      let same = ap (λ (t : List ℕ). get_or t (k - at) 0) is ∙ get_or-drop at text (k - at) 0 ∙ ap (λ (j : ℕ). get_or text j 0) back in
      subst (λ (b : ℕ). get_or marks b false ≡ true) same (held (k - at) (omega (arith, late, l)))
]
