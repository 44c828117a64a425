use Rattle.std.proofs.Common.{◌≡◌, ℕ, zero, suc, ◌+◌, ◌-◌, ◌*◌, ◌/◌, ◌%◌, ◌<◌, ◌≤◌, List, [], ◌∷◌, ◌++◌, length, get_or, drop, set, take, min, inl, inr, ltb, refl, sym, ap, subst, ◌∙◌, arith, append_assoc, append-nil, add-one}
use Rattle.std.specs.Prelude.{replicate}
use Rattle.std.proofs.lemmas.List.{drop-set, drop_all, take_more, length-set}
use Rattle.std.proofs.Math.Nat.{zero-div}
use Rattle.std.proofs.lemmas.Nat.{mul-le}
use Rattle.std.proofs.lemmas.Bool.{cases_Bool}
use Rattle.lf_number.specs.Numbers.{IsRadix, digit_letter, digit_of, digits, width, last_digits}
use Rattle.lf_number.specs.Machines.{front, value_after}
use Rattle.lf_number.specs.Digits.{digits-one, digits-more, front-quotient, last-padded, value_after-append}
use Rattle.lf_core.specs.Choices.{below}

set-put : (at letter : ℕ) (buffer : List ℕ) → 1 ≤ at → at ≤ length buffer → drop (at - 1) (set buffer (at - 1) letter) ≡ letter ∷ drop at buffer
set-put at letter buffer one few =
    let e : (at - 1) + 1 ≡ at = omega arith in
    let d : drop (at - 1) (set buffer (at - 1) letter) ≡ letter ∷ drop ((at - 1) + 1) buffer = drop-set buffer (at - 1) letter (omega arith) in
    d ∙ ap (λ (i : ℕ). letter ∷ drop i buffer) e

-- one more digit before those that are there
pub digit-put : (r : ℕ) → IsRadix r → (rest at letter : ℕ) (buffer : List ℕ) → r ≤ rest → 1 ≤ at → at ≤ length buffer → letter ≡ digit_letter (rest % r) → digits r (rest / r) ++ drop (at - 1) (set buffer (at - 1) letter) ≡ digits r rest ++ drop at buffer
digit-put r is rest at letter buffer h one few e =
    rw (e, set-put at (digit_letter (rest % r)) buffer one few, digits-more r is rest h)
    (sym (append_assoc (digits r (rest / r)) (digit_letter (rest % r) ∷ []) (drop at buffer)))

pub head-put : (r : ℕ) → IsRadix r → (rest at letter : ℕ) (buffer : List ℕ) → rest < r → 1 ≤ at → at ≤ length buffer → letter ≡ digit_letter rest → drop (at - 1) (set buffer (at - 1) letter) ≡ digits r rest ++ drop at buffer
head-put r is rest at letter buffer h one few e =
    rw (e, set-put at (digit_letter rest) buffer one few, digits-one r is rest h)

-- the last digits, with the digit before them
last-front : (r j n : ℕ) → last_digits r (suc j) n ≡ digit_letter (front r n j % r) ∷ last_digits r j n
last-front r zero n = refl
last-front r (suc j) n =
    ap (λ (xs : List ℕ). xs ++ digit_letter (n % r) ∷ []) (last-front r j (n / r))
    ∙ ap (λ (m : ℕ). digit_letter (m % r) ∷ last_digits r (suc j) n) (front-quotient r n j)

pub last-put : (r n done end letter rest : ℕ) (buffer old : List ℕ) → done < end → end ≤ length buffer → letter ≡ digit_letter (rest % r) → rest ≡ front r n done → drop (end - done) buffer ≡ last_digits r done n ++ drop end old → drop (end - (done + 1)) (set buffer (end - 1 - done) letter) ≡ last_digits r (done + 1) n ++ drop end old
last-put r n done end letter rest buffer old few inside e f h =
    let a : end - (done + 1) ≡ end - done - 1 = omega arith in
    let b : end - 1 - done ≡ end - done - 1 = omega arith in
    rw (e, f, a, b, set-put (end - done) (digit_letter (front r n done % r)) buffer (omega arith) (omega arith), add-one, last-front r done n, h)

-- where nothing is left, nothing is left of less
pub front-stays : (r m j k : ℕ) → j ≤ k → front r m j ≡ 0 → front r m k ≡ 0
front-stays r m j zero h e = let z : j ≡ 0 = omega arith in subst (λ (x : ℕ). front r m x ≡ 0) z e
front-stays r m j (suc k) h e =
    elim (below j (suc k)) [
      | inl t ↦ rw (front-stays r m j k (omega (arith, t.1)) e) (zero-div r)
      | inr t ↦ let z : j ≡ suc k = omega (arith, t.1) in subst (λ (x : ℕ). front r m x ≡ 0) z e
    ]

pub front-next : (r n done rest : ℕ) → rest ≡ front r n done → rest / r ≡ front r n (done + 1)
front-next r n done rest e = rw (e, add-one)

pub size-set : (at letter : ℕ) (buffer old : List ℕ) → length buffer ≡ length old → length (set buffer at letter) ≡ length old
size-set at letter buffer old e = length-set buffer at letter ∙ e

pub value-more : (r : ℕ) → IsRadix r → (xs : List ℕ) (i : ℕ) → i < length xs → value_after r 0 (take (i + 1) xs) ≡ value_after r (value_after r 0 (take i xs)) (get_or xs i 0 ∷ [])
value-more r is xs i h = rw (take_more xs i 0 h) (value_after-append r is (take i xs) (get_or xs i 0 ∷ []) 0)

capped-push : (r v d top : ℕ) → 1 ≤ r → min (min v top * r + d) top ≡ min (v * r + d) top
capped-push r v d top one =
    elim (below top v) [
      | inl t ↦
          let e : min v top ≡ top = omega (arith, t.1) in
          let a : top * 1 ≤ top * r = mul-le top 1 top r (omega arith) one in
          let b : v * 1 ≤ v * r = mul-le v 1 v r (omega arith) one in
          rw e (omega (arith, t.1))
      | inr t ↦
          let e : min v top ≡ v = omega (arith, t.1) in
          rw e
    ]

pub capped-letter : (r : ℕ) → IsRadix r → (v c top : ℕ) → min (value_after r (min v top) (c ∷ [])) top ≡ min (value_after r v (c ∷ [])) top
capped-letter r is v c top =
    elim (cases_Bool (ltb (digit_of c) r)) [
      | inl t ↦ rw t (capped-push r v (digit_of c) top (omega (arith, is.least)))
      | inr t ↦ rw t (omega arith)
    ]

-- the point and the whole part before the last three digits
pub thousandths-put : (n at : ℕ) (old ends new : List ℕ) → length old ≡ 32 → length ends ≡ length old → drop 29 ends ≡ last_digits 10 3 n ++ drop 32 old → drop at new ≡ digits 10 (n / 1000) ++ drop 28 (set ends 28 46) → drop at new ≡ digits 10 (n / 1000) ++ 46 ∷ last_digits 10 3 n
thousandths-put n at old ends new size same last whole =
    let d : drop 32 old ≡ [] = drop_all 32 old (omega arith) in
    let p : drop 28 (set ends 28 46) ≡ 46 ∷ drop 29 ends = set-put 29 46 ends (omega arith) (omega arith) in
    whole
    ∙ ap (λ (x : List ℕ). digits 10 (n / 1000) ++ x) p
    ∙ ap (λ (x : List ℕ). digits 10 (n / 1000) ++ 46 ∷ x) (last ∙ ap (λ (x : List ℕ). last_digits 10 3 n ++ x) d ∙ append-nil (last_digits 10 3 n))

-- the last digits with leading zeros
pub padded-put : (r : ℕ) → IsRadix r → (n least : ℕ) (old new : List ℕ) → length old ≡ 256 → width r n < least → drop (256 - least) new ≡ last_digits r least n ++ drop 256 old → drop (256 - least) new ≡ replicate (least - width r n) 48 ++ digits r n
padded-put r is n least old new size few last =
    let d : drop 256 old ≡ [] = drop_all 256 old (omega arith) in
    last ∙ ap (λ (x : List ℕ). last_digits r least n ++ x) d ∙ append-nil (last_digits r least n) ∙ last-padded r is least n (omega arith)

-- the digits, where they are enough
pub whole-put : (r n least at : ℕ) (old new : List ℕ) → length old ≡ 256 → least ≤ width r n → drop at new ≡ digits r n ++ drop 256 old → drop at new ≡ replicate (least - width r n) 48 ++ digits r n
whole-put r n least at old new size many whole =
    let d : drop 256 old ≡ [] = drop_all 256 old (omega arith) in
    let e : least - width r n ≡ 0 = omega arith in
    whole ∙ ap (λ (x : List ℕ). digits r n ++ x) d ∙ append-nil (digits r n) ∙ ap (λ (k : ℕ). replicate k 48 ++ digits r n) (sym e)
