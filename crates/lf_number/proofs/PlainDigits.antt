-- Digits of which the first isn't zero are the text of the number that they write.
use Rattle.std.proofs.Common.{◌≡◌, ℕ, zero, suc, ◌+◌, ◌-◌, ◌*◌, ◌<◌, ◌≤◌, ◌^◌, List, [], ◌∷◌, ◌++◌, min, true, false, ltb, leb, ◌&&◌, refl, sym, ap, subst, ◌∙◌, arith, append_assoc, append-nil}
use Rattle.std.specs.Prelude.{ℤ, pos, negsuc, FitsSigned}
use lib.IntN.{nat_abs}
use lib.Signed.{le_z}
use Rattle.std.specs.List.{list_all}
use Rattle.std.specs.Int.{w64}
use Rattle.std.proofs.lemmas.Int.{ints}
use Rattle.std.proofs.lemmas.Bool.{and_parts}
use Rattle.std.proofs.lemmas.Bool.Decides.{nat_tests}
use Rattle.lf_number.specs.Numbers.{decimal, digit_letter, digit_of, number_text, magnitude, is_decimal_digit, is_plain_digits}
use Rattle.lf_number.specs.Machines.{value_after}
use Rattle.lf_number.specs.Digits.{ten, digits-one, digits-push, value-digits}

digit-is : (c : ℕ) → leb 48 c && leb c 57 ≡ true → digit_of c ≡ c - 48
unfolding digit_of
digit-is c h = rw h

letter-is : (c : ℕ) → 48 ≤ c → c ≤ 57 → digit_letter (c - 48) ≡ c
unfolding digit_letter
letter-is c l h = grind (arith, nat_tests)

within : (c : ℕ) → leb 48 c && leb c 57 ≡ true → (48 ≤ c) × (c ≤ 57)
within c h = (grind (arith, nat_tests), grind (arith, nat_tests))

above : (c : ℕ) → leb 49 c && leb c 57 ≡ true → (49 ≤ c) × (c ≤ 57)
above c h = (grind (arith, nat_tests), grind (arith, nat_tests))

widen : (c : ℕ) → leb 49 c && leb c 57 ≡ true → leb 48 c && leb c 57 ≡ true
widen c h = grind (arith, nat_tests)

takes-digit : (acc c : ℕ) (cs : List ℕ) → leb 48 c && leb c 57 ≡ true → value_after 10 acc (c ∷ cs) ≡ value_after 10 (acc * 10 + (c - 48)) cs
takes-digit acc c cs h =
    let w = within c h in
    let t : ltb (c - 48) 10 ≡ true = grind (arith, nat_tests) in
    rw (digit-is c h, t)

-- further digits stand after those of the number so far
digits-after : (p : ℕ) → 0 < p → (cs : List ℕ) → list_all is_decimal_digit cs ≡ true → decimal (value_after 10 p cs) ≡ decimal p ++ cs
digits-after p h [] all = sym (append-nil (decimal p))
digits-after p h (c ∷ cs) all =
    let parts = and_parts (leb 48 c && leb c 57) (list_all is_decimal_digit cs) all in
    let w = within c parts.0 in
    let d : c - 48 < 10 = omega (arith, w.0, w.1) in
    let more : 0 < p * 10 + (c - 48) = omega arith in
    ap decimal (takes-digit p c cs parts.0)
    ∙ digits-after (p * 10 + (c - 48)) more cs parts.1
    ∙ ap (λ (ds : List ℕ). ds ++ cs) (digits-push 10 ten p (c - 48) h d)
    ∙ append_assoc (decimal p) (digit_letter (c - 48) ∷ []) cs
    ∙ ap (λ (x : ℕ). decimal p ++ x ∷ cs) (letter-is c w.0 w.1)

pub plain-text : (text : List ℕ) → is_plain_digits text ≡ true → decimal (value_after 10 0 text) ≡ text
plain-text [] h = cc
plain-text (c ∷ cs) h =
    let parts = and_parts (leb 49 c && leb c 57) (list_all is_decimal_digit cs) h in
    let w = above c parts.0 in
    let zero-is : 0 * 10 + (c - 48) ≡ c - 48 = omega arith in
    let some : 0 < c - 48 = omega (arith, w.0) in
    let d : c - 48 < 10 = omega (arith, w.1) in
    let low : 48 ≤ c = omega (arith, w.0) in
    ap decimal (takes-digit 0 c cs (widen c parts.0) ∙ ap (λ (a : ℕ). value_after 10 a cs) zero-is)
    ∙ digits-after (c - 48) some cs parts.1
    ∙ ap (λ (ds : List ℕ). ds ++ cs) (digits-one 10 ten (c - 48) d)
    ∙ ap (λ (x : ℕ). x ∷ cs) (letter-is c low w.1)

head-apart : (cs text : List ℕ) (b : ℕ) → b < 49 → is_plain_digits text ≡ true → b ∷ cs ≡ text → ⊥
head-apart cs [] b l h e = cc
head-apart cs (c ∷ ts) b l h e =
    let parts = and_parts (leb 49 c && leb c 57) (list_all is_decimal_digit ts) h in
    let w = above c parts.0 in
    let same : b ≡ c = cc in
    omega (arith, w.0)

zero-low : digit_letter 0 < 49
unfolding digit_letter
zero-low = omega arith

-- A number above zero has the text where its magnitude is the digits' value.
pub is-text : (k : ℕ) (text : List ℕ) (value : ℕ) → k < 2 ^ 63 → is_plain_digits text ≡ true → value ≡ min (value_after 10 0 text) (2 ^ 64 - 1) → k ≡ value → number_text (pos k) ≡ text
is-text k text value f h v e =
    let same : k ≡ value_after 10 0 text = omega (arith, f, e ∙ v) in
    ap decimal same ∙ plain-text text h

-- The number that has the text is above zero, and its magnitude is the digits' value.
pub has-value : (n : ℤ) (text : List ℕ) (value : ℕ) → FitsSigned w64 n → is_plain_digits text ≡ true → value ≡ min (value_after 10 0 text) (2 ^ 64 - 1) → number_text n ≡ text → (magnitude n ≡ value) × (k : ℕ) × (n ≡ pos (suc k))
has-value (pos zero) text value f h v e = absurd (head-apart [] text (digit_letter 0) zero-low h (sym (digits-one 10 ten 0 (omega arith)) ∙ e))
has-value (pos (suc k)) text value f h v e =
    let same : suc k ≡ value_after 10 0 text = sym (value-digits 10 ten (suc k)) ∙ ap (value_after 10 0) e in
    let small : suc k < 2 ^ 63 = f.sfits in
    (omega arith, k, refl)
has-value (negsuc k) text value f h v e = absurd (head-apart (decimal (suc k)) text 45 (omega arith) h e)

above-zero : (k : ℕ) → le_z (pos (suc k)) (pos 0) ≡ true → ⊥
above-zero k h = grind (arith, ints, nat_tests)

pub not-above : (n : ℤ) (k : ℕ) → n ≡ pos (suc k) → le_z n (pos 0) ≡ true → ⊥
not-above n k e h = above-zero k (ap (λ (z : ℤ). le_z z (pos 0)) (sym e) ∙ h)

below-zero : (k : ℕ) → le_z (negsuc k) (pos 0) ≡ false → ⊥
below-zero k h = grind (arith, ints, nat_tests)

pub from-positive : (n : ℤ) → le_z n (pos 0) ≡ false → (k : ℕ) × (n ≡ pos k)
from-positive (pos k) h = (k, refl)
from-positive (negsuc k) h = absurd (below-zero k h)

pub nat_abs-is : (n : ℤ) → nat_abs n ≡ magnitude n
nat_abs-is (pos k) = refl
nat_abs-is (negsuc k) = refl

pub small-is : (n : ℤ) (k : ℕ) → FitsSigned w64 n → n ≡ pos k → k < 2 ^ 63
small-is n k f e =
    let g : FitsSigned w64 (pos k) = subst (λ (z : ℤ). FitsSigned w64 z) e f in
    let h = g.sfits in
    h
