-- Digits that are a number's text.
use Rattle.std.proofs.Common.{◌≡◌, ◌≢◌, ℕ, zero, suc, ◌<◌, ◌≤◌, true, leb, ◌&&◌, List, [], ◌∷◌, ◌++◌, length, take, get_or, refl, sym, ap, subst, ◌∙◌, arith, ◌+◌, ◌-◌, ◌*◌, ◌/◌, ◌%◌, ltb, append_assoc}
use Rattle.std.specs.Prelude.{replicate, ℤ, pos, negsuc, neg_ℤ, ◌≤ℤ◌}
use Rattle.std.proofs.lemmas.Int.{ints}
use Rattle.std.specs.List.{list_all}
use Rattle.std.proofs.lemmas.Bool.{and_parts}
use Rattle.std.proofs.lemmas.Bool.Decides.{nat_tests}
use Rattle.lf_digits.specs.Reads.{ReadsNumber}
use Rattle.lf_number.specs.Numbers.{dash_text, digits, digit_letter, decimal, last_digits, number_text, padded_text, width, is_decimal_digit, is_plain_digits}

pub zero-text : decimal 0 ≡ 48 ∷ []
unfolding digits digit_letter
zero-text = refl

pub none-left : (xs : List ℕ) → length xs ≡ 0 → xs ≡ []
none-left [] h = refl
none-left (x ∷ xs) h = absurd (omega (arith, h))

-- A lone zero is the text of zero.
pub zero-is : (text : List ℕ) (first : ℕ) (more : List ℕ) → text ≡ first ∷ more → first ≡ 48 → more ≡ [] → decimal 0 ≡ text
zero-is text first more e f m = let z = zero-text in cc

raised : (c : ℕ) → leb 48 c && leb c 57 ≡ true → c ≢ 48 → leb 49 c && leb c 57 ≡ true
raised c h other = grind (arith, nat_tests)

-- Digits of which the first isn't zero are plain.
pub plain-first : (text : List ℕ) (first : ℕ) (more : List ℕ) → text ≡ first ∷ more → list_all is_decimal_digit text ≡ true → first ≢ 48 → is_plain_digits text ≡ true
plain-first text first more e all other =
    let parts = and_parts (leb 48 first && leb first 57) (list_all is_decimal_digit more) (subst (λ (t : List ℕ). list_all is_decimal_digit t ≡ true) e all) in
    let high = raised first parts.0 other in
    subst (λ (t : List ℕ). is_plain_digits t ≡ true) (sym e) (rw high parts.1)

-- The digits at the front are digits.
pub front-digits : (n : ℕ) (text : List ℕ) → ((k : ℕ) → k < n → is_decimal_digit (get_or text k 0) ≡ true) → list_all is_decimal_digit (take n text) ≡ true
front-digits zero text h = refl
front-digits (suc n) [] h = refl
front-digits (suc n) (c ∷ text) h = rw (h 0 (omega arith)) (front-digits n text (λ k l. h (suc k) (omega (arith, l))))

low-letter : (d : ℕ) → d < 10 → digit_letter d ≡ 48 + d
unfolding digit_letter
low-letter d h = let t : ltb d 10 ≡ true = grind (arith, nat_tests) in rw t refl

-- Three digits are the last of their number.
pub three-last : (a b c : ℕ) (text t1 t2 left : List ℕ) → a < 10 → b < 10 → c < 10 → text ≡ (48 + a) ∷ t1 → t1 ≡ (48 + b) ∷ t2 → t2 ≡ (48 + c) ∷ left
    → text ≡ last_digits 10 3 (100 * a + 10 * b + c) ++ left
three-last a b c text t1 t2 left ha hb hc p q r =
    let first : (100 * a + 10 * b + c) / 10 / 10 % 10 ≡ a = omega (arith, ha, hb, hc) in
    let second : (100 * a + 10 * b + c) / 10 % 10 ≡ b = omega (arith, ha, hb, hc) in
    let third : (100 * a + 10 * b + c) % 10 ≡ c = omega (arith, ha, hb, hc) in
    let la = low-letter a ha in
    let lb = low-letter b hb in
    let lc = low-letter c hc in
    cc

-- The text of a number with a minus.
pub negative-text : (z : ℤ) (digits : List ℕ) → pos 1 ≤ℤ z → number_text z ≡ digits → number_text (neg_ℤ z) ≡ 45 ∷ digits
negative-text (pos zero) digits h e = absurd (omega (arith, ints, h))
negative-text (pos (suc n)) digits h e = ap (λ (t : List ℕ). 45 ∷ t) e
negative-text (negsuc n) digits h e = absurd (omega (arith, ints, h))

-- The number zero is read from a dash.
pub reads-zero : (lo hi : ℤ) (text left old new : List ℕ) → lo ≤ℤ pos 0 → pos 0 ≤ℤ hi → text ≡ 45 ∷ left → new ≡ old ++ 48 ∷ [] → ReadsNumber dash_text lo hi text left old new
reads-zero lo hi text left old new low high parts added = record { number = pos 0; between = (low, high); written = parts; added = added ∙ ap (λ (t : List ℕ). old ++ t) (sym zero-text) }

-- A negative number is read.
pub reads-negative : (z lo hi : ℤ) (text digits left old mid new : List ℕ) → pos 1 ≤ℤ z → number_text z ≡ digits → lo ≤ℤ neg_ℤ z → neg_ℤ z ≤ℤ hi → text ≡ digits ++ left → mid ≡ old ++ 45 ∷ [] → new ≡ mid ++ digits
    → ReadsNumber number_text lo hi (45 ∷ text) left old new
reads-negative z lo hi text digits left old mid new some is low high parts sign added = record {
  number = neg_ℤ z;
  between = (low, high);
  written = ap (λ (t : List ℕ). 45 ∷ t) parts ∙ ap (λ (t : List ℕ). t ++ left) (sym (negative-text z digits some is));
  added = added ∙ ap (λ (t : List ℕ). t ++ digits) sign ∙ append_assoc old (45 ∷ []) digits ∙ ap (λ (t : List ℕ). old ++ t) (sym (negative-text z digits some is));
}

-- The zeros at the front are zeros.
pub front-zeros : (n : ℕ) (text : List ℕ) → n ≤ length text → ((k : ℕ) → k < n → get_or text k 0 ≡ 48) → take n text ≡ replicate n 48
front-zeros zero text le h = refl
front-zeros (suc n) [] le h = absurd (omega (arith, le))
front-zeros (suc n) (c ∷ text) le h =
    let first : c ≡ 48 = h 0 (omega arith) in
    let rest : take n text ≡ replicate n 48 = front-zeros n text (omega (arith, le)) (λ k l. h (suc k) (omega (arith, l))) in
    cc

-- A number with leading zeros up to the width is read.
pub reads-padded : (least lead : ℕ) (n lo hi : ℤ) (text ds more left old new : List ℕ) → pos 0 ≤ℤ n → number_text n ≡ ds → lead ≡ least - length ds → lo ≤ℤ n → n ≤ℤ hi
    → text ≡ replicate lead 48 ++ more → more ≡ ds ++ left → new ≡ old ++ ds → ReadsNumber (padded_text 10 least) lo hi text left old new
unfolding width
reads-padded least lead (pos n) lo hi text ds more left old new some is enough low high front parts added =
    let many : least - length (decimal n) ≡ lead = ap (λ (xs : List ℕ). least - length xs) is ∙ sym enough in
    let whole : padded_text 10 least (pos n) ≡ replicate lead 48 ++ ds = ap (λ (k : ℕ). replicate k 48 ++ decimal n) many ∙ ap (λ (xs : List ℕ). replicate lead 48 ++ xs) is in
    record {
      number = pos n;
      between = (low, high);
      written = front ∙ ap (λ (xs : List ℕ). replicate lead 48 ++ xs) parts ∙ sym (append_assoc (replicate lead 48) ds left) ∙ ap (λ (xs : List ℕ). xs ++ left) (sym whole);
      added = added ∙ ap (λ (xs : List ℕ). old ++ xs) (sym is);
    }
reads-padded least lead (negsuc n) lo hi text ds more left old new some is enough low high front parts added = absurd (omega (arith, ints, some))
