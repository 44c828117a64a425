-- Letters that stand for themselves under each code: those of numbers, and nearly all of times.
use Rattle.std.proofs.Common.{◌≡◌, ℕ, zero, suc, ◌-◌, ◌/◌, ◌%◌, ◌<◌, ◌≤◌, inl, inr, List, [], ◌∷◌, ◌++◌, Bool, true, false, cond, ◌==◌, ◌||◌, not, refl, sym, ap, subst, ◌∙◌, arith, All}
use Rattle.std.specs.Prelude.{ℤ, pos, negsuc, replicate}
use Rattle.std.specs.Str.{bytes_eq}
use Rattle.std.proofs.lemmas.Bool.{and_parts, cases_eq}
use Rattle.std.proofs.lemmas.Bool.Decides.{nat_tests}
use Rattle.std.proofs.lemmas.Slice.Eq.{bytes_eq-Decides}
use Rattle.std.proofs.lemmas.List.Elements.{All-nil, All-cons, All-head, All-tail, All-append, All-replicate}
use Rattle.lf_core.specs.Choices.{below}
use Rattle.lf_core.specs.Classes.{is_alphabetic, is_digit}
use Rattle.lf_number.specs.Numbers.{IsRadix, digit_letter, digits, width, last_digits, magnitude, number_text, dash_text, thousandths_text, padded_text}
use Rattle.lf_number.specs.Digits.{ten, rest-below, quotient-less, digits-one, digits-more}
use Rattle.lf_escape.specs.Codes.{coded}
use Rattle.lf_escape.specs.Codings.{coding_word}
use Rattle.lf_escape.specs.declared.coding.Coding.{Coding}
use Rattle.lf_escape.specs.declared.coding.Coding.TheVariants.{Raw, ApacheHex, NginxHex, NginxJson, HaHash, HaCapture, HaEscape, PlusSpace, Doubled}
use Rattle.lf_format.specs.KeptSlots.{all_below, all_bytes}
use Rattle.lf_gen.specs.First.{LineLt, Before}
use Rattle.lf_gen.proofs.Orders.{LineUpTo}
use Rattle.lf_gen.proofs.Before.{before-same}

-- a letter or digit, `+`, `-`, `.`, `/`, `:` or `[`
abbrev pub is_own : ℕ → Bool
is_own c = is_digit c || is_alphabetic c || (c == 43) || (c == 45) || (c == 46) || (c == 47) || (c == 58) || (c == 91)

abbrev pub IsOwn : ℕ → Type 0
IsOwn c = is_own c ≡ true

abbrev pub AllOwn : List ℕ → Type 0
AllOwn t = All IsOwn t

abbrev stands : Coding → ℕ → Bool
stands code c = not (is_own c) || bytes_eq (coding_word code c) (c ∷ [])

tested : (code : Coding) → all_bytes (stands code) ≡ true
unfolding all_bytes
tested Raw = refl
tested ApacheHex = refl
tested NginxHex = refl
tested NginxJson = refl
tested HaHash = refl
tested HaCapture = refl
tested HaEscape = refl
tested PlusSpace = refl
tested Doubled = refl

pub below-passes : (test : ℕ → Bool) (n b : ℕ) → b < n → all_below test n ≡ true → test b ≡ true
below-passes test zero b less h = absurd (omega (arith, less))
below-passes test (suc n) b less h =
    let parts = and_parts (test n) (all_below test n) h in
    elim (cases_eq b n) [
      | inl same ↦ subst (λ (k : ℕ). test k ≡ true) (sym same) parts.0
      | inr other ↦ below-passes test n b (omega (arith, less, other)) parts.1
    ]

byte-passes : (test : ℕ → Bool) (b : ℕ) → b < 256 → all_bytes test ≡ true → test b ≡ true
unfolding all_bytes
byte-passes test b less h = below-passes test 256 b less h

own-small : (c : ℕ) → IsOwn c → c < 256
own-small c h = grind (arith, nat_tests, h)

pub own-word : (code : Coding) (c : ℕ) → IsOwn c → coding_word code c ≡ c ∷ []
own-word code c h =
    let either = byte-passes (stands code) c (own-small c h) (tested code) in
    let same : bytes_eq (coding_word code c) (c ∷ []) ≡ true = subst (λ (b : Bool). (not b || bytes_eq (coding_word code c) (c ∷ [])) ≡ true) h either in
    (bytes_eq-Decides (coding_word code c) (c ∷ [])).0 same

pub own-coded : (code : Coding) (t : List ℕ) → AllOwn t → coded (coding_word code) t ≡ t
own-coded code [] h = refl
own-coded code (c ∷ t) h =
    ap (λ (w : List ℕ). w ++ coded (coding_word code) t) (own-word code c (All-head IsOwn c t h))
    ∙ ap (λ (x : List ℕ). c ∷ x) (own-coded code t (All-tail IsOwn c t h))

-- Of texts that stand for themselves the lesser line is printed before.
pub own-before : (code : Coding) (p t : List ℕ) → AllOwn p → AllOwn t → LineUpTo p t → Before (coding_word code) p t
own-before code p t a b (inl less) =
    inl (subst (λ (x : List ℕ). LineLt x (coded (coding_word code) t)) (sym (own-coded code p a))
    (subst (λ (y : List ℕ). LineLt p y) (sym (own-coded code t b)) less))
own-before code p t a b (inr same) = subst (λ (x : List ℕ). Before (coding_word code) p x) same (before-same (coding_word code) p)

-- ---- numbers

digit-own : (d : ℕ) → d < 16 → IsOwn (digit_letter d)
unfolding digit_letter
digit-own d h = grind (arith, nat_tests, h)

one-own : (c : ℕ) → IsOwn c → AllOwn (c ∷ [])
one-own c h = All-cons IsOwn c [] h (All-nil IsOwn)

module _ (r : ℕ) (is : IsRadix r) where
  rest-own : (n : ℕ) → AllOwn (digit_letter (n % r) ∷ [])
  rest-own n = one-own (digit_letter (n % r)) (digit-own (n % r) (omega (arith, rest-below r is n, is.most)))

  own-within : (k n : ℕ) → n ≤ k → AllOwn (digits r n)
  own-within zero n h = rw (digits-one r is n (omega (arith, h, is.least))) (one-own (digit_letter n) (digit-own n (omega (arith, h))))
  own-within (suc k) n h = elim (below n r) [
    | inl t ↦ rw (digits-one r is n t.1) (one-own (digit_letter n) (digit-own n (omega (arith, t.1, is.most))))
    | inr t ↦
        rw (digits-more r is n t.1)
        (All-append IsOwn (digits r (n / r)) (digit_letter (n % r) ∷ []) (own-within k (n / r) (quotient-less r is k n h)) (rest-own n))
  ]

  pub digits-own : (n : ℕ) → AllOwn (digits r n)
  digits-own n = own-within n n (omega arith)

  last-own : (j n : ℕ) → AllOwn (last_digits r j n)
  last-own zero n = All-nil IsOwn
  last-own (suc j) n = All-append IsOwn (last_digits r j (n / r)) (digit_letter (n % r) ∷ []) (last-own j (n / r)) (rest-own n)

  pub padded-own : (least : ℕ) (n : ℤ) → AllOwn (padded_text r least n)
  padded-own least n =
      All-append IsOwn (replicate (least - width r (magnitude n)) 48) (digits r (magnitude n))
      (All-replicate IsOwn (least - width r (magnitude n)) 48 refl) (digits-own (magnitude n))

pub number-own : (n : ℤ) → AllOwn (number_text n)
number-own (pos n) = digits-own 10 ten n
number-own (negsuc n) = All-cons IsOwn 45 (digits 10 (suc n)) refl (digits-own 10 ten (suc n))

pub dash-own : (n : ℤ) → AllOwn (dash_text n)
dash-own n = elim (magnitude n == 0) as (λ v. AllOwn (cond v (45 ∷ []) (number_text n))) [ true ↦ one-own 45 refl | false ↦ number-own n ]

pub thousandths-own : (n : ℤ) → AllOwn (thousandths_text n)
thousandths-own n =
    All-append IsOwn (digits 10 (magnitude n / 1000)) (46 ∷ last_digits 10 3 (magnitude n)) (digits-own 10 ten (magnitude n / 1000))
    (All-cons IsOwn 46 (last_digits 10 3 (magnitude n)) refl (last-own 10 ten 3 (magnitude n)))
