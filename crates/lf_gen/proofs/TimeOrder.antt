-- The texts of times: the first of each field, and of fields one after another.
use Rattle.std.proofs.Common.{◌≡◌, ℕ, ◌+◌, ◌-◌, ◌/◌, ◌%◌, ◌<◌, ◌≤◌, ◌⊎◌, inl, inr, List, [], ◌∷◌, ◌++◌, length, Bool, true, ◌==◌, ◌&&◌, ◌||◌, not, Ordering, Less, Equal, Greater, refl, sym, ap, subst, ◌∙◌, arith}
use Rattle.std.specs.Prelude.{ℤ, pos, negsuc, unsigned_abs}
use Rattle.std.specs.Ordering.{is_gt, is_lt}
use Rattle.std.specs.List.{list_all}
use Rattle.std.proofs.lemmas.Bool.{and_parts, or_cases, cases_eq, eqb-true}
use Rattle.std.proofs.lemmas.Bool.Decides.{nat_tests}
use Rattle.lf_layout.specs.Texts.{two, three, four, month_letter, month_name, clock_text, sign_letter, letter_if, offset_text, iso_date_text, named_date_text}
use Rattle.lf_layout.specs.Calendar.{IsDate, month_length}
use Rattle.lf_layout.specs.declared.calendar.CivilDate.{CivilDate}
use Rattle.lf_escape.specs.Codes.{coded}
use Rattle.lf_escape.specs.Codings.{coding_word}
use Rattle.lf_escape.specs.declared.coding.Coding.{Coding}
use Rattle.lf_format.proofs.Adding.{coded-append}
use Rattle.lf_format.specs.TakenLaws.{all_from}
use Rattle.lf_format.specs.KeptSlots.{all_below}
use Rattle.lf_gen.specs.First.{bytes_cmp, LineLt, Before}
use Rattle.lf_gen.proofs.Orders.{LineUpTo, lt-up_to, lt-tail, after-front}
use Rattle.lf_gen.proofs.Cases.{bytes-equal}
use Rattle.lf_gen.proofs.Before.{before-same}
use Rattle.lf_gen.proofs.Own.{is_own, AllOwn, own-coded, below-passes}

module _ (code : Coding) where
  -- The text is printed before the other, or it is the same.
  abbrev pub Upto : List ℕ → List ℕ → Type 0
  Upto p t = LineLt (coded (coding_word code) p) (coded (coding_word code) t) ⊎ (p ≡ t)

  upto-line : (p t : List ℕ) → Upto p t → LineUpTo (coded (coding_word code) p) (coded (coding_word code) t)
  upto-line p t (inl less) = inl less
  upto-line p t (inr same) = inr (ap (coded (coding_word code)) same)

  pub upto-before : (p t : List ℕ) → Upto p t → Before (coding_word code) p t
  upto-before p t (inl less) = inl less
  upto-before p t (inr same) = subst (λ (x : List ℕ). Before (coding_word code) p x) same (before-same (coding_word code) p)

  pub upto-own : (p t : List ℕ) → AllOwn p → AllOwn t → LineUpTo p t → Upto p t
  upto-own p t a b (inl less) =
      inl (subst (λ (x : List ℕ). LineLt x (coded (coding_word code) t)) (sym (own-coded code p a))
      (subst (λ (y : List ℕ). LineLt p y) (sym (own-coded code t b)) less))
  upto-own p t a b (inr same) = inr same

  pub upto-append : (a b c d : List ℕ) → Upto a b → Upto c d → Upto (a ++ c) (b ++ d)
  upto-append a b c d (inl less) h =
      let word = coding_word code in
      inl (subst (λ (x : List ℕ). LineLt x (coded word (b ++ d))) (sym (coded-append word a c))
      (subst (λ (y : List ℕ). LineLt (coded word a ++ coded word c) y) (sym (coded-append word b d))
      (lt-up_to (coded word a) (coded word b) (coded word c) (coded word d) less (upto-line c d h))))
  upto-append a b c d (inr same) (inl less) =
      let word = coding_word code in
      subst (λ (x : List ℕ). Upto (a ++ c) (x ++ d)) same
      (inl (subst (λ (x : List ℕ). LineLt x (coded word (a ++ d))) (sym (coded-append word a c))
      (subst (λ (y : List ℕ). LineLt (coded word a ++ coded word c) y) (sym (coded-append word a d))
      (after-front (coded word a) (coded word c) (coded word d) less))))
  upto-append a b c d (inr same) (inr also) = inr (ap (λ (x : List ℕ). x ++ c) same ∙ ap (λ (x : List ℕ). b ++ x) also)

  pub upto-cons : (c : ℕ) (p t : List ℕ) → Upto p t → Upto (c ∷ p) (c ∷ t)
  upto-cons c p t h = upto-append (c ∷ []) (c ∷ []) p t (inr refl) h

month-most : (y m : ℕ) → month_length y m ≤ 31
month-most y m = grind (arith, nat_tests)

day-small : (date : CivilDate) → IsDate date → date.day < 100
day-small date is = let most = is.day_most in let length = month-most date.year date.month in omega (arith, most, length)

-- ---- fields of digits

-- whether a text isn't above another of its length
abbrev is_low : List ℕ → List ℕ → Bool
is_low p t = not (is_gt (bytes_cmp p t)) && list_all is_own t

by_order : (p t : List ℕ) (o : Ordering) → length p ≡ length t → bytes_cmp p t ≡ o → not (is_gt o) ≡ true → LineUpTo p t
by_order p t Less e is h = inl (inr (e, is))
by_order p t Equal e is h = inr (bytes-equal p t is)
by_order p t Greater e is h = absurd (cc)

low-up_to : (p t : List ℕ) → length p ≡ length t → is_low p t ≡ true → LineUpTo p t × AllOwn t
low-up_to p t e h =
    let parts = and_parts (not (is_gt (bytes_cmp p t))) (list_all is_own t) h in
    (by_order p t (bytes_cmp p t) e refl parts.0, all_from is_own t parts.1)

two-all : all_below (λ n. is_low (two 0) (two n)) 100 ≡ true
two-all = refl

two-some : all_below (λ n. (n == 0) || is_low (two 1) (two n)) 100 ≡ true
two-some = refl

two-strict : all_below (λ n. (n == 0) || is_lt (bytes_cmp (two 0) (two n))) 100 ≡ true
two-strict = refl

unless-zero : (n : ℕ) (b : Bool) → 1 ≤ n → ((n == 0) || b) ≡ true → b ≡ true
unless-zero n b h e = elim (or_cases (n == 0) b e) [
  | inl nought ↦ absurd (let z = eqb-true n 0 nought in omega (arith, h, z))
  | inr is ↦ is
]

zero-own : AllOwn (two 0)
zero-own = all_from is_own (two 0) refl

one-own : AllOwn (two 1)
one-own = all_from is_own (two 1) refl

is-less : (o : Ordering) → is_lt o ≡ true → o ≡ Less
is-less Less h = refl
is-less Equal h = absurd (cc)
is-less Greater h = absurd (cc)

module _ (code : Coding) where
  pub two-upto : (n : ℕ) → n < 100 → Upto code (two 0) (two n)
  two-upto n h =
      let low = low-up_to (two 0) (two n) refl (below-passes (λ k. is_low (two 0) (two k)) 100 n h two-all) in
      upto-own code (two 0) (two n) zero-own low.1 low.0

  pub one-upto : (n : ℕ) → 1 ≤ n → n < 100 → Upto code (two 1) (two n)
  one-upto n some h =
      let is = unless-zero n (is_low (two 1) (two n)) some (below-passes (λ k. (k == 0) || is_low (two 1) (two k)) 100 n h two-some) in
      let low = low-up_to (two 1) (two n) refl is in
      upto-own code (two 1) (two n) one-own low.1 low.0

  two-own : (n : ℕ) → n < 100 → AllOwn (two n)
  two-own n h = (low-up_to (two 0) (two n) refl (below-passes (λ k. is_low (two 0) (two k)) 100 n h two-all)).1

  two-less : (n : ℕ) → 1 ≤ n → n < 100 → LineLt (coded (coding_word code) (two 0)) (coded (coding_word code) (two n))
  two-less n some h =
      let is = unless-zero n (is_lt (bytes_cmp (two 0) (two n))) some (below-passes (λ k. (k == 0) || is_lt (bytes_cmp (two 0) (two k))) 100 n h two-strict) in
      let low = low-up_to (two 0) (two n) refl (below-passes (λ k. is_low (two 0) (two k)) 100 n h two-all) in
      subst (λ (x : List ℕ). LineLt x (coded (coding_word code) (two n))) (sym (own-coded code (two 0) zero-own))
      (subst (λ (y : List ℕ). LineLt (two 0) y) (sym (own-coded code (two n) low.1)) (inr (refl, is-less (bytes_cmp (two 0) (two n)) is)))

  -- the year 0001 is the first
  pub year-upto : (y : ℕ) → 1 ≤ y → y ≤ 9999 → Upto code (four 1) (four y)
  year-upto y some h = elim (cases_eq (y / 100) 0) [
    | inl none ↦
        let rest : 1 ≤ y % 100 = omega (arith, some, none) in
        upto-append code (two 0) (two (y / 100)) (two 1) (two (y % 100)) (inr (ap two (sym none))) (one-upto (y % 100) rest (omega arith))
    | inr other ↦
        let word = coding_word code in
        let less = two-less (y / 100) (omega (arith, other)) (omega (arith, h)) in
        let long = ap length (own-coded code (two 1) one-own) ∙ sym (ap length (own-coded code (two (y % 100)) (two-own (y % 100) (omega arith)))) in
        inl (subst (λ (t : List ℕ). LineLt (coded word (four 1)) t) (sym (coded-append word (two (y / 100)) (two (y % 100))))
        (subst (λ (t : List ℕ). LineLt t (coded word (two (y / 100)) ++ coded word (two (y % 100)))) (sym (coded-append word (two 0) (two 1)))
        (lt-tail (coded word (two 0)) (coded word (two (y / 100))) (coded word (two 1)) (coded word (two (y % 100))) less long)))
  ]

-- ---- months

month-all : all_below (λ n. is_low (month_name 4) (month_name (n + 1))) 12 ≡ true
unfolding month_letter
month-all = refl

april-own : AllOwn (month_name 4)
unfolding month_letter
april-own = all_from is_own (month_name 4) refl

module _ (code : Coding) where
  -- April's name is the first
  pub month-upto : (m : ℕ) → 1 ≤ m → m ≤ 12 → Upto code (month_name 4) (month_name m)
  month-upto m some most =
      let low = low-up_to (month_name 4) (month_name (m - 1 + 1)) refl (below-passes (λ n. is_low (month_name 4) (month_name (n + 1))) 12 (m - 1) (omega (arith, some, most)) month-all) in
      let same : m - 1 + 1 ≡ m = omega (arith, some) in
      subst (λ (k : ℕ). Upto code (month_name 4) (month_name k)) same (upto-own code (month_name 4) (month_name (m - 1 + 1)) april-own low.1 low.0)

  -- ---- the rest

  pub iso-upto : (date : CivilDate) → IsDate date → Upto code (iso_date_text (record { year = 1; month = 1; day = 1 })) (iso_date_text date)
  iso-upto date is =
      let month = one-upto code date.month is.some_month (omega (arith, is.month_most)) in
      let day = one-upto code date.day is.some_day (day-small date is) in
      upto-append code (four 1 ++ 45 ∷ two 1) (four date.year ++ 45 ∷ two date.month) (45 ∷ two 1) (45 ∷ two date.day)
      (upto-append code (four 1) (four date.year) (45 ∷ two 1) (45 ∷ two date.month) (year-upto code date.year is.some_year is.year_most) (upto-cons code 45 (two 1) (two date.month) month))
      (upto-cons code 45 (two 1) (two date.day) day)

  pub named-upto : (date : CivilDate) → IsDate date → Upto code (named_date_text (record { year = 1; month = 4; day = 1 })) (named_date_text date)
  named-upto date is =
      let month = month-upto date.month is.some_month is.month_most in
      let day = one-upto code date.day is.some_day (day-small date is) in
      upto-append code (two 1 ++ 47 ∷ month_name 4) (two date.day ++ 47 ∷ month_name date.month) (47 ∷ four 1) (47 ∷ four date.year)
      (upto-append code (two 1) (two date.day) (47 ∷ month_name 4) (47 ∷ month_name date.month) day (upto-cons code 47 (month_name 4) (month_name date.month) month))
      (upto-cons code 47 (four 1) (four date.year) (year-upto code date.year is.some_year is.year_most))

  pub clock-upto : (s : ℕ) → s < 86400 → Upto code (clock_text 0) (clock_text s)
  clock-upto s h =
      upto-append code (two 0 ++ 58 ∷ two 0) (two (s / 3600) ++ 58 ∷ two (s / 60 % 60)) (58 ∷ two 0) (58 ∷ two (s % 60))
      (upto-append code (two 0) (two (s / 3600)) (58 ∷ two 0) (58 ∷ two (s / 60 % 60)) (two-upto code (s / 3600) (omega (arith, h))) (upto-cons code 58 (two 0) (two (s / 60 % 60)) (two-upto code (s / 60 % 60) (omega arith))))
      (upto-cons code 58 (two 0) (two (s % 60)) (two-upto code (s % 60) (omega arith)))

  sign-upto : (z : ℤ) → Upto code (43 ∷ []) (sign_letter z ∷ [])
  sign-upto (pos n) = inr refl
  sign-upto (negsuc n) = upto-own code (43 ∷ []) (45 ∷ []) (all_from is_own (43 ∷ []) refl) (all_from is_own (45 ∷ []) refl) (inl (inr (refl, refl)))

  pub offset-upto : (colon : Bool) (z : ℤ) → unsigned_abs z ≤ 1439 → Upto code (offset_text colon (pos 0)) (offset_text colon z)
  offset-upto colon z most =
      let a = unsigned_abs z in
      upto-append code ((43 ∷ two 0) ++ letter_if colon 58) ((sign_letter z ∷ two (a / 60)) ++ letter_if colon 58) (two 0) (two (a % 60))
      (upto-append code (43 ∷ two 0) (sign_letter z ∷ two (a / 60)) (letter_if colon 58) (letter_if colon 58)
      (upto-append code (43 ∷ []) (sign_letter z ∷ []) (two 0) (two (a / 60)) (sign-upto z) (two-upto code (a / 60) (omega (arith, most)))) (inr refl))
      (two-upto code (a % 60) (omega arith))

-- ---- milliseconds

three-all : all_below (λ n. is_low (three 0) (three n)) 1000 ≡ true
three-all = refl

zeros-own : AllOwn (three 0)
zeros-own = all_from is_own (three 0) refl

pub millis-upto : (code : Coding) (n : ℕ) → n ≤ 999 → Upto code (three 0) (three n)
millis-upto code n h =
    let low = low-up_to (three 0) (three n) refl (below-passes (λ k. is_low (three 0) (three k)) 1000 n (omega (arith, h)) three-all) in
    upto-own code (three 0) (three n) zeros-own low.1 low.0
