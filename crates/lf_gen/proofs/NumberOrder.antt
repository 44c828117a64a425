-- The texts of numbers stand in the order of lines as the numbers do.
use Rattle.std.proofs.Common.{◌≡◌, ℕ, zero, suc, ◌+◌, ◌-◌, ◌*◌, ◌/◌, ◌%◌, ◌<◌, ◌≤◌, inl, inr, List, [], ◌∷◌, ◌++◌, length, Ordering, Equal, refl, sym, ap, subst, ◌∙◌, arith, length-append, append_assoc}
use Rattle.std.specs.Prelude.{ℤ, pos, negsuc, replicate}
use Rattle.std.specs.Ordering.{ordering_then}
use Rattle.std.proofs.lemmas.Bool.{cases_lt}
use Rattle.std.proofs.lemmas.Bool.Decides.{nat_tests}
use Rattle.std.proofs.lemmas.Nat.{div-add-mod', le-div}
use Rattle.std.proofs.Math.Dec.{eqb-suc-zero}
use Rattle.std.proofs.lemmas.List.{length-replicate}
use Rattle.lf_core.specs.Choices.{below}
use Rattle.lf_number.specs.Numbers.{IsRadix, digit_letter, digits, width, number_text, dash_text, thousandths_text, padded_text}
use Rattle.lf_number.specs.Digits.{ten, digits-one, digits-more, quotient-less, quotient-rises, width-least, width-rises, letter-positive}
use Rattle.lf_gen.specs.First.{bytes_cmp, LineLt}
use Rattle.lf_gen.proofs.Orders.{bytes-append, bytes-same, LineUpTo, nat-less, lt-tail, after-front, up_to-append}

letter-less : (d e : ℕ) → d < e → digit_letter d < digit_letter e
unfolding digit_letter
letter-less d e h = grind (arith, nat_tests)

one-less : (c d : ℕ) → c < d → LineLt (c ∷ []) (d ∷ [])
one-less c d h = inr (refl, ap (λ (o : Ordering). ordering_then o Equal) (nat-less c d h))

module _ (r : ℕ) (is : IsRadix r) where
  length-least : (n : ℕ) → 1 ≤ length (digits r n)
  unfolding width
  length-least n = width-least r is n

  one-shorter : (a b : ℕ) → a < r → r ≤ b → length (digits r a) < length (digits r b)
  one-shorter a b h g =
      let one = ap length (digits-one r is a h) in
      let more = ap length (digits-more r is b g) in
      omega (arith, one, more, length-append (digits r (b / r)) (digit_letter (b % r) ∷ []), length-least (b / r))

  last-less : (a b : ℕ) → a < b → a / r ≡ b / r → LineLt (digits r (a / r) ++ digit_letter (a % r) ∷ []) (digits r (b / r) ++ digit_letter (b % r) ∷ [])
  last-less a b h e =
      let less : a % r < b % r =
      (let f : a / r * r ≡ b / r * r = ap (λ (q : ℕ). q * r) e in
      omega (arith, h, f, div-add-mod' a r, div-add-mod' b r)) in
      subst (λ (q : ℕ). LineLt (digits r (a / r) ++ digit_letter (a % r) ∷ []) (digits r q ++ digit_letter (b % r) ∷ [])) e
      (after-front (digits r (a / r)) (digit_letter (a % r) ∷ []) (digit_letter (b % r) ∷ []) (one-less (digit_letter (a % r)) (digit_letter (b % r)) (letter-less (a % r) (b % r) less)))

  less-within : (k a b : ℕ) → b ≤ k → a < b → LineLt (digits r a) (digits r b)
  less-within zero a b h g = absurd (omega (arith, h, g))
  less-within (suc k) a b h g = elim (below b r) [
    | inl low ↦
        rw (digits-one r is a (omega (arith, g, low.1)), digits-one r is b low.1)
        (one-less (digit_letter a) (digit_letter b) (letter-less a b g))
    | inr high ↦ elim (below a r) [
      | inl low ↦ inl (one-shorter a b low.1 high.1)
      | inr also ↦
          rw (digits-more r is a also.1, digits-more r is b high.1)
          (elim (cases_lt (a / r) (b / r)) [
            | inl less ↦ lt-tail (digits r (a / r)) (digits r (b / r)) (digit_letter (a % r) ∷ []) (digit_letter (b % r) ∷ []) (less-within k (a / r) (b / r) (quotient-less r is k b h) less) refl
            | inr more ↦
                let rises = quotient-rises r is a b (omega (arith, g)) in
                let same : a / r ≡ b / r = omega (arith, more, rises) in
                last-less a b g same
          ])
    ]
  ]

  pub digits-less : (a b : ℕ) → a < b → LineLt (digits r a) (digits r b)
  digits-less a b h = less-within b a b (omega arith) h

  -- what is written for equal numbers is the same
  pub digits-up_to : (a b : ℕ) → a ≤ b → LineUpTo (digits r a) (digits r b)
  digits-up_to a b h = elim (cases_lt a b) [
    | inl less ↦ inl (digits-less a b less)
    | inr more ↦ (let same : a ≡ b = omega (arith, h, more) in inr (ap (digits r) same))
  ]

  -- the lesser of two numbers is a digit that is lower
  last-up_to : (a b : ℕ) → a % r ≤ b % r → LineUpTo (digit_letter (a % r) ∷ []) (digit_letter (b % r) ∷ [])
  last-up_to a b h = elim (cases_lt (a % r) (b % r)) [
    | inl less ↦ inl (one-less (digit_letter (a % r)) (digit_letter (b % r)) (letter-less (a % r) (b % r) less))
    | inr more ↦ (let same : a % r ≡ b % r = omega (arith, h, more) in inr (ap (λ (d : ℕ). digit_letter d ∷ []) same))
  ]

-- ---- thousandths

digit-less : (c d : ℕ) (rest more : List ℕ) → length rest ≡ length more → c < d → LineLt (digit_letter c ∷ rest) (digit_letter d ∷ more)
digit-less c d rest more e h = lt-tail (digit_letter c ∷ []) (digit_letter d ∷ []) rest more (one-less (digit_letter c) (digit_letter d) (letter-less c d h)) e

digit-same : (c d : ℕ) (rest more : List ℕ) → c ≡ d → LineLt rest more → LineLt (digit_letter c ∷ rest) (digit_letter d ∷ more)
digit-same c d rest more e h = subst (λ (n : ℕ). LineLt (digit_letter c ∷ rest) (digit_letter n ∷ more)) e (after-front (digit_letter c ∷ []) rest more h)

abbrev one : ℕ → List ℕ
one n = digit_letter (n % 10) ∷ []

abbrev two : ℕ → List ℕ
two n = digit_letter (n / 10 % 10) ∷ one n

abbrev three : ℕ → List ℕ
three n = digit_letter (n / 10 / 10 % 10) ∷ two n

one-digit-less : (a b : ℕ) → a < b → a / 10 ≡ b / 10 → LineLt (one a) (one b)
one-digit-less a b h e = digit-less (a % 10) (b % 10) [] [] refl (omega (arith, h, e))

two-less : (a b : ℕ) → a < b → a / 100 ≡ b / 100 → LineLt (two a) (two b)
two-less a b h e = elim (cases_lt (a / 10 % 10) (b / 10 % 10)) [
  | inl less ↦ digit-less (a / 10 % 10) (b / 10 % 10) (one a) (one b) refl less
  | inr more ↦
      let same : a / 10 ≡ b / 10 = omega (arith, h, e, more) in
      digit-same (a / 10 % 10) (b / 10 % 10) (one a) (one b) (ap (λ (q : ℕ). q % 10) same) (one-digit-less a b h same)
]

three-less : (a b : ℕ) → a < b → a / 1000 ≡ b / 1000 → LineLt (three a) (three b)
three-less a b h e = elim (cases_lt (a / 10 / 10 % 10) (b / 10 / 10 % 10)) [
  | inl less ↦ digit-less (a / 10 / 10 % 10) (b / 10 / 10 % 10) (two a) (two b) refl less
  | inr more ↦
      let same : a / 100 ≡ b / 100 = omega (arith, h, e, more) in
      let first : a / 10 / 10 % 10 ≡ b / 10 / 10 % 10 = omega (arith, same) in
      digit-same (a / 10 / 10 % 10) (b / 10 / 10 % 10) (two a) (two b) first (two-less a b h same)
]

thousandths-less : (a b : ℕ) → a < b → LineLt (thousandths_text (pos a)) (thousandths_text (pos b))
thousandths-less a b h = elim (cases_lt (a / 1000) (b / 1000)) [
  | inl less ↦ lt-tail (digits 10 (a / 1000)) (digits 10 (b / 1000)) (46 ∷ three a) (46 ∷ three b) (digits-less 10 ten (a / 1000) (b / 1000) less) refl
  | inr more ↦
      let same : a / 1000 ≡ b / 1000 = omega (arith, h, more) in
      subst (λ (q : ℕ). LineLt (digits 10 (a / 1000) ++ 46 ∷ three a) (digits 10 q ++ 46 ∷ three b)) same
      (after-front (digits 10 (a / 1000)) (46 ∷ three a) (46 ∷ three b) (after-front (46 ∷ []) (three a) (three b) (three-less a b h same)))
]

-- ---- padded numbers

-- A text whose first letter is above the zero.
record Leads (text : List ℕ) : Type 0 where
  first : ℕ
  rest : List ℕ
  is : text ≡ first ∷ rest
  above : 48 < first

leads-more : (text more : List ℕ) → Leads text → Leads (text ++ more)
leads-more text more l = record { first = l.first; rest = l.rest ++ more; is = ap (λ (t : List ℕ). t ++ more) l.is; above = l.above }

zeros-split : (x y : ℕ) → replicate {A = ℕ} (x + suc y) 48 ≡ replicate x 48 ++ 48 ∷ replicate y 48
zeros-split zero y = let e : 0 + suc y ≡ suc y = omega arith in ap (λ (n : ℕ). replicate {A = ℕ} n 48) e
zeros-split (suc x) y =
    let e : suc x + suc y ≡ suc (x + suc y) = omega arith in
    ap (λ (n : ℕ). replicate {A = ℕ} n 48) e ∙ ap (λ (t : List ℕ). 48 ∷ t) (zeros-split x y)

module _ (r : ℕ) (is : IsRadix r) where
  leads-within : (k n : ℕ) → n ≤ k → 0 < n → Leads (digits r n)
  leads-within zero n h g = absurd (omega (arith, h, g))
  leads-within (suc k) n h g = elim (below n r) [
    | inl low ↦ rw (digits-one r is n low.1) (record { first = digit_letter n; rest = []; is = refl; above = let l = letter-positive n g in omega (arith, l) })
    | inr high ↦
        let some : 0 < n / r = le-div 1 n r (omega (arith, is.least)) (omega (arith, high.1)) in
        rw (digits-more r is n high.1) (leads-more (digits r (n / r)) (digit_letter (n % r) ∷ []) (leads-within k (n / r) (quotient-less r is k n h) some))
  ]

  padded-length : (w n : ℕ) → length (replicate (w - width r n) 48 ++ digits r n) ≡ (w - width r n) + width r n
  unfolding width
  padded-length w n = length-append (replicate (w - length (digits r n)) 48) (digits r n) ∙ ap (λ (k : ℕ). k + length (digits r n)) (length-replicate (w - length (digits r n)) 48)

  zeros-less : (w a b : ℕ) → width r a < width r b → width r b ≤ w → Leads (digits r b) → LineLt (replicate (w - width r a) 48 ++ digits r a) (replicate (w - width r b) 48 ++ digits r b)
  zeros-less w a b h g lead =
      let x = w - width r b in
      let y = width r b - width r a - 1 in
      let count : w - width r a ≡ x + suc y = omega (arith, h, g) in
      let long = padded-length w a in
      let other = padded-length w b in
      let split = zeros-split x y in
      let same : length (replicate (w - width r a) 48 ++ digits r a) ≡ length (replicate x 48 ++ digits r b) = omega (arith, long, other, h, g) in
      inr (
        same,
        ap (λ (n : ℕ). bytes_cmp (replicate n 48 ++ digits r a) (replicate x 48 ++ digits r b)) count
            ∙ ap (λ (t : List ℕ). bytes_cmp (t ++ digits r a) (replicate x 48 ++ digits r b)) split
            ∙ ap (λ (t : List ℕ). bytes_cmp t (replicate x 48 ++ digits r b)) (append_assoc (replicate x 48) (48 ∷ replicate y 48) (digits r a))
            ∙ bytes-append (replicate x 48) (replicate x 48) (48 ∷ (replicate y 48 ++ digits r a)) (digits r b) refl
            ∙ ap (λ (o : Ordering). ordering_then o (bytes_cmp (48 ∷ (replicate y 48 ++ digits r a)) (digits r b))) (bytes-same (replicate x 48))
            ∙ ap (bytes_cmp (48 ∷ (replicate y 48 ++ digits r a))) lead.is
            ∙ ap (λ (o : Ordering). ordering_then o (bytes_cmp (replicate y 48 ++ digits r a) lead.rest)) (nat-less 48 lead.first lead.above),
      )

  padded-less : (w a b : ℕ) → a < b → LineLt (replicate (w - width r a) 48 ++ digits r a) (replicate (w - width r b) 48 ++ digits r b)
  padded-less w a b h = elim (cases_lt (width r a) (width r b)) [
    | inl less ↦ elim (cases_lt w (width r b)) [
      | inl short ↦
          let long = padded-length w a in
          let other = padded-length w b in
          inl (omega (arith, long, other, less, short))
      | inr fits ↦ zeros-less w a b less fits (leads-within b b (omega arith) (omega (arith, h)))
    ]
    | inr more ↦
        let rises = width-rises r is b a (omega (arith, h)) in
        let same : width r a ≡ width r b = omega (arith, more, rises) in
        subst (λ (n : ℕ). LineLt (replicate (w - width r a) 48 ++ digits r a) (replicate (w - n) 48 ++ digits r b)) same
        (after-front (replicate (w - width r a) 48) (digits r a) (digits r b) (digits-less r is a b h))
  ]

-- ---- each text

-- The text of a lesser number of no sign is less, and so is that of the same number.
abbrev pub RisesUpTo : (ℤ → List ℕ) → Type 0
RisesUpTo f = (a b : ℕ) → a ≤ b → LineUpTo (f (pos a)) (f (pos b))

rises : (f : ℤ → List ℕ) → ((a b : ℕ) → a < b → LineLt (f (pos a)) (f (pos b))) → RisesUpTo f
rises f less a b h = elim (cases_lt a b) [
  | inl is ↦ inl (less a b is)
  | inr more ↦ (let same : a ≡ b = omega (arith, h, more) in inr (ap (λ (n : ℕ). f (pos n)) same))
]

pub number-rises : RisesUpTo number_text
number-rises = rises number_text (digits-less 10 ten)

pub thousandths-rises : RisesUpTo thousandths_text
thousandths-rises = rises thousandths_text thousandths-less

pub padded-rises : (r : ℕ) → IsRadix r → (w : ℕ) → RisesUpTo (padded_text r w)
padded-rises r is w = rises (padded_text r w) (padded-less r is w)

dash-cons : (c : ℕ) (rest : List ℕ) → 45 < c → LineLt (45 ∷ []) (c ∷ rest)
dash-cons c [] h = one-less 45 c h
dash-cons c (d ∷ rest) h = inl (omega arith)

dash-before : (text : List ℕ) → Leads text → LineLt (45 ∷ []) text
dash-before text l = subst (LineLt (45 ∷ [])) (sym l.is) (dash-cons l.first l.rest (omega (arith, l.above)))

-- the dash before any digits of a number that isn't zero
dash-first : (n : ℕ) → 0 < n → LineLt (45 ∷ []) (digits 10 n)
dash-first n h = dash-before (digits 10 n) (leads-within 10 ten n n (omega arith) h)

dash-less : (a b : ℕ) → a < b → LineLt (dash_text (pos a)) (dash_text (pos b))
dash-less zero zero h = absurd (omega (arith, h))
dash-less zero (suc b) h = rw (eqb-suc-zero b) (dash-first (suc b) (omega arith))
dash-less (suc a) zero h = absurd (omega (arith, h))
dash-less (suc a) (suc b) h = rw (eqb-suc-zero a, eqb-suc-zero b) (digits-less 10 ten (suc a) (suc b) h)

pub dash-rises : RisesUpTo dash_text
dash-rises = rises dash_text dash-less

-- Of two negative numbers that nearer to zero is printed first, and zero before any of them.
pub negatives-rise : (a b : ℕ) → a ≤ b → LineUpTo (number_text (negsuc a)) (number_text (negsuc b))
negatives-rise a b h = up_to-append (45 ∷ []) (45 ∷ []) (digits 10 (suc a)) (digits 10 (suc b)) (inr refl) (digits-up_to 10 ten (suc a) (suc b) (omega (arith, h)))

pub zero-negative : (n : ℕ) → LineUpTo (number_text (pos 0)) (number_text (negsuc n))
zero-negative n = let some = length-least 10 ten (suc n) in let zero = ap length (digits-one 10 ten 0 (omega arith)) in inl (inl (omega (arith, some, zero)))
