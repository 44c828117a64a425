-- The machines of the number domains, by the numbers of their points.
use Rattle.std.specs.Prelude.{ℕ, zero, suc, ◌+◌, ◌-◌, ◌*◌, ◌/◌, ◌%◌, ℤ, List, [], ◌∷◌, Option, None, Some, Bool, true, false, cond, not, ltb, leb, ◌==◌, ◌&&◌, ◌||◌}
use Rattle.lf_core.specs.Domain.{LetterMachine}
use Rattle.lf_number.specs.Numbers.{digit_of, width, magnitude, is_negative, most_digits, half_points, number_size, dash_size, whole_digits, thousandths_size, padded_digits, padded_size}

-- the number that the digits of a text write after the number so far; other letters are passed over
abbrev pub value_after : ℕ → ℕ → List ℕ → ℕ
value_after r acc [] = acc
value_after r acc (c ∷ cs) = value_after r (cond (ltb (digit_of c) r) (acc * r + digit_of c) acc) cs

-- the text begins with `-`
abbrev pub has_minus : List ℕ → Bool
has_minus [] = false
has_minus (c ∷ cs) = c == 45

-- the number without its last j digits
abbrev pub front : ℕ → ℕ → ℕ → ℕ
front r m zero = m
front r m (suc j) = front r m j / r

-- 0, 1 and 2 for less, equal and greater
abbrev pub comparison : ℕ → ℕ → ℕ
comparison p q = cond (ltb p q) 0 (cond (ltb q p) 2 1)

-- how the first k digits, whose number is p, stand to the first k digits of m; past its digits p is greater
abbrev pub side : ℕ → ℕ → ℕ → ℕ → ℕ
side r m k p = comparison p (front r m (width r m - k))

-- how a number stands to another, after one digit more of both
abbrev pub push_side : ℕ → ℕ → ℕ → ℕ
push_side how digit other = cond (how == 1) (comparison digit other) how

-- how the digits so far stand to the first digits of m, after one digit more
abbrev pub next_side : ℕ → ℕ → ℕ → ℕ → ℕ → ℕ
next_side r m k how digit =
    cond (ltb k (width r m)) (push_side how digit (front r m (width r m - (k + 1)) % r)) 2

-- how a whole number of k digits stands to m
abbrev pub whole_side : ℕ → ℕ → ℕ → ℕ → ℕ
whole_side r m k how = cond (ltb k (width r m)) 0 how

-- how the magnitude stands to those of the bounds tells whether the number is in the range
abbrev pub in_range : ℤ → ℤ → Bool → ℕ → ℕ → Bool
in_range lo hi negative to_lo to_hi =
    cond negative
    ((is_negative lo && leb to_lo 1) && (not (is_negative hi) || leb 1 to_hi))
    ((is_negative lo || leb 1 to_lo) && (not (is_negative hi) && leb to_hi 1))

-- the points of one sign: 0 before the digits, 1 after a lone zero, and after k digits nine, for the two comparisons
abbrev pub place : ℕ → ℕ → ℕ → ℕ
place k to_lo to_hi = (9 * k + 3 * to_lo + to_hi) - 7

-- the point after a first digit that is not zero, with the bounds a and b
abbrev pub free_first : ℕ → ℕ → ℕ → ℕ → ℕ
free_first r a b digit = place 1 (next_side r a 0 1 digit) (next_side r b 0 1 digit)

-- the point after a further digit, where k digits were read
abbrev pub free_more : ℕ → ℕ → ℕ → ℕ → ℕ → ℕ → ℕ → ℕ
free_more r a b k to_lo to_hi digit = place (k + 1) (next_side r a k to_lo digit) (next_side r b k to_hi digit)

-- the point after a further digit, where a number may have so many
abbrev pub free_next : ℕ → ℕ → ℕ → ℕ → ℕ → ℕ → Option ℕ
free_next r most a b at digit =
    cond (ltb ((at + 7) / 9) most)
    (Some (free_more r a b ((at + 7) / 9) ((at + 7) % 9 / 3) ((at + 7) % 3) digit))
    None

-- the places where the number of digits to come is known: nine for each such number
abbrev pub counted_place : ℕ → ℕ → ℕ → ℕ
counted_place rest to_lo to_hi = 9 * rest + 3 * to_lo + to_hi

-- the place after a further digit, where so many are to come then
abbrev pub counted_more : ℕ → ℕ → ℕ → ℕ → ℕ → ℕ → ℕ → ℕ
counted_more r a b rest to_lo to_hi digit =
    counted_place rest (push_side to_lo digit (front r a rest % r)) (push_side to_hi digit (front r b rest % r))

abbrev pub counted_next : ℕ → ℕ → ℕ → ℕ → ℕ → ℕ → Option ℕ
counted_next r a b base at digit =
    cond (at / 9 == 0) None (Some (base + counted_more r a b (at / 9 - 1) (at % 9 / 3) (at % 3) digit))

-- the first and the further digits of one sign, whose points begin at the base
abbrev pub number_first : ℤ → ℤ → ℕ → Bool → ℕ → Option ℕ
number_first lo hi base negative digit =
    cond (digit == 0)
    (cond negative None (Some 1))
    (Some (base + free_first 10 (magnitude lo) (magnitude hi) digit))

abbrev pub shifted : ℕ → Option ℕ → Option ℕ
shifted base None = None
shifted base (Some at) = Some (base + at)

-- the digit after a point of one sign, whose points begin at the base
abbrev pub number_digit : ℤ → ℤ → ℕ → Bool → ℕ → ℕ → Option ℕ
number_digit lo hi base negative at digit =
    cond (at == 0)
    (number_first lo hi base negative digit)
    (cond (at == 1) None (shifted base (free_next 10 (most_digits lo hi) (magnitude lo) (magnitude hi) at digit)))

abbrev pub number_next : ℤ → ℤ → ℕ → ℕ → Option ℕ
number_next lo hi point letter =
    cond (ltb (digit_of letter) 10)
    (cond (ltb point (half_points lo hi))
    (number_digit lo hi 0 false point (digit_of letter))
    (number_digit lo hi (half_points lo hi) true (point - half_points lo hi) (digit_of letter)))
    (cond ((letter == 45 && point == 0) && is_negative lo) (Some (half_points lo hi)) None)

abbrev pub number_done : ℤ → ℤ → Bool → ℕ → Bool
number_done lo hi negative at =
    cond (at == 0)
    false
    (cond (at == 1)
    (in_range lo hi negative (comparison 0 (magnitude lo)) (comparison 0 (magnitude hi)))
    (in_range lo hi negative
    (whole_side 10 (magnitude lo) ((at + 7) / 9) ((at + 7) % 9 / 3))
    (whole_side 10 (magnitude hi) ((at + 7) / 9) ((at + 7) % 3))))

-- where the points of a point's sign begin
abbrev pub sign_base : ℤ → ℤ → ℕ → ℕ
sign_base lo hi point = cond (ltb point (half_points lo hi)) 0 (half_points lo hi)

abbrev pub number_ends : ℤ → ℤ → ℕ → Bool
number_ends lo hi point =
    cond (ltb point (half_points lo hi))
    (number_done lo hi false point)
    (number_done lo hi true (point - half_points lo hi))

abbrev pub number_machine : ℤ → ℤ → LetterMachine
number_machine lo hi = record {
  count = number_size lo hi;
  first = 0;
  next = number_next lo hi;
  is_end = number_ends lo hi;
}

-- `-` and `0` exchanged
abbrev pub exchanged : ℕ → ℕ
exchanged letter = cond (letter == 45) 48 (cond (letter == 48) 45 letter)

-- the same with the letter of the lone zero exchanged
abbrev pub dash_next : ℤ → ℤ → ℕ → ℕ → Option ℕ
dash_next lo hi point letter = number_next lo hi point (cond (point == 0) (exchanged letter) letter)

abbrev pub dash_machine : ℤ → ℤ → LetterMachine
dash_machine lo hi = record {
  count = dash_size lo hi;
  first = 0;
  next = dash_next lo hi;
  is_end = number_ends lo hi;
}

-- Digits first free and then counted: the free ones have the points below 9 * most + 2, and the counted ones follow.
-- The digit after a point, where a first zero leads to a point of its own.
abbrev pub mixed_digit : ℕ → ℕ → ℕ → ℕ → ℕ → ℕ → ℕ → ℕ → ℕ → Option ℕ
mixed_digit r most a b lo hi zero_point at digit =
    cond (at == 0)
    (cond (digit == 0) (Some zero_point) (Some (free_first r a b digit)))
    (cond (at == 1)
    None
    (cond (ltb at (9 * most + 2))
    (free_next r most a b at digit)
    (counted_next r lo hi (9 * most + 2) (at - (9 * most + 2)) digit)))

-- no digit is to come, and the number is in the range
abbrev pub counted_done : ℤ → ℤ → ℕ → Bool
counted_done lo hi at = cond (at / 9 == 0) (in_range lo hi false (at % 9 / 3) (at % 3)) false

-- the point after the whole part and `.`
abbrev pub thousandths_point : ℤ → ℤ → ℕ → Option ℕ
thousandths_point lo hi at =
    cond (at == 0)
    None
    (cond (at == 1)
    (Some ((9 * whole_digits hi + 2) + counted_place 3 (comparison 0 (magnitude lo / 1000)) (comparison 0 (magnitude hi / 1000))))
    (cond (ltb at (9 * whole_digits hi + 2))
    (Some ((9 * whole_digits hi + 2) + counted_place 3
    (whole_side 10 (magnitude lo / 1000) ((at + 7) / 9) ((at + 7) % 9 / 3))
    (whole_side 10 (magnitude hi / 1000) ((at + 7) / 9) ((at + 7) % 3))))
    None))

abbrev pub thousandths_next : ℤ → ℤ → ℕ → ℕ → Option ℕ
thousandths_next lo hi at letter =
    cond (ltb (digit_of letter) 10)
    (mixed_digit 10 (whole_digits hi) (magnitude lo / 1000) (magnitude hi / 1000) (magnitude lo) (magnitude hi)
    1 at (digit_of letter))
    (cond (letter == 46) (thousandths_point lo hi at) None)

abbrev pub thousandths_ends : ℤ → ℤ → ℕ → Bool
thousandths_ends lo hi at =
    cond (ltb at (9 * whole_digits hi + 2)) false (counted_done lo hi (at - (9 * whole_digits hi + 2)))

abbrev pub thousandths_machine : ℤ → ℤ → LetterMachine
thousandths_machine lo hi = record {
  count = thousandths_size hi;
  first = 0;
  next = thousandths_next lo hi;
  is_end = thousandths_ends lo hi;
}

-- the point after a first digit that is zero: the width tells how many digits are to come
abbrev pub padded_zero : ℕ → ℕ → ℤ → ℤ → ℕ
padded_zero r least lo hi =
    (9 * padded_digits r least hi + 2)
    + counted_place (least - 1)
    (comparison 0 (front r (magnitude lo) (least - 1)))
    (comparison 0 (front r (magnitude hi) (least - 1)))

abbrev pub padded_next : ℕ → ℕ → ℤ → ℤ → ℕ → ℕ → Option ℕ
padded_next r least lo hi at letter =
    cond (ltb (digit_of letter) r)
    (mixed_digit r (padded_digits r least hi) (magnitude lo) (magnitude hi) (magnitude lo) (magnitude hi)
    (padded_zero r least lo hi) at (digit_of letter))
    None

-- a number whose first digit is not zero has at least the width
abbrev pub padded_whole : ℕ → ℕ → ℤ → ℤ → ℕ → Bool
padded_whole r least lo hi at =
    cond (leb least ((at + 7) / 9))
    (in_range lo hi false
    (whole_side r (magnitude lo) ((at + 7) / 9) ((at + 7) % 9 / 3))
    (whole_side r (magnitude hi) ((at + 7) / 9) ((at + 7) % 3)))
    false

abbrev pub padded_ends : ℕ → ℕ → ℤ → ℤ → ℕ → Bool
padded_ends r least lo hi at =
    cond (at == 0)
    false
    (cond (ltb at (9 * padded_digits r least hi + 2))
    (padded_whole r least lo hi at)
    (counted_done lo hi (at - (9 * padded_digits r least hi + 2))))

abbrev pub padded_machine : ℕ → ℕ → ℤ → ℤ → LetterMachine
padded_machine r least lo hi = record {
  count = padded_size r least hi;
  first = 0;
  next = padded_next r least lo hi;
  is_end = padded_ends r least lo hi;
}
