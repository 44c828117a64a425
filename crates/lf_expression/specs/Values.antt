-- The value of an expression on a record.
use Rattle.std.specs.Prelude.{ℕ, zero, suc, ◌-◌, ◌&&◌, cond, ℤ, pos, neg_ℤ, ◌+ℤ◌, ◌*ℤ◌, int_le, List, ◌∷◌, ◌++◌, Option, None, Some, slice_get}
use Rattle.std.specs.Int.{int_div_euclid}
use Rattle.lf_core.specs.declared.values.Moment.{Moment as OneMoment}
use Rattle.lf_core.specs.declared.values.Value.{Value}
use Rattle.lf_core.specs.declared.values.Value.TheVariants.{Missing, Num, Text, Moment, Day, Clock}
use Rattle.lf_layout.specs.Layouts.{civil_day, second_of_day}
use Rattle.lf_time.specs.Instants.{epoch_of, utc_of}
use Rattle.lf_syntax.specs.Cuts.{cuts}
use Rattle.lf_expression.specs.Exprs.{Expr, missing, number, text, slot, or_else, at_time, spaced, applied, Operation, utc, zoned, whole_second, date, clock, epoch, millis, part, div, mul}

-- the one of the number, counted from 1
abbrev pub nth : {A : Type 0} → ℕ → List A → Option A
nth zero xs = None
nth (suc n) xs = slice_get xs n

-- the moment, if its year is 0001 to 9999
abbrev pub dated : OneMoment → Option Value
dated m = cond (int_le (neg_ℤ (pos 719162)) (civil_day m.seconds) && int_le (civil_day m.seconds) (pos 2932896)) (Some (Moment m)) None

-- the number, if it has 64 bits
abbrev pub counted : ℤ → Option Value
counted n = cond (int_le (neg_ℤ (pos 9223372036854775808)) n && int_le n (pos 9223372036854775807)) (Some (Num n)) None

abbrev pub texted : Option (List ℕ) → Option Value
texted None = None
texted (Some t) = Some (Text t)

-- What a call makes of a moment, a number and a text. It is none of what it has no meaning for.
abbrev pub of_moment : Operation → OneMoment → Option Value
of_moment utc m = dated (utc_of m)
of_moment (zoned offset) m = Some (Moment (record { seconds = m.seconds; millis = m.millis; offset = offset }))
of_moment whole_second m = Some (Moment (record { seconds = m.seconds; millis = 0; offset = m.offset }))
of_moment date m = Some (Day (civil_day m.seconds))
of_moment clock m = Some (Clock (second_of_day m.seconds))
of_moment epoch m = Some (Num (epoch_of m))
of_moment millis m = Some (Num (pos 1000 *ℤ epoch_of m +ℤ pos m.millis))
of_moment operation m = None

-- the divisor is positive, so this quotient is rounded down
abbrev pub of_number : Operation → ℤ → Option Value
of_number (div divisor) n = Some (Num (int_div_euclid n divisor))
of_number (mul factor) n = counted (n *ℤ factor)
of_number operation n = None

-- the parts of a text are cut at each space
abbrev pub of_text : Operation → List ℕ → Option Value
of_text (part k) t = texted (slice_get (cuts 32 t) (k - 1))
of_text operation t = None

-- a call of one argument: missing where it is
abbrev pub of_value : Operation → Option Value → Option Value
of_value operation None = None
of_value operation (Some Missing) = Some Missing
of_value operation (Some (Moment m)) = of_moment operation m
of_value operation (Some (Num n)) = of_number operation n
of_value operation (Some (Text t)) = of_text operation t
of_value operation (Some v) = None

-- the civil time, at the offset 0
abbrev pub moment_at : ℤ → ℕ → OneMoment
moment_at day second = record { seconds = pos 86400 *ℤ day +ℤ pos second; millis = 0; offset = pos 0 }

-- a day and a clock as a moment; missing where one is and both are defined
abbrev pub of_day : Option Value → Option Value → Option Value
of_day (Some (Day day)) (Some (Clock second)) = Some (Moment (moment_at day second))
of_day (Some (Day day)) (Some Missing) = Some Missing
of_day (Some Missing) (Some (Clock second)) = Some Missing
of_day (Some Missing) (Some Missing) = Some Missing
of_day first second = None

-- two texts with a space between them; missing where one is and both are defined
abbrev pub of_texts : Option Value → Option Value → Option Value
of_texts (Some (Text t)) (Some (Text u)) = Some (Text (t ++ 32 ∷ u))
of_texts (Some (Text t)) (Some Missing) = Some Missing
of_texts (Some Missing) (Some (Text u)) = Some Missing
of_texts (Some Missing) (Some Missing) = Some Missing
of_texts first second = None

-- the first, and where it is missing the second, which else isn't looked at
abbrev pub of_choice : Option Value → Option Value → Option Value
of_choice (Some Missing) second = second
of_choice first second = first

-- THE VALUE of an expression on a record; none where it is undefined
abbrev pub expr_value : Expr → List Value → Option Value
expr_value missing rec = Some Missing
expr_value (number n) rec = Some (Num n)
expr_value (text t) rec = Some (Text t)
expr_value (slot k) rec = nth k rec
expr_value (or_else first second) rec = of_choice (expr_value first rec) (expr_value second rec)
expr_value (at_time first second) rec = of_day (expr_value first rec) (expr_value second rec)
expr_value (spaced first second) rec = of_texts (expr_value first rec) (expr_value second rec)
expr_value (applied operation first) rec = of_value operation (expr_value first rec)
