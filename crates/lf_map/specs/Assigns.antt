-- What a text says that is an assignment of a field map.
use Rattle.std.specs.Prelude.{ℕ, zero, suc, ◌==◌, ◌&&◌, Bool, false, cond, List, [], ◌∷◌, drop, codes, Option, None, Some}
use Rattle.std.specs.Str.{bytes_eq}
use Rattle.lf_limits.specs.Limits.{most_nesting}
use Rattle.lf_syntax.specs.Leaf.{is_within}
use Rattle.lf_syntax.specs.Cuts.{front_of, from_first}
use Rattle.lf_expression.specs.Exprs.{Expr, missing, number, text, slot, or_else, at_time, spaced, applied, Operation, utc, zoned, whole_second, date, clock, epoch, millis, part, div, mul}
use Rattle.lf_map.specs.declared.strings.Stage.TheVariants.{Fresh}
use Rattle.lf_map.specs.Letters.{number_of, after_digits, int_of, divisor_of, offset_of, letters_of, after_string}

-- an expression that a text begins with, and what follows it
pub record Read : Type 0 where
  pub expr : Expr
  pub rest : List ℕ

abbrev pub starts_digit : List ℕ → Bool
starts_digit [] = false
starts_digit (d ∷ w) = is_within 48 57 d

-- what no call is: a string, a number, `-`, a slot
abbrev pub plain_read : List ℕ → Option Read
plain_read [] = None
plain_read (b ∷ w) =
    cond (b == 34) (Some (record { expr = text (letters_of Fresh w); rest = after_string Fresh w }))
    (cond (starts_digit (b ∷ w)) (Some (record { expr = number (int_of (b ∷ w)); rest = after_digits (b ∷ w) }))
    (cond (b == 45) (Some (cond (starts_digit w) (record { expr = number (int_of (b ∷ w)); rest = after_digits w }) (record { expr = missing; rest = w })))
    (cond (b == 115 && starts_digit w) (Some (record { expr = slot (number_of 999 w); rest = after_digits w })) None)))

-- the call of the name on one argument, with what stands after the comma that follows it
abbrev pub operation_by : List ℕ → List ℕ → Operation
operation_by name second =
    cond (bytes_eq name (codes "utc")) utc
    (cond (bytes_eq name (codes "zoned")) (zoned (offset_of second))
    (cond (bytes_eq name (codes "sec")) whole_second
    (cond (bytes_eq name (codes "date")) date
    (cond (bytes_eq name (codes "clock")) clock
    (cond (bytes_eq name (codes "epoch")) epoch
    (cond (bytes_eq name (codes "msec")) millis
    (cond (bytes_eq name (codes "part")) (part (number_of 9 second))
    (cond (bytes_eq name (codes "div")) (div (divisor_of second)) (mul (int_of second))))))))))

-- what follows the call's closing parenthesis
abbrev pub after_call : List ℕ → List ℕ
after_call rest = drop 1 (from_first 41 rest)

-- the argument after the comma that follows another
abbrev pub read_next : (List ℕ → Read) → Read → Read
read_next read before = read (drop 1 before.rest)

-- a call of two arguments, of three texts, and of the name on one argument
abbrev pub paired : (Expr → Expr → Expr) → Read → Read → Read
paired join first second = record { expr = join first.expr second.expr; rest = after_call second.rest }

abbrev pub line_call : Read → Read → Read → Read
line_call first second third = record { expr = spaced (spaced first.expr second.expr) third.expr; rest = after_call third.rest }

abbrev pub one_call : List ℕ → Read → Read
one_call name first = record { expr = applied (operation_by name (drop 1 first.rest)) first.expr; rest = after_call first.rest }

-- a call of the name, whose first argument has been read, and whose others are read so
abbrev pub call_by : (List ℕ → Read) → List ℕ → Read → Read
call_by read name first =
    cond (bytes_eq name (codes "or")) (paired or_else first (read_next read first))
    (cond (bytes_eq name (codes "at")) (paired at_time first (read_next read first))
    (cond (bytes_eq name (codes "line")) (line_call first (read_next read first) (read_next read (read_next read first))) (one_call name first)))

-- what a text begins with that is no call, or else what is read of a call
abbrev pub plain_or : Option Read → Read → Read
plain_or None call = call
plain_or (Some read) call = read

-- the expression that a text begins with, with at most so many calls in one another
abbrev pub expr_read : ℕ → List ℕ → Read
expr_read zero w = plain_or (plain_read w) (record { expr = missing; rest = w })
expr_read (suc depth) w = plain_or (plain_read w) (call_by (expr_read depth) (front_of 40 w) (expr_read depth (drop 1 (from_first 40 w))))

-- the slot of the target, and after the equals sign the expression
abbrev pub target_of : List ℕ → ℕ
target_of assign = number_of 999 (drop 1 assign)

abbrev pub expr_of : List ℕ → Expr
expr_of assign = (expr_read most_nesting (drop 1 (from_first 61 assign))).expr
