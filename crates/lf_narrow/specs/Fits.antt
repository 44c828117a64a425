-- The numbers of a term are bounded.
use Rattle.std.specs.Prelude.{ℕ, ◌<◌, ◌≤◌, ◌^◌, ℤ, pos, negsuc, Option}
use Rattle.std.specs.Option.{ForSome}
use Rattle.lf_limits.specs.Limits.{most_length}
use Rattle.lf_narrow.specs.Terms.{Rule, lengths, range, Term}

abbrev pub IsUpper : Option ℕ → Type 0
IsUpper most = ForSome {T = ℕ} most (λ n. n ≤ most_length)

-- A number of 64 bits with a sign.
abbrev pub IsInt : ℤ → Type 0
IsInt (pos n) = n < 2 ^ 63
IsInt (negsuc n) = n < 2 ^ 63

abbrev pub FitsRule : Rule → Type 0
FitsRule (lengths least most) = (least ≤ most_length) × IsUpper most
FitsRule (range lo hi) = IsInt lo × IsInt hi
FitsRule rule = Unit {0}

pub record FitsTerm (term : Term) : Type 0 where
  pub slot : IsUpper term.slot
  pub rule : FitsRule term.rule
