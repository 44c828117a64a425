-- The rule that the code's rule is.
use Rattle.std.specs.Prelude.{◌≡◌, ℕ, ◌<◌}
use Rattle.lf_core.specs.Class.{is_member}
use Rattle.lf_narrow.specs.declared.rules.Rule as code
use Rattle.lf_narrow.specs.declared.rules.Rule.TheVariants.{Letters, Lengths, Range, Present}
use Rattle.lf_narrow.specs.Terms.{Rule, letters, lengths, range, present}

abbrev pub rule_said : code.Rule → Rule
rule_said (Letters set) = letters (is_member set)
rule_said (Lengths least most) = lengths least most
rule_said (Range lo hi) = range lo hi
rule_said Present = present

-- The code's rule does what the other does.
abbrev pub SaysRule : code.Rule → Rule → Type 0
SaysRule (Letters set) (letters test) = (x : ℕ) → x < 256 → is_member set x ≡ test x
SaysRule (Lengths least most) (lengths m n) = (least ≡ m) × (most ≡ n)
SaysRule (Range lo hi) (range a b) = (lo ≡ a) × (hi ≡ b)
SaysRule Present present = Unit {0}
SaysRule one other = ⊥
