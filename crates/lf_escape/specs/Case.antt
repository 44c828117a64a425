-- The case of hexadecimal digits.
use Rattle.std.specs.Prelude.{Bool, true, false}
use Rattle.lf_escape.specs.declared.escapes.Case.{Case}
use Rattle.lf_escape.specs.declared.escapes.Case.TheVariants.{Lower, Upper}

-- The digits are in upper case.
abbrev pub is_upper : Case → Bool
is_upper Lower = false
is_upper Upper = true
