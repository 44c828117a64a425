-- The class of the bytes that pass a test.
use Rattle.std.specs.Prelude.{ℕ, zero, suc, ◌+◌, ◌*◌, Bool, cond, ◌&&◌}
use Rattle.lf_core.specs.Class.{is_member}
use Rattle.lf_core.specs.declared.class.Class.{Class}

-- the number whose bits, from the lowest on, are the test's answers from `first` on
unfoldable pub bits_of : (ℕ → Bool) → ℕ → ℕ → ℕ
bits_of test first zero = 0
bits_of test first (suc n) = cond (test first) 1 0 + 2 * bits_of test (first + 1) n

-- the bytes that pass the test
abbrev pub class_of : (ℕ → Bool) → Class
class_of test = record { low = bits_of test 0 128; high = bits_of test 128 128 }

-- the members that pass the test
abbrev pub passing : (ℕ → Bool) → Class → Class
passing test set = class_of (λ b. is_member set b && test b)
