-- Values of a domain of which one is printed first.
use Rattle.std.specs.Prelude.{◌≡◌, ℕ, ◌<◌, ◌⊎◌, List, [], ◌∷◌, length, ℤ, pos, negsuc, Bool, false, Contains}
use Rattle.std.specs.declared.cmp.Ordering.{Ordering}
use Rattle.std.specs.Ordering.{nat_cmp, is_gt}
use Rattle.std.specs.declared.cmp.Ordering.TheVariants.{Less}
use Rattle.std.specs.Cmp.Lexicographic.{slice_cmp}
use Rattle.lf_core.specs.declared.values.Moment.{Moment}
use Rattle.lf_core.specs.declared.values.Value.{Value}
use Rattle.lf_core.specs.declared.values.Value.TheVariants as value
use Rattle.lf_escape.specs.Codes.{coded}
use Rattle.lf_escape.specs.Codings.{coding_word}
use Rattle.lf_escape.specs.declared.coding.Coding.{Coding}
use Rattle.lf_format.specs.Kinds.{HoldsKind, plain_text}
use Rattle.lf_format.specs.Slots.{IsNotAbsence}
use Rattle.lf_format.specs.declared.kind.Kind.{Kind}
use Rattle.lf_format.specs.declared.slot.Absent.{Absent}

abbrev pub bytes_cmp : List ℕ → List ℕ → Ordering
bytes_cmp = slice_cmp nat_cmp

-- The line is less: shorter, or of equal length and less by bytes.
abbrev pub LineLt : List ℕ → List ℕ → Type 0
LineLt a b = (length a < length b) ⊎ ((length a ≡ length b) × (bytes_cmp a b ≡ Less))

-- The text's words make the lesser line, or the same and the text isn't above the other.
abbrev pub Before : (ℕ → List ℕ) → List ℕ → List ℕ → Type 0
Before word p t = LineLt (coded word p) (coded word t) ⊎ ((coded word p ≡ coded word t) × (is_gt (bytes_cmp p t) ≡ false))

-- The domain holds the value, and it isn't taken for absence.
abbrev pub IsHeld : Kind → Absent → Bool → Value → Type 0
IsHeld k absent quoted v = HoldsKind k v × IsNotAbsence absent quoted (plain_text k v)

-- Whatever is taken for absence, for each value that is held one of these is that is printed before it.
abbrev pub AreFirst : Kind → Coding → List Value → Type 0
AreFirst k code values =
    (absent : Absent) (quoted : Bool) (v : Value) → IsHeld k absent quoted v →
    (other : Value) × Contains values other × IsHeld k absent quoted other × Before (coding_word code) (plain_text k other) (plain_text k v)

-- the number nearest to zero of those from `lo` to `hi`, where there is one
abbrev pub nearest : ℤ → ℤ → ℤ
nearest (pos n) hi = pos n
nearest (negsuc n) (pos m) = pos 0
nearest (negsuc n) (negsuc m) = negsuc m

-- the number nearest to zero, and one, where zero may be taken for absence
abbrev pub number_values : ℤ → ℤ → List Value
number_values lo hi = value.Num (nearest lo hi) ∷ value.Num (pos 1) ∷ []

-- the moment of these seconds, without milliseconds and offset
abbrev pub first_moment : ℤ → Moment
first_moment seconds = record { seconds = seconds; millis = 0; offset = pos 0 }
