-- Whether a slot keeps what each slot of a format keeps, as a test.
use Rattle.std.specs.Prelude.{ℕ, zero, suc, pos, int_le, nat_lt, nat_le, max, ◌==◌, ◌&&◌, ◌||◌, not, Bool, true, false, List, [], ◌∷◌, Option, None, Some}
use Rattle.std.specs.List.{list_all, list_any}
use Rattle.std.specs.Str.{bytes_eq}
use Rattle.lf_core.specs.Class.{is_letter}
use Rattle.lf_core.specs.declared.class.Class.{Class}
use Rattle.lf_escape.specs.Codings.{coding_takes}
use Rattle.lf_escape.specs.declared.coding.Coding.{Coding}
use Rattle.lf_escape.specs.declared.coding.Coding.TheVariants.{Raw}
use Rattle.lf_format.specs.declared.kind.Kind.{Kind}
use Rattle.lf_format.specs.declared.kind.Kind.TheVariants.{Num, DashZero, Fixed3, Padded, Words, Text, Query}
use Rattle.lf_format.specs.declared.slot.Slot.{Slot}
use Rattle.lf_format.specs.declared.slot.Absent.{Absent}
use Rattle.lf_format.specs.declared.slot.Absent.TheVariants.{No, Dash, DashTwo, Blank}
use Rattle.lf_format.specs.Slots.{holds_missing}

-- whether each number below the bound passes the test
abbrev pub all_below : (ℕ → Bool) → ℕ → Bool
all_below test zero = true
all_below test (suc b) = test b && all_below test b

-- whether each byte passes the test
unfoldable pub all_bytes : (ℕ → Bool) → Bool
all_bytes test = all_below test 256

-- whether some byte passes the test
abbrev pub some_byte : (ℕ → Bool) → Bool
some_byte test = not (all_bytes (λ b. not (test b)))

-- ---- the code takes each letter of the plain texts, and only texts have a code of their own

abbrev pub is_raw : Coding → Bool
is_raw Raw = true
is_raw code = false

abbrev pub takes_class : Coding → Class → Bool
takes_class code set = all_bytes (λ letter. not (is_letter set letter) || coding_takes code letter)

abbrev pub takes_kind : Coding → Kind → Bool
takes_kind code (Text d) = takes_class code d.class
takes_kind code (Query d) = coding_takes code 63 && takes_class code d.class
takes_kind code (Words d) = is_raw code && list_all (λ word. list_all (coding_takes code) word) d.list
takes_kind code k = is_raw code

-- ---- some value isn't taken for absence

-- whether a value that is printed as `-` is taken for absence
abbrev pub takes_dash : Absent → Bool → Bool
takes_dash Dash quoted = not quoted
takes_dash absent quoted = false

-- whether a value with this plain text is taken for absence
abbrev pub is_absence : Absent → Bool → List ℕ → Bool
is_absence Blank quoted text = bytes_eq text []
is_absence absent quoted text = takes_dash absent quoted && bytes_eq text (45 ∷ [])

abbrev pub is_within : ℕ → Option ℕ → Bool
is_within least None = true
is_within least (Some most) = nat_le least most

-- whether there is a text of so many letters that pass the test
abbrev pub has_text : (ℕ → Bool) → ℕ → Option ℕ → Bool
has_text test least most = is_within least most && ((least == 0) || some_byte test)

-- whether there is such a text that isn't taken for absence
abbrev pub has_present_text : Class → ℕ → Option ℕ → Absent → Bool → Bool
has_present_text set least most Blank quoted = has_text (is_letter set) (max least 1) most
has_present_text set least most Dash false =
    has_text (λ b. is_letter set b && not (b == 45)) least most || has_text (is_letter set) (max least 2) most
has_present_text set least most absent quoted = has_text (is_letter set) least most

-- whether the domain has a value that isn't taken for absence
abbrev pub has_present : Kind → Absent → Bool → Bool
has_present (Num d) absent quoted = int_le d.lo d.hi
has_present (DashZero d) absent quoted = int_le d.lo d.hi && (not (takes_dash absent quoted) || int_le (pos 1) d.hi)
has_present (Fixed3 d) absent quoted = int_le d.lo d.hi
has_present (Padded d) absent quoted = int_le d.lo d.hi
has_present (Words d) absent quoted = list_any (λ word. list_all (λ b. nat_lt b 256) word && not (is_absence absent quoted word)) d.list
has_present (Text d) absent quoted = has_present_text d.class d.min d.max absent quoted
has_present k absent quoted = true

-- whether the slot holds some value
abbrev pub has_value : Slot → Bool
has_value slot = holds_missing slot.absent slot.present || has_present slot.kind slot.absent slot.quoted

-- Whether the slot keeps what each slot of a format keeps.
abbrev pub keeps_slot : Slot → Bool
keeps_slot slot = takes_kind slot.code slot.kind && has_value slot

-- ---- a test at each flag, and at each way to print absence

abbrev pub each_flag : (Bool → Bool) → Bool
each_flag test = test true && test false

abbrev pub each_absence : (Absent → Bool) → Bool
each_absence test = test No && test Dash && test DashTwo && test Blank
