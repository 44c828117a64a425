-- The generator: its state, what a draw gives, and what is drawn for each kind of slot.
use Rattle.std.specs.Prelude.{ℕ, zero, suc, ◌+◌, ◌*◌, ◌/◌, ◌%◌, List, [], ◌∷◌, length, Option, None, Some, Bool, if◌then◌else◌, ◌==◌, min, ℤ, pos, ◌+ℤ◌, ◌-ℤ◌, ◌*ℤ◌, int_le, unsigned_abs, slice_index, slice_index_or}
use Rattle.lf_core.specs.Class.{members}
use Rattle.lf_core.specs.declared.class.Class.{Class}
use Rattle.lf_core.specs.declared.values.Moment.{Moment}
use Rattle.lf_core.specs.declared.values.Value.{Value}
use Rattle.lf_core.specs.declared.values.Value.TheVariants as value
use Rattle.lf_layout.specs.Layouts.{writes_offset}
use Rattle.lf_layout.specs.declared.layout.Layout.{Layout}
use Rattle.lf_time.specs.TimeLayouts.{clf_layout, iso_offset_layout, iso_millis_layout, ha_layout}
use Rattle.lf_format.specs.declared.kind.Kind.{Kind}
use Rattle.lf_format.specs.declared.kind.Kind.TheVariants.{Num, DashZero, Fixed3, Padded, Words, Text, Query, Clf, Iso, IsoMillis, Ha, Date, Clock}

-- the state after a draw, a number of 64 bits
unfoldable pub next_state : ℕ → ℕ
next_state x = (x * 6364136223846793005 + 1442695040888963407) % 18446744073709551616

-- what a draw from the state gives: the upper half of the state after it
unfoldable pub draw : ℕ → ℕ
draw x = next_state x / 4294967296

-- the state after so many draws
abbrev pub state_after : ℕ → ℕ → ℕ
state_after zero x = x
state_after (suc count) x = state_after count (next_state x)

-- ---- numbers and words

-- how many numbers may be drawn: those from `lo` on, at most a million
unfoldable pub span : ℤ → ℤ → ℕ
span lo hi = min (unsigned_abs (hi -ℤ lo)) 999999 + 1

-- a number of the range from `lo` on, by one draw; none where the range is empty
abbrev pub drawn_number : ℤ → ℤ → ℕ → Option Value
drawn_number lo hi x = if int_le lo hi then Some (value.Num (lo +ℤ pos (draw x % span lo hi))) else None

-- a word of the list, by one draw; none where there is no word
abbrev pub drawn_word : List (List ℕ) → ℕ → Option Value
drawn_word [] x = None
drawn_word words x = Some (value.Text (slice_index_or words (draw x % length words) []))

-- ---- texts

-- the length that is drawn for a text
abbrev pub drawn_length : ℕ → Option ℕ → ℕ → ℕ
drawn_length least None x = least + draw x % 8
drawn_length least (Some most) x = min (least + draw x % 8) most

-- so many letters of the class, a draw for each
abbrev pub drawn_letters : Class → ℕ → ℕ → List ℕ
drawn_letters set zero x = []
drawn_letters set (suc count) x =
    slice_index (members set) (draw x % length (members set)) ∷ drawn_letters set count (next_state x)

-- how many letters are drawn after the length: none of an empty class
abbrev pub letter_draws : Class → ℕ → Option ℕ → ℕ → ℕ
letter_draws set least most x = if length (members set) == 0 then 0 else drawn_length least most x

-- a text: its length first, and then its letters
abbrev pub drawn_text : Class → ℕ → Option ℕ → ℕ → List ℕ
drawn_text set least most x = drawn_letters set (letter_draws set least most x) (next_state x)

-- nothing where the draw is even, and else a question mark and a text of the class
abbrev pub drawn_query : Class → ℕ → List ℕ
drawn_query set x = if draw x % 2 == 0 then [] else 63 ∷ drawn_text set 0 None (next_state x)

-- how many draws a query text takes
abbrev pub query_draws : Class → ℕ → ℕ
query_draws set x = if draw x % 2 == 0 then 1 else letter_draws set 0 None (next_state x) + 2

-- ---- times

-- a second of the thirty years from 2000 on
abbrev pub drawn_seconds : ℕ → ℤ
drawn_seconds x = pos (946684800 + draw x % 946080000)

-- an offset of whole hours, -23 to 23, in minutes
abbrev pub drawn_offset : ℕ → ℤ
drawn_offset x = (pos (draw x % 47) -ℤ pos 23) *ℤ pos 60

-- the state after a draw where the test holds
abbrev pub state_if : Bool → ℕ → ℕ
state_if test x = if test then next_state x else x

-- a moment: a draw for its seconds, and one for each of milliseconds and offset that is written
abbrev pub drawn_moment : Bool → Bool → ℕ → Moment
drawn_moment millis offset x = record {
  seconds = drawn_seconds x;
  millis = if millis then draw (next_state x) % 1000 else 0;
  offset = if offset then drawn_offset (state_if millis (next_state x)) else pos 0;
}

-- a moment with the parts that the layout writes
abbrev pub drawn_time : Layout → ℕ → Option Value
drawn_time layout x = Some (value.Moment (drawn_moment layout.millis (writes_offset layout.zone) x))

-- one where the test holds, and else none
abbrev pub one_if : Bool → ℕ
one_if test = if test then 1 else 0

-- how many draws a moment of the layout takes
abbrev pub time_draws : Layout → ℕ
time_draws layout = one_if (writes_offset layout.zone) + one_if layout.millis + 1

-- a day of the thirty years from 2000 on
abbrev pub drawn_day : ℕ → ℤ
drawn_day x = pos (10957 + draw x % 10950)

-- a second of the day
abbrev pub drawn_clock : ℕ → ℕ
drawn_clock x = draw x % 86400

-- ---- each kind

-- the candidate that is drawn for the kind, if there is one
abbrev pub candidate : Kind → ℕ → Option Value
candidate (Num d) x = drawn_number d.lo d.hi x
candidate (DashZero d) x = drawn_number d.lo d.hi x
candidate (Fixed3 d) x = drawn_number d.lo d.hi x
candidate (Padded d) x = drawn_number d.lo d.hi x
candidate (Words d) x = drawn_word d.list x
candidate (Text d) x = Some (value.Text (drawn_text d.class d.min d.max x))
candidate (Query d) x = Some (value.Text (drawn_query d.class x))
candidate (Clf d) x = drawn_time (clf_layout d.bracketed) x
candidate (Iso d) x = drawn_time iso_offset_layout x
candidate (IsoMillis d) x = drawn_time iso_millis_layout x
candidate (Ha d) x = drawn_time ha_layout x
candidate (Date d) x = Some (value.Day (drawn_day x))
candidate (Clock d) x = Some (value.Clock (drawn_clock x))

-- how many draws that takes, also where there is no candidate
abbrev pub draws : Kind → ℕ → ℕ
draws (Text d) x = letter_draws d.class d.min d.max x + 1
draws (Query d) x = query_draws d.class x
draws (Clf d) x = time_draws (clf_layout d.bracketed)
draws (Iso d) x = time_draws iso_offset_layout
draws (IsoMillis d) x = time_draws iso_millis_layout
draws (Ha d) x = time_draws ha_layout
draws k x = 1
