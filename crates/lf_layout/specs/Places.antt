-- The machine of a layout: places of one letter, each with some memories of what stood before.
use Rattle.std.specs.Prelude.{◌≡◌, ℕ, ◌+◌, ◌-◌, ◌*◌, ◌/◌, ◌%◌, ◌≤◌, List, [], ◌∷◌, ◌++◌, Option, None, Some, Bool, true, false, cond, not, ◌&&◌, ◌||◌, ◌==◌, ltb, leb}
use Rattle.lf_core.specs.Domain.{LetterMachine}
use Rattle.lf_layout.specs.Calendar.{days_of_month}
use Rattle.lf_layout.specs.Texts.{month_letter}
use Rattle.lf_layout.specs.Names.{first_month, has_letters}
use Rattle.lf_layout.specs.declared.layout.DateForm.{DateForm}
use Rattle.lf_layout.specs.declared.layout.DateForm.TheVariants.{Iso, Named}
use Rattle.lf_layout.specs.declared.layout.Zone.{Zone}
use Rattle.lf_layout.specs.declared.layout.Zone.TheVariants.{Absent, Zulu, Compact, Colon}
use Rattle.lf_layout.specs.declared.layout.Layout.{Layout}
use Rattle.lf_layout.specs.declared.place.Number.{Number}
use Rattle.lf_layout.specs.declared.place.Number.TheVariants.{Hour, Minute, Century, YearOfCentury, Month, Day, NamedDay, OffsetHour, OffsetMinute}
use Rattle.lf_layout.specs.declared.place.Place.{Place}
use Rattle.lf_layout.specs.declared.place.Place.TheVariants.{Byte, Forget, Digit, Tens, Ones, Sign, NameFirst, NameSecond, NameThird}

-- how many memories there are before a number: of a year that must be leap, the century, a leap year, the
-- month's length, or a negative offset
abbrev pub number_memories : Number → ℕ
number_memories Hour = 1
number_memories Minute = 1
number_memories Century = 2
number_memories YearOfCentury = 6
number_memories Month = 2
number_memories Day = 4
number_memories NamedDay = 1
number_memories OffsetHour = 2
number_memories OffsetMinute = 2

-- how many there are after the number
abbrev pub number_exits : Number → ℕ
number_exits Hour = 1
number_exits Minute = 1
number_exits Century = 6
number_exits YearOfCentury = 2
number_exits Month = 4
number_exits Day = 1
number_exits NamedDay = 4
number_exits OffsetHour = 2
number_exits OffsetMinute = 1

-- 0 for the century 00, 1 for another that 4 divides, and 2 for the rest
abbrev pub century_class : ℕ → ℕ
century_class n = cond (n == 0) 0 (cond (n % 4 == 0) 1 2)

-- whether the year is leap whose century has the class
abbrev pub is_leap_in : ℕ → ℕ → Bool
is_leap_in class n = (n % 4 == 0) && (not (n == 0) || (class == 1))

-- the memory after the last two digits of a year; the year 0000 is none, and some must be leap
abbrev pub after_year : ℕ → ℕ → ℕ → Option ℕ
after_year must class n =
    cond ((class == 0) && (n == 0)) None
    (cond (is_leap_in class n) (Some 1) (cond (must == 1) None (Some 0)))

-- the memory after a number, and none where the number doesn't go there
abbrev pub after_number : Number → ℕ → ℕ → Option ℕ
after_number Hour memory n = cond (ltb n 24) (Some 0) None
after_number Minute memory n = cond (ltb n 60) (Some 0) None
after_number Century memory n = Some (3 * memory + century_class n)
after_number YearOfCentury memory n = after_year (memory / 3) (memory % 3) n
after_number Month memory n = cond (leb 1 n && leb n 12) (Some (days_of_month (memory == 1) n - 28)) None
after_number Day memory n = cond (leb 1 n && leb n (28 + memory)) (Some 0) None
after_number NamedDay memory n = cond (leb 1 n && leb n 31) (Some (n - 28)) None
after_number OffsetHour memory n = cond (ltb n 24) (Some (cond ((memory == 1) && (n == 0)) 1 0)) None
after_number OffsetMinute memory n = cond (ltb n 60 && not ((memory == 1) && (n == 0))) (Some 0) None

-- the letter is a decimal digit
abbrev pub is_digit : ℕ → Bool
is_digit letter = leb 48 letter && leb letter 57

-- the month whose name begins with the letters
abbrev pub starts_name : ℕ → ℕ → Bool
starts_name letter month = month_letter month 0 == letter

-- the month has the first letter of the other, and then the letter
abbrev pub goes_on : ℕ → ℕ → ℕ → Bool
goes_on other letter month = (month_letter month 0 == month_letter other 0) && (month_letter month 1 == letter)

-- the month has the first two letters of the other, and then the letter
abbrev pub ends_name : ℕ → ℕ → ℕ → Bool
ends_name other letter month = has_letters (month_letter other 0) (month_letter other 1) letter month

-- 1 where the day is 29 and the month, from 0, February: the year must be leap
abbrev pub wants_leap : ℕ → ℕ → ℕ
wants_leap over month = cond ((over == 1) && (month == 1)) 1 0

-- the memory after a month's name; the memory before it tells by how many the day is over 28
abbrev pub after_name : ℕ → ℕ → Option ℕ
after_name over month =
    cond (leb (28 + over) (days_of_month true (month + 1))) (Some (wants_leap over month)) None

-- what follows, where there is something
abbrev pub and_then : Option ℕ → (ℕ → Option ℕ) → Option ℕ
and_then None f = None
and_then (Some n) f = f n

-- how many memories a place may be read with
abbrev pub place_memories : Place → ℕ
place_memories (Byte letter memories) = memories
place_memories (Forget letter memories) = memories
place_memories Digit = 1
place_memories (Tens memories) = memories
place_memories (Ones number) = 10 * number_memories number
place_memories Sign = 1
place_memories NameFirst = 4
place_memories NameSecond = 48
place_memories NameThird = 48

-- how many memories there are after it
abbrev pub place_exits : Place → ℕ
place_exits (Byte letter memories) = memories
place_exits (Forget letter memories) = 1
place_exits Digit = 1
place_exits (Tens memories) = 10 * memories
place_exits (Ones number) = number_exits number
place_exits Sign = 2
place_exits NameFirst = 48
place_exits NameSecond = 48
place_exits NameThird = 2

-- the memory after the letter of a place
abbrev pub after_place : Place → ℕ → ℕ → Option ℕ
after_place (Byte byte memories) memory letter = cond (letter == byte) (Some memory) None
after_place (Forget byte memories) memory letter = cond (letter == byte) (Some 0) None
after_place Digit memory letter = cond (is_digit letter) (Some 0) None
after_place (Tens memories) memory letter = cond (is_digit letter) (Some (10 * memory + (letter - 48))) None
after_place (Ones number) memory letter =
    cond (is_digit letter) (after_number number (memory / 10) (10 * (memory % 10) + (letter - 48))) None
after_place Sign memory letter = cond (letter == 43) (Some 0) (cond (letter == 45) (Some 1) None)
after_place NameFirst memory letter =
    and_then (first_month (starts_name letter) 12 0) (λ month. Some (12 * memory + month))
after_place NameSecond memory letter =
    and_then (first_month (goes_on (memory % 12) letter) 12 0) (λ month. Some (12 * (memory / 12) + month))
after_place NameThird memory letter =
    and_then (first_month (ends_name (memory % 12) letter) 12 0) (λ month. after_name (memory / 12) month)

-- the points of the machine: the memories of each place, then those of the next, and a last one for the end
abbrev pub point_count : List Place → ℕ
point_count [] = 1
point_count (place ∷ places) = place_memories place + point_count places

-- a point of the later places
abbrev pub shifted : ℕ → Option ℕ → Option ℕ
shifted base None = None
shifted base (Some at) = Some (base + at)

-- the point after a letter
abbrev pub next_point : List Place → ℕ → ℕ → Option ℕ
next_point [] point letter = None
next_point (place ∷ places) point letter =
    shifted (place_memories place)
    (cond (ltb point (place_memories place))
    (after_place place point letter)
    (next_point places (point - place_memories place) letter))

-- the point is the end
abbrev pub is_last : List Place → ℕ → Bool
is_last [] point = point == 0
is_last (place ∷ places) point = cond (ltb point (place_memories place)) false (is_last places (point - place_memories place))

-- the machine of a list of places
abbrev pub places_machine : List Place → LetterMachine
places_machine places = record {
  count = point_count places;
  first = 0;
  next = next_point places;
  is_end = is_last places;
}

-- so many memories before the places are among those of the first, and so on
abbrev pub is_chained : ℕ → List Place → Bool
is_chained entry [] = leb entry 1
is_chained entry (place ∷ places) = leb entry (place_memories place) && is_chained (place_exits place) places

-- the place's letter is a byte
abbrev pub is_byte : Place → Bool
is_byte (Byte letter memories) = ltb letter 256
is_byte (Forget letter memories) = ltb letter 256
is_byte place = true

-- each place's letter is a byte
abbrev pub all_bytes : List Place → Bool
all_bytes [] = true
all_bytes (place ∷ places) = is_byte place && all_bytes places

-- The places follow one another, their letters are bytes, and they have few enough points.
pub record IsPlaced (places : List Place) : Type 0 where
  pub bytes : all_bytes places ≡ true
  pub chained : is_chained 1 places ≡ true
  pub few : point_count places ≤ 300

-- The places may be read from the memory on: it is among those of the first, and they follow one another.
pub record IsReadableFrom (memory : ℕ) (places : List Place) : Type 0 where
  pub bytes : all_bytes places ≡ true
  pub chained : is_chained (memory + 1) places ≡ true
  pub few : point_count places ≤ 300

-- the places of a year
abbrev pub year_places : List Place
year_places = Tens 2 ∷ Ones Century ∷ Tens 6 ∷ Ones YearOfCentury ∷ []

-- the places of `2000-10-10`
abbrev pub iso_date_places : List Place
iso_date_places = year_places ++ Byte 45 2 ∷ Tens 2 ∷ Ones Month ∷ Byte 45 4 ∷ Tens 4 ∷ Ones Day ∷ []

-- the places of `10/Oct/2000`
abbrev pub named_date_places : List Place
named_date_places =
    Tens 1 ∷ Ones NamedDay ∷ Byte 47 4 ∷ NameFirst ∷ NameSecond ∷ NameThird ∷ Byte 47 2 ∷ year_places

-- the places of `13:55:36`
abbrev pub clock_places : List Place
clock_places = Tens 1 ∷ Ones Hour ∷ Byte 58 1 ∷ Tens 1 ∷ Ones Minute ∷ Byte 58 1 ∷ Tens 1 ∷ Ones Minute ∷ []

-- the places of a date
abbrev pub date_places : DateForm → List Place
date_places Iso = iso_date_places
date_places Named = named_date_places

-- the places of the milliseconds
abbrev pub millis_places : Bool → List Place
millis_places true = Byte 46 1 ∷ Digit ∷ Digit ∷ Digit ∷ []
millis_places false = []

-- a byte where the test holds, among so many memories
abbrev pub places_if : Bool → ℕ → ℕ → List Place
places_if true letter memories = Byte letter memories ∷ []
places_if false letter memories = []

-- the places of an offset, with a colon or not
abbrev pub offset_places : Bool → List Place
offset_places colon = Sign ∷ Tens 2 ∷ Ones OffsetHour ∷ places_if colon 58 2 ++ Tens 2 ∷ Ones OffsetMinute ∷ []

-- the places of what is written of the offset
abbrev pub zone_places : Zone → List Place
zone_places Absent = []
zone_places Zulu = Byte 90 1 ∷ []
zone_places Compact = Byte 32 1 ∷ offset_places false
zone_places Colon = offset_places true

-- the places of a layout
abbrev pub layout_places : Layout → List Place
layout_places layout =
    places_if layout.bracketed 91 1 ++ date_places layout.date ++ Forget layout.between 2 ∷ clock_places
    ++ millis_places layout.millis ++ zone_places layout.zone ++ places_if layout.bracketed 93 1
