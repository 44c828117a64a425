-- The domain of a slot, by its member.
use Rattle.std.specs.Prelude.{ℕ, ◌+◌, List}
use Rattle.lf_core.specs.Domain.{LetterMachine, IsDomain}
use Rattle.lf_core.specs.declared.values.Value.{Value}
use Rattle.lf_domain.specs.Texts.{HoldsText, HoldsQuery, text_of, text_machine, query_machine, top_point}
use Rattle.lf_domain.specs.WordLists.{HoldsWord, letter_count, word_machine}
use Rattle.lf_domain.specs.TextLaws.{text_laws, query_laws}
use Rattle.lf_domain.specs.WordLaws.{word_laws}
use Rattle.lf_number.specs.Numbers.{HoldsNumber, num_text, number_text, dash_text, thousandths_text, padded_text, number_size, dash_size, thousandths_size, padded_size}
use Rattle.lf_number.specs.Machines.{number_machine, dash_machine, thousandths_machine, padded_machine}
use Rattle.lf_number.specs.Radix.{radix_of}
use Rattle.lf_number.specs.RadixLaws.{radix_is}
use Rattle.lf_number.specs.NumberLaws.{number_laws}
use Rattle.lf_number.specs.DashLaws.{dash_laws}
use Rattle.lf_number.specs.ThousandthsLaws.{thousandths_laws}
use Rattle.lf_number.specs.PaddedLaws.{padded_laws}
use Rattle.lf_layout.specs.Layouts.{HoldsMoment, HoldsDay, HoldsClock, moment_text, day_text, time_text}
use Rattle.lf_layout.specs.Places.{layout_places, iso_date_places, clock_places, places_machine}
use Rattle.lf_layout.specs.DomainLaws.{moment_laws, day_laws, clock_laws}
use Rattle.lf_time.specs.TimeLayouts.{clf_layout, iso_offset_layout, iso_millis_layout, ha_layout}
use Rattle.lf_time.specs.TimeLaws.{clf_placed, iso_offset_placed, iso_millis_placed, ha_placed}
use Rattle.lf_format.specs.declared.kind.Kind.{Kind}
use Rattle.lf_format.specs.declared.kind.Kind.TheVariants.{Num, DashZero, Fixed3, Padded, Words, Text, Query, Clf, Iso, IsoMillis, Ha, Date, Clock}
use Rattle.lf_format.specs.declared.kind.ValueKind.{ValueKind}
use Rattle.lf_format.specs.declared.kind.ValueKind.TheVariants as sort

-- The domain holds the value.
abbrev pub HoldsKind : Kind → Value → Type 0
HoldsKind (Num d) = HoldsNumber d.lo d.hi
HoldsKind (DashZero d) = HoldsNumber d.lo d.hi
HoldsKind (Fixed3 d) = HoldsNumber d.lo d.hi
HoldsKind (Padded d) = HoldsNumber d.lo d.hi
HoldsKind (Words d) = HoldsWord d.list
HoldsKind (Text d) = HoldsText d.class d.min d.max
HoldsKind (Query d) = HoldsQuery d.class
HoldsKind (Clf d) = HoldsMoment (clf_layout d.bracketed)
HoldsKind (Iso d) = HoldsMoment iso_offset_layout
HoldsKind (IsoMillis d) = HoldsMoment iso_millis_layout
HoldsKind (Ha d) = HoldsMoment ha_layout
HoldsKind (Date d) = HoldsDay
HoldsKind (Clock d) = HoldsClock

-- the plain text of a value in the domain
abbrev pub plain_text : Kind → Value → List ℕ
plain_text (Num d) = num_text number_text
plain_text (DashZero d) = num_text dash_text
plain_text (Fixed3 d) = num_text thousandths_text
plain_text (Padded d) = num_text (padded_text (radix_of d.radix) d.width)
plain_text (Words d) = text_of
plain_text (Text d) = text_of
plain_text (Query d) = text_of
plain_text (Clf d) = moment_text (clf_layout d.bracketed)
plain_text (Iso d) = moment_text iso_offset_layout
plain_text (IsoMillis d) = moment_text iso_millis_layout
plain_text (Ha d) = moment_text ha_layout
plain_text (Date d) = day_text
plain_text (Clock d) = time_text

-- the machine over the letters of plain texts
abbrev pub kind_machine : Kind → LetterMachine
kind_machine (Num d) = number_machine d.lo d.hi
kind_machine (DashZero d) = dash_machine d.lo d.hi
kind_machine (Fixed3 d) = thousandths_machine d.lo d.hi
kind_machine (Padded d) = padded_machine (radix_of d.radix) d.width d.lo d.hi
kind_machine (Words d) = word_machine d.list
kind_machine (Text d) = text_machine d.class d.min d.max
kind_machine (Query d) = query_machine d.class
kind_machine (Clf d) = places_machine (layout_places (clf_layout d.bracketed))
kind_machine (Iso d) = places_machine (layout_places iso_offset_layout)
kind_machine (IsoMillis d) = places_machine (layout_places iso_millis_layout)
kind_machine (Ha d) = places_machine (layout_places ha_layout)
kind_machine (Date d) = places_machine iso_date_places
kind_machine (Clock d) = places_machine clock_places

-- the most points that the machine may have
abbrev pub kind_size : Kind → ℕ
kind_size (Num d) = number_size d.lo d.hi
kind_size (DashZero d) = dash_size d.lo d.hi
kind_size (Fixed3 d) = thousandths_size d.hi
kind_size (Padded d) = padded_size (radix_of d.radix) d.width d.hi
kind_size (Words d) = letter_count d.list + 1
kind_size (Text d) = top_point d.min d.max + 1
kind_size (Query d) = 2
kind_size (Clf d) = 300
kind_size (Iso d) = 300
kind_size (IsoMillis d) = 300
kind_size (Ha d) = 300
kind_size (Date d) = 300
kind_size (Clock d) = 300

pub kind_laws : (k : Kind) → IsDomain (HoldsKind k) (plain_text k) (kind_machine k) (kind_size k)
kind_laws (Num d) = number_laws d.lo d.hi
kind_laws (DashZero d) = dash_laws d.lo d.hi d.not_negative
kind_laws (Fixed3 d) = thousandths_laws d.lo d.hi d.not_negative
kind_laws (Padded d) = padded_laws (radix_of d.radix) (radix_is d.radix) d.width d.lo d.hi d.not_negative
kind_laws (Words d) = word_laws d.list
kind_laws (Text d) = text_laws d.class d.min d.max
kind_laws (Query d) = query_laws d.class
kind_laws (Clf d) = moment_laws (clf_layout d.bracketed) (clf_placed d.bracketed)
kind_laws (Iso d) = moment_laws iso_offset_layout iso_offset_placed
kind_laws (IsoMillis d) = moment_laws iso_millis_layout iso_millis_placed
kind_laws (Ha d) = moment_laws ha_layout ha_placed
kind_laws (Date d) = day_laws
kind_laws (Clock d) = clock_laws

-- what sort of values the domain has
abbrev pub value_kind : Kind → ValueKind
value_kind (Num d) = sort.Number
value_kind (DashZero d) = sort.Number
value_kind (Fixed3 d) = sort.Number
value_kind (Padded d) = sort.Number
value_kind (Words d) = sort.Text
value_kind (Text d) = sort.Text
value_kind (Query d) = sort.Text
value_kind (Clf d) = sort.Moment
value_kind (Iso d) = sort.Moment
value_kind (IsoMillis d) = sort.Moment
value_kind (Ha d) = sort.Moment
value_kind (Date d) = sort.Day
value_kind (Clock d) = sort.Clock
