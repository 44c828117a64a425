-- The kinds of expressions.
use Rattle.std.specs.Prelude.{◌&&◌, Bool, true, false, List, Option, None, Some}
use Rattle.lf_format.specs.declared.kind.ValueKind.{ValueKind}
use Rattle.lf_format.specs.declared.kind.ValueKind.TheVariants.{Number, Text, Moment, Day, Clock}
use Rattle.lf_format.specs.declared.slot.Slot.{Slot}
use Rattle.lf_format.specs.Kinds.{value_kind}
use Rattle.lf_core.specs.declared.values.Value.{Value}
use Rattle.lf_core.specs.declared.values.Value.TheVariants as value
use Rattle.lf_expression.specs.Exprs.{Expr, missing, number, text, slot, or_else, at_time, spaced, applied, Operation, utc, zoned, whole_second, date, clock, part, div, mul}
use Rattle.lf_expression.specs.Values.{nth}

abbrev pub same_kind : ValueKind → ValueKind → Bool
same_kind Number Number = true
same_kind Text Text = true
same_kind Moment Moment = true
same_kind Day Day = true
same_kind Clock Clock = true
same_kind one other = false

-- the kind that a call wants of its first argument
abbrev pub wanted_kind : Operation → ValueKind
wanted_kind (part k) = Text
wanted_kind (div divisor) = Number
wanted_kind (mul factor) = Number
wanted_kind operation = Moment

-- the kind that a call has
abbrev pub given_kind : Operation → ValueKind
given_kind utc = Moment
given_kind (zoned offset) = Moment
given_kind whole_second = Moment
given_kind date = Day
given_kind clock = Clock
given_kind (part k) = Text
given_kind operation = Number

abbrev pub slot_has_kind : ValueKind → Option Slot → Bool
slot_has_kind k None = false
slot_has_kind k (Some one) = same_kind k (value_kind one.kind)

-- Whether the expression has the kind, over these slots of the source. `Missing` has every kind.
abbrev pub has_kind : List Slot → ValueKind → Expr → Bool
has_kind slots k missing = true
has_kind slots k (number n) = same_kind k Number
has_kind slots k (text t) = same_kind k Text
has_kind slots k (slot n) = slot_has_kind k (nth n slots)
has_kind slots k (or_else first second) = has_kind slots k first && has_kind slots k second
has_kind slots k (at_time first second) = same_kind k Moment && (has_kind slots Day first && has_kind slots Clock second)
has_kind slots k (spaced first second) = same_kind k Text && (has_kind slots Text first && has_kind slots Text second)
has_kind slots k (applied operation first) = same_kind k (given_kind operation) && has_kind slots (wanted_kind operation) first

-- The value is of the kind, or it is missing or undefined.
abbrev pub IsOfKind : ValueKind → Option Value → Type 0
IsOfKind k None = Unit {0}
IsOfKind k (Some value.Missing) = Unit {0}
IsOfKind Number (Some (value.Num n)) = Unit {0}
IsOfKind Text (Some (value.Text t)) = Unit {0}
IsOfKind Moment (Some (value.Moment m)) = Unit {0}
IsOfKind Day (Some (value.Day d)) = Unit {0}
IsOfKind Clock (Some (value.Clock c)) = Unit {0}
IsOfKind k v = ⊥
