-- The values that a kind holds, by their sort.
use Rattle.std.proofs.Common.{ℕ, ◌<◌, List, [], ◌∷◌}
use Rattle.std.specs.Prelude.{ℤ, All}
use Rattle.std.proofs.lemmas.List.Elements.{All-nil, All-cons}
use Rattle.lf_core.specs.declared.values.Value.{Value}
use Rattle.lf_core.specs.declared.values.Value.TheVariants.{Missing, Num, Text, Moment, Day, Clock}
use Rattle.lf_number.specs.Numbers.{HoldsNumber}
use Rattle.lf_domain.specs.Texts.{IsText}
use Rattle.lf_layout.specs.Calendar.{IsDay}
use Rattle.lf_layout.specs.Layouts.{IsMoment, HoldsMoment, HoldsDay, HoldsClock}
use Rattle.lf_layout.specs.declared.layout.Layout.{Layout}
use Rattle.lf_time.specs.TimeLayouts.{clf_layout, iso_offset_layout, iso_millis_layout, ha_layout}
use Rattle.lf_format.specs.declared.format.Piece.{Piece}
use Rattle.lf_format.specs.declared.format.Piece.TheVariants as piece
use Rattle.lf_format.specs.declared.kind.Kind.{Kind}
use Rattle.lf_format.specs.declared.kind.Kind.TheVariants as kind
use Rattle.lf_format.specs.declared.kind.ValueKind.{ValueKind}
use Rattle.lf_format.specs.declared.kind.ValueKind.TheVariants as sort
use Rattle.lf_format.specs.declared.slot.Slot.{Slot}
use Rattle.lf_format.specs.Kinds.{HoldsKind, value_kind}
use Rattle.lf_format.specs.Lines.{IsRecordOf}
use Rattle.lf_format.specs.Slots.{Holds}
use Rattle.lf_json.specs.Text.{HasJson}

-- A value of the sort.
abbrev pub IsOfSort : ValueKind → Value → Type 0
IsOfSort sort.Number (Num n) = Unit {0}
IsOfSort sort.Text (Text bytes) = Unit {0}
IsOfSort sort.Moment (Moment m) = IsMoment m
IsOfSort sort.Day (Day d) = IsDay d
IsOfSort sort.Clock (Clock s) = s < 86400
IsOfSort s v = ⊥

number_sort : (lo hi : ℤ) (v : Value) → HoldsNumber lo hi v → IsOfSort sort.Number v
number_sort lo hi (Num n) h = tt
number_sort lo hi v h = absurd h

text_sort : (P : List ℕ → Type 0) (v : Value) → IsText P v → IsOfSort sort.Text v
text_sort P (Text bytes) h = tt
text_sort P v h = absurd h

moment_sort : (layout : Layout) (v : Value) → HoldsMoment layout v → IsOfSort sort.Moment v
moment_sort layout (Moment m) h = h.0
moment_sort layout v h = absurd h

day_sort : (v : Value) → HoldsDay v → IsOfSort sort.Day v
day_sort (Day d) h = h
day_sort v h = absurd h

clock_sort : (v : Value) → HoldsClock v → IsOfSort sort.Clock v
clock_sort (Clock s) h = h
clock_sort v h = absurd h

pub kind_sort : (k : Kind) (v : Value) → HoldsKind k v → IsOfSort (value_kind k) v
kind_sort (kind.Num d) v h = number_sort d.lo d.hi v h
kind_sort (kind.DashZero d) v h = number_sort d.lo d.hi v h
kind_sort (kind.Fixed3 d) v h = number_sort d.lo d.hi v h
kind_sort (kind.Padded d) v h = number_sort d.lo d.hi v h
kind_sort (kind.Words d) v h = text_sort _ v h
kind_sort (kind.Text d) v h = text_sort _ v h
kind_sort (kind.Query d) v h = text_sort _ v h
kind_sort (kind.Clf d) v h = moment_sort (clf_layout d.bracketed) v h
kind_sort (kind.Iso d) v h = moment_sort iso_offset_layout v h
kind_sort (kind.IsoMillis d) v h = moment_sort iso_millis_layout v h
kind_sort (kind.Ha d) v h = moment_sort ha_layout v h
kind_sort (kind.Date d) v h = day_sort v h
kind_sort (kind.Clock d) v h = clock_sort v h

-- ---- a record's values have JSON texts

sort_json : (s : ValueKind) (v : Value) → IsOfSort s v → HasJson v
sort_json sort.Number (Num n) is = tt
sort_json sort.Text (Text bytes) is = tt
sort_json sort.Moment (Moment m) is = is
sort_json sort.Day (Day d) is = is
sort_json sort.Clock (Clock s) is = is
sort_json s v is = absurd is

pub held_json : (slot : Slot) (v : Value) → Holds slot v → HasJson v
held_json slot Missing held = tt
held_json slot v held = sort_json (value_kind slot.kind) v (kind_sort slot.kind v held.0)

-- A record of a format has a JSON text.
pub record_json : (pieces : List Piece) (rec : List Value) → IsRecordOf pieces rec → All HasJson rec
record_json [] [] h = All-nil HasJson
record_json [] (v ∷ rec) h = absurd h
record_json (piece.Literal text ∷ pieces) rec h = record_json pieces rec h
record_json (piece.Slot slot ∷ pieces) [] h = absurd h
record_json (piece.Slot slot ∷ pieces) (v ∷ rec) h = All-cons HasJson v rec (held_json slot v h.0) (record_json pieces rec h.1)
