-- Domains of times: each holds some time, and no time's plain text stands for absence.
use Rattle.std.proofs.Common.{ℕ, Bool, true, false, List, refl, arith}
use Rattle.std.specs.Prelude.{pos, IsTrue, ◌↔◌}
use Rattle.std.specs.Bool.{OnFalse}
use Rattle.lf_core.specs.declared.values.Value.{Value}
use Rattle.lf_core.specs.declared.values.Value.TheVariants as value
use Rattle.lf_layout.specs.Layouts.{HoldsMoment, writes_offset}
use Rattle.lf_layout.specs.declared.layout.Layout.{Layout}
use Rattle.lf_time.specs.TimeLayouts.{clf_layout, iso_offset_layout, iso_millis_layout, ha_layout}
use Rattle.lf_format.specs.declared.kind.Kind.{Kind}
use Rattle.lf_format.specs.declared.kind.Kind.TheVariants as kind
use Rattle.lf_format.specs.declared.slot.Absent.{Absent}
use Rattle.lf_format.specs.declared.slot.Absent.TheVariants as absent
use Rattle.lf_format.specs.Kinds.{HoldsKind, plain_text}
use Rattle.lf_format.specs.Slots.{IsNotAbsence, HasPresent}
use Rattle.lf_format.specs.PlainTextLaws.{BeginsHigh, not-dash, not-none}
use Rattle.lf_format.specs.TimeTextLaws.{AllClear, moment-begins, day-begins, clock-begins, moment-clear, day-clear, clock-clear}

-- The domain is one of times.
abbrev pub IsTime : Kind → Type 0
IsTime (kind.Clf d) = Unit {0}
IsTime (kind.Iso d) = Unit {0}
IsTime (kind.IsoMillis d) = Unit {0}
IsTime (kind.Ha d) = Unit {0}
IsTime (kind.Date d) = Unit {0}
IsTime (kind.Clock d) = Unit {0}
IsTime k = ⊥

-- The value is a time.
abbrev pub IsTimeValue : Value → Type 0
IsTimeValue (value.Moment m) = Unit {0}
IsTimeValue (value.Day day) = Unit {0}
IsTimeValue (value.Clock second) = Unit {0}
IsTimeValue v = ⊥

time-begins : (k : Kind) (v : Value) → IsTimeValue v → HoldsKind k v → BeginsHigh (plain_text k v)
time-begins (kind.Num d) (value.Num n) t h = absurd t
time-begins (kind.Num d) v t h = absurd h
time-begins (kind.DashZero d) (value.Num n) t h = absurd t
time-begins (kind.DashZero d) v t h = absurd h
time-begins (kind.Fixed3 d) (value.Num n) t h = absurd t
time-begins (kind.Fixed3 d) v t h = absurd h
time-begins (kind.Padded d) (value.Num n) t h = absurd t
time-begins (kind.Padded d) v t h = absurd h
time-begins (kind.Words d) (value.Text text) t h = absurd t
time-begins (kind.Words d) v t h = absurd h
time-begins (kind.Text d) (value.Text text) t h = absurd t
time-begins (kind.Text d) v t h = absurd h
time-begins (kind.Query d) (value.Text text) t h = absurd t
time-begins (kind.Query d) v t h = absurd h
time-begins (kind.Clf d) v t h = moment-begins (clf_layout d.bracketed) v h
time-begins (kind.Iso d) v t h = moment-begins iso_offset_layout v h
time-begins (kind.IsoMillis d) v t h = moment-begins iso_millis_layout v h
time-begins (kind.Ha d) v t h = moment-begins ha_layout v h
time-begins (kind.Date d) v t h = day-begins v h
time-begins (kind.Clock d) v t h = clock-begins v h

high-present : (a : Absent) (quoted : Bool) (text : List ℕ) → BeginsHigh text → IsNotAbsence a quoted text
high-present absent.No quoted text b = tt
high-present absent.DashTwo quoted text b = tt
high-present absent.Dash true text b = tt
high-present absent.Dash false text b = not-dash text b
high-present absent.Blank quoted text b = not-none text b

-- No time's plain text stands for absence.
pub time-present : (k : Kind) (a : Absent) (quoted : Bool) (v : Value) → IsTimeValue v → HoldsKind k v → IsNotAbsence a quoted (plain_text k v)
time-present k a quoted v t h = high-present a quoted (plain_text k v) (time-begins k v t h)

-- 1970-01-01T00:00:00
epoch : Value
epoch = value.Moment (record { seconds = pos 0; millis = 0; offset = pos 0 })

on-false : {P : Type 0} (b : Bool) → P → OnFalse b P
on-false true p = tt
on-false false p = p

epoch-shown : (layout : Layout) → HoldsMoment layout epoch
unfolding epoch
epoch-shown layout = ((record { le = tt }, record { le = tt }, omega arith, record { le = tt }, record { le = tt }), on-false layout.millis refl, on-false (writes_offset layout.zone) refl)

-- a time that a domain of times holds
pub record HoldsTime (k : Kind) : Type 0 where
  pub time : Value
  pub is : IsTimeValue time
  pub held : HoldsKind k time

pub some-time : (k : Kind) → IsTime k → HoldsTime k
unfolding epoch
some-time (kind.Clf d) t = record { time = epoch; is = tt; held = epoch-shown (clf_layout d.bracketed) }
some-time (kind.Iso d) t = record { time = epoch; is = tt; held = epoch-shown iso_offset_layout }
some-time (kind.IsoMillis d) t = record { time = epoch; is = tt; held = epoch-shown iso_millis_layout }
some-time (kind.Ha d) t = record { time = epoch; is = tt; held = epoch-shown ha_layout }
some-time (kind.Date d) t = record { time = value.Day (pos 0); is = tt; held = (record { le = tt }, record { le = tt }) }
some-time (kind.Clock d) t = record { time = value.Clock 0; is = tt; held = omega arith }
some-time k t = absurd t

-- A domain of times holds one that isn't taken for absence.
pub time-some : (k : Kind) (a : Absent) (quoted : Bool) → IsTime k → HasPresent k a quoted
time-some k a quoted t = let some = some-time k t in (some.time, some.held, time-present k a quoted some.time some.is some.held)

pub times-decide : (k : Kind) (a : Absent) (quoted : Bool) → IsTime k → IsTrue true ↔ HasPresent k a quoted
times-decide k a quoted t = ((λ _. time-some k a quoted t), (λ _. refl))

-- No time's plain text holds a line feed.
pub time-clear : (k : Kind) → IsTime k → (v : Value) → AllClear (plain_text k v)
time-clear (kind.Clf d) t v = moment-clear (clf_layout d.bracketed) refl v
time-clear (kind.Iso d) t v = moment-clear iso_offset_layout refl v
time-clear (kind.IsoMillis d) t v = moment-clear iso_millis_layout refl v
time-clear (kind.Ha d) t v = moment-clear ha_layout refl v
time-clear (kind.Date d) t v = day-clear v
time-clear (kind.Clock d) t v = clock-clear v
time-clear k t v = absurd t
