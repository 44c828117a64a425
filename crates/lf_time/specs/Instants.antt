-- The instant of a moment.
use Rattle.std.specs.Prelude.{ℤ, pos, ◌-ℤ◌, ◌*ℤ◌}
use Rattle.lf_core.specs.declared.values.Moment.{Moment}

-- the seconds of the instant, from 1970-01-01T00:00:00 at the offset 0
abbrev pub epoch_of : Moment → ℤ
epoch_of m = m.seconds -ℤ (pos 60 *ℤ m.offset)

-- the moment of the same instant at the offset 0
abbrev pub utc_of : Moment → Moment
utc_of m = record { seconds = epoch_of m; millis = m.millis; offset = pos 0 }
