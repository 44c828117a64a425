-- What reading a moment answers, and what is kept of it.
use Rattle.std.specs.Prelude.{◌≡◌, ℕ, List, [], ◌∷◌, ◌++◌}
use Rattle.lf_core.specs.declared.values.Moment.{Moment}
use Rattle.lf_layout.specs.Layouts.{IsShown, layout_text}
use Rattle.lf_layout.specs.declared.layout.Layout.{Layout}
use Rattle.lf_time.specs.TimeLayouts.{json_layout}
use Rattle.lf_stamp.specs.Fields.{moment_of}
use Rattle.lf_stamp.specs.declared.stamp.Stamp.{Stamp}

-- the JSON of a moment
abbrev pub moment_json : Moment → List ℕ
moment_json m = 34 ∷ (layout_text json_layout m ++ 34 ∷ [])

-- The text is that of a moment in the layout, and then what is left; the moment's JSON is added.
pub record ReadsMoment (layout : Layout) (text left old new : List ℕ) : Type 0 where
  pub moment : Moment
  pub shown : IsShown layout moment
  pub written : text ≡ layout_text layout moment ++ left
  pub added : new ≡ old ++ moment_json moment

-- The text is that of the stamp in the layout, and the JSON is that of the same stamp.
pub record IsKept (layout : Layout) (s : Stamp) (text json : List ℕ) : Type 0 where
  pub shown : IsShown layout (moment_of s)
  pub written : text ≡ layout_text layout (moment_of s)
  pub told : json ≡ moment_json (moment_of s)
