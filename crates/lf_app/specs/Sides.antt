-- The format that a side of a command line gives, or why it is refused.
use Rattle.std.specs.Prelude.{◌≡◌, ℕ, ◌≤◌, List, length, Bool, true, false, Option, None, Some}
use Rattle.std.specs.Option.{ForSome}
use Rattle.lf_format.specs.Shape.{Shape}
use Rattle.lf_format.specs.Two.{with_two}
use Rattle.lf_fronts.specs.Fronts.{Spells, IsFaulty}
use Rattle.lf_limits.specs.Limits.{most_text_bytes}
use Rattle.lf_narrow.specs.Narrowed.{NarrowsTo, IsFaulty as IsFaultyNarrowing}
use Rattle.lf_narrow.specs.declared.fault.NarrowFault.{NarrowFault}
use Rattle.lf_narrow.specs.declared.fault.NarrowFault.TheVariants as fault
use Rattle.lf_spelling.specs.declared.fault.Cause.{Cause}
use Rattle.lf_words.specs.declared.command.Side.{Side}
use Rattle.lf_app.specs.declared.commands.Refusal.{Refusal}
use Rattle.lf_app.specs.declared.commands.Refusal.TheVariants.{BadFormat, BadNarrowing}
use Rattle.lf_app.specs.declared.commands.WhichSide.{WhichSide}
use Rattle.lf_app.specs.declared.sides.SideFault.{SideFault}
use Rattle.lf_app.specs.declared.sides.SideFault.TheVariants as side_fault

-- what is narrowed: the format as spelled, or with a lone dash told from absence where that is asked for
abbrev pub dash_apart : Bool → Shape → Shape
dash_apart true spelled = with_two spelled
dash_apart false spelled = spelled

-- The narrowing, where one is given, leaves this of the format.
abbrev pub Leaves : Option (List ℕ) → Shape → Shape → Type 0
Leaves None spelled format = format ≡ spelled
Leaves (Some text) spelled format = NarrowsTo spelled text format

-- A narrowing is given, and this is its first fault with the format.
abbrev pub HasFault : Option (List ℕ) → Shape → NarrowFault → Type 0
HasFault None spelled fault = ⊥
HasFault (Some text) spelled fault = IsFaultyNarrowing spelled text fault

-- The side gives this format, with a lone dash told from absence or not: its text spells one, and its narrowing leaves
-- this of that.
pub record Gives (two : Bool) (side : Side) (format : Shape) : Type 0 where
  pub spelled : Shape
  pub spells : Spells side.front side.format spelled
  pub left : Leaves side.narrow (dash_apart two spelled) format

-- The side is refused for this: its text has a fault, or it spells a format with which the narrowing has one.
pub data IsFaultySide (which : WhichSide) (two : Bool) (side : Side) (refusal : Refusal) : Type 0 where
  misspelled : (place : ℕ) (cause : Cause) → IsFaulty side.front side.format place cause → refusal ≡ BadFormat which place cause → IsFaultySide which two side refusal
  misnarrowed : (spelled : Shape) (fault : NarrowFault) → Spells side.front side.format spelled → HasFault side.narrow (dash_apart two spelled) fault → refusal ≡ BadNarrowing which fault → IsFaultySide which two side refusal

-- The texts of the side are within the limit.
pub record IsShort (side : Side) : Type 0 where
  pub format : length side.format ≤ most_text_bytes
  pub narrow : ForSome {T = List ℕ} side.narrow (λ text. length text ≤ most_text_bytes)

-- what a narrowing's fault is as a side's
abbrev pub side_fault_of : WhichSide → NarrowFault → SideFault
side_fault_of which fault.OutOfMemory = side_fault.OutOfMemory
side_fault_of which why = side_fault.Refused (BadNarrowing which why)

-- The side is refused for the fault, or memory ran out.
abbrev pub IsSideFault : WhichSide → Bool → Side → SideFault → Type 0
IsSideFault which two side (side_fault.Refused refusal) = IsFaultySide which two side refusal
IsSideFault which two side side_fault.OutOfMemory = Unit {0}

-- The narrowing has the fault, or memory ran out.
abbrev pub IsNarrowingFault : WhichSide → Option (List ℕ) → Shape → SideFault → Type 0
IsNarrowingFault which narrow spelled (side_fault.Refused refusal) = (fault : NarrowFault) × HasFault narrow spelled fault × (refusal ≡ BadNarrowing which fault)
IsNarrowingFault which narrow spelled side_fault.OutOfMemory = Unit {0}
