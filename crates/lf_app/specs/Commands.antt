-- What a command line asks for.
use Rattle.std.specs.Prelude.{◌≡◌, ℕ, ◌⊎◌, List, length, Bool, false, Some, Err}
use Rattle.lf_compile.specs.Accepted.{IsAccepted, IsCauseOf}
use Rattle.lf_compile.specs.declared.refused.Confusion.{Confusion}
use Rattle.lf_compile.specs.declared.refused.Refused.{Refused}
use Rattle.lf_compile.specs.declared.refused.Refused.TheVariants.{TooLarge, Hash, Ambiguous, OutOfMemory}
use Rattle.lf_format.specs.Keeps.{slots_in}
use Rattle.lf_format.specs.Shape.{Shape}
use Rattle.lf_expression.specs.Exprs.{Expr}
use Rattle.lf_map.specs.Filling.{ParsesMap}
use Rattle.lf_map.specs.declared.fault.MapFault.{MapFault}
use Rattle.lf_map.specs.declared.fault.MapFault.TheVariants as map_fault
use Rattle.lf_words.specs.Command.{IsCommand as IsLine, IsBad, HasTarget}
use Rattle.lf_words.specs.declared.command.Command.{Command as CommandLine}
use Rattle.lf_words.specs.declared.command.Side.{Side}
use Rattle.lf_words.specs.declared.command.Verb.{Verb}
use Rattle.lf_words.specs.declared.command.Verb.TheVariants as verbs
use Rattle.lf_app.specs.declared.commands.Command.{Command}
use Rattle.lf_app.specs.declared.commands.Command.TheVariants.{Lines, Readable, Witness, Show, Generate, Refuse}
use Rattle.lf_app.specs.declared.commands.Job.TheVariants.{Read, Write, Translate}
use Rattle.lf_app.specs.declared.commands.Purpose.{Purpose}
use Rattle.lf_app.specs.declared.commands.Purpose.TheVariants as purposes
use Rattle.lf_app.specs.declared.commands.Refusal.{Refusal}
use Rattle.lf_app.specs.declared.commands.Refusal.TheVariants as refusals
use Rattle.lf_app.specs.declared.commands.WhichSide.{WhichSide}
use Rattle.lf_app.specs.declared.commands.WhichSide.TheVariants.{Source, Target}
use Rattle.lf_app.specs.Sides.{Gives, IsShort, IsFaultySide}
use Rattle.lf_translate.specs.Translations.{Plan, MapsBy}

-- what a verb asks for by a format that isn't readable: `check` tells it, and the others are refused
abbrev pub confused_command : Verb → Confusion → Command
confused_command verbs.Check confusion = Witness confusion
confused_command verbs.Read confusion = Refuse (refusals.Confused confusion)
confused_command verbs.Write confusion = Refuse (refusals.Confused confusion)
confused_command verbs.Translate confusion = Refuse (refusals.Confused confusion)
confused_command verbs.Show confusion = Refuse (refusals.Confused confusion)
confused_command verbs.Gen confusion = Refuse (refusals.Confused confusion)

-- The verb asks for this by a format that is refused for this cause.
abbrev pub IsRefusedFor : Verb → Refused → Command → Type 0
IsRefusedFor verb (TooLarge size) command = command ≡ Refuse (refusals.TooLarge size)
IsRefusedFor verb (Hash rec) command = command ≡ Refuse (refusals.NoteLine rec)
IsRefusedFor verb (Ambiguous confusion) command = command ≡ confused_command verb confusion
IsRefusedFor verb OutOfMemory command = ⊥

-- A verb that asks first whether a format is accepted asks for this: for the one thing where it is, and else the format is refused.
pub data IfAccepted (verb : Verb) (format : Shape) (one command : Command) : Type 0 where
  accepted : IsAccepted format → command ≡ one → IfAccepted verb format one command
  refused : (cause : Refused) → IsCauseOf format cause → IsRefusedFor verb cause command → IfAccepted verb format one command

-- A side gives a format, and by it this is asked for; or the side is refused.
pub data BySide (which : WhichSide) (two : Bool) (side : Side) (Asks : Shape → Command → Type 0) (command : Command) : Type 0 where
  faulty : (refusal : Refusal) → IsFaultySide which two side refusal → command ≡ Refuse refusal → BySide which two side Asks command
  given : (format : Shape) → Gives two side format → Asks format command → BySide which two side Asks command

-- For this purpose this is asked for by a format. `write` and `show` take each format, readable or not.
abbrev pub AsksOf : Purpose → Shape → Command → Type 0
AsksOf purposes.Check format command = IfAccepted verbs.Check format (Readable (length (slots_in format.pieces))) command
AsksOf purposes.Read format command = IfAccepted verbs.Read format (Lines (Read format)) command
AsksOf purposes.Write format command = command ≡ Lines (Write format)
AsksOf purposes.Show format command = command ≡ Show format
AsksOf (purposes.Generate seed count) format command = IfAccepted verbs.Gen format (Generate format seed count) command

-- The map is refused for the fault.
abbrev pub IsMapRefused : MapFault → Command → Type 0
IsMapRefused map_fault.OutOfMemory command = ⊥
IsMapRefused why command = command ≡ Refuse (refusals.BadMap why)

-- A translation asks for this by its formats and the text of its map: the text has a fault, or it is a map, and then the
-- source is asked whether it is accepted.
pub data AsksToMap (plan : Plan) (command : Command) : Type 0 where
  unmapped : (fault : MapFault) → ParsesMap plan.map plan.source plan.target (Err fault) → command ≡ Refuse (refusals.BadMap fault) → AsksToMap plan command
  mapped : (exprs : List Expr) → MapsBy plan exprs → IfAccepted verbs.Translate plan.source (Lines (Translate plan)) command → AsksToMap plan command

-- A translation asks for this: first the source is looked at, then the target, then the map. In a target, absence and a
-- lone dash are always one value.
abbrev pub AsksToTranslate : Bool → Side → Side → List ℕ → Command → Type 0
AsksToTranslate two source target map command =
    BySide Source two source (λ from. BySide Target false target (λ to. AsksToMap (record { source = from; target = to; map = map }))) command

-- The command line has a target and a map, and by them this is asked for.
pub record IsTranslation (line : CommandLine) (command : Command) : Type 0 where
  pub to : Side
  pub by : List ℕ
  pub target : line.target ≡ Some to
  pub map : line.map ≡ Some by
  pub asks : AsksToTranslate line.two line.source to by command

-- A command line of the verb asks for this.
abbrev pub AsksBy : Verb → CommandLine → Command → Type 0
AsksBy verbs.Check line command = BySide Source line.two line.source (AsksOf purposes.Check) command
AsksBy verbs.Read line command = BySide Source line.two line.source (AsksOf purposes.Read) command
AsksBy verbs.Write line command = BySide Source line.two line.source (AsksOf purposes.Write) command
AsksBy verbs.Show line command = BySide Source line.two line.source (AsksOf purposes.Show) command
AsksBy verbs.Translate line command = IsTranslation line command
AsksBy verbs.Gen line command = BySide Source line.two line.source (AsksOf (purposes.Generate line.seed line.count)) command

-- A command line asks for this.
abbrev pub AsksFor : CommandLine → Command → Type 0
AsksFor line command = AsksBy line.verb line command

-- The texts of the command line are words, and a translation has a target and a map.
pub record CanAsk (line : CommandLine) : Type 0 where
  pub source : IsShort line.source
  pub target : line.verb ≡ verbs.Translate → HasTarget line

-- The words are a command line, and it asks for this.
pub record IsLineFor (words : List (List ℕ)) (command : Command) : Type 0 where
  pub line : CommandLine
  pub is : IsLine words line
  pub asks : AsksFor line command

-- The words are this command: they are bad, or a command line that asks for it.
abbrev pub IsCommand : List (List ℕ) → Command → Type 0
IsCommand words command = (IsBad words × (command ≡ Refuse refusals.BadWords)) ⊎ IsLineFor words command

-- The command takes bytes from the input.
abbrev pub TakesInput : Command → Type 0
TakesInput (Lines job) = Unit {0}
TakesInput (Readable slots) = ⊥
TakesInput (Witness confusion) = ⊥
TakesInput (Show format) = ⊥
TakesInput (Generate format seed count) = ⊥
TakesInput (Refuse refusal) = ⊥

-- The words are one command and no other.
pub record HasOneCommand (words : List (List ℕ)) : Type 0 where
  pub command : Command
  pub is : IsCommand words command
  pub only : (other : Command) → IsCommand words other → other ≡ command
