-- What is asked for by a format that is compiled, and by sides.
use Rattle.std.proofs.Common.{◌≡◌, ℕ, List, refl}
use Rattle.std.specs.Prelude.{Err}
use Rattle.lf_compile.specs.Accepted.{IsCauseOf, IsTooLarge, IsRefusedNote, IsRefusedConfusion}
use Rattle.lf_compile.specs.declared.refused.Confusion.{Confusion}
use Rattle.lf_compile.specs.declared.refused.Refused.{Refused}
use Rattle.lf_compile.specs.declared.refused.Refused.TheVariants as causes
use Rattle.lf_core.specs.declared.values.Value.{Value}
use Rattle.lf_format.specs.Shape.{Shape}
use Rattle.lf_words.specs.declared.command.Verb.{Verb}
use Rattle.lf_app.specs.declared.commands.Command.{Command}
use Rattle.lf_expression.specs.Exprs.{exprs_said}
use Rattle.lf_map.specs.Filling.{ParsesMap, IsMapOf, IsSo}
use Rattle.lf_map.specs.Shape.{MapShape}
use Rattle.lf_map.specs.declared.fault.MapFault.{MapFault}
use Rattle.lf_map.specs.declared.fault.MapFault.TheVariants as fault
use Rattle.lf_words.specs.declared.command.Verb.TheVariants as verbs
use Rattle.lf_app.specs.declared.commands.Command.TheVariants.{Lines}
use Rattle.lf_app.specs.declared.commands.Job.TheVariants as jobs
use Rattle.lf_app.specs.Commands.{IfAccepted, refused, IsRefusedFor, IsMapRefused, AsksToMap, unmapped, mapped}

cause_of : (format : Shape) (cause : Refused)
    → ((size : ℕ) → cause ≡ causes.TooLarge size → IsTooLarge format size)
    → ((rec : List Value) → cause ≡ causes.Hash rec → IsRefusedNote format rec)
    → ((confusion : Confusion) → cause ≡ causes.Ambiguous confusion → IsRefusedConfusion format confusion)
    → IsCauseOf format cause
cause_of format (causes.TooLarge size) a b d = a size refl
cause_of format (causes.Hash rec) a b d = b rec refl
cause_of format (causes.Ambiguous confusion) a b d = d confusion refl
cause_of format causes.OutOfMemory a b d = tt

-- A format that isn't compiled is refused.
pub refused_for : (v : Verb) (format : Shape) (one : Command) (cause : Refused)
    → ((size : ℕ) → cause ≡ causes.TooLarge size → IsTooLarge format size)
    → ((rec : List Value) → cause ≡ causes.Hash rec → IsRefusedNote format rec)
    → ((confusion : Confusion) → cause ≡ causes.Ambiguous confusion → IsRefusedConfusion format confusion)
    → (command : Command) → IsRefusedFor v cause command → IfAccepted v format one command
refused_for v format one cause a b d command h = refused cause (cause_of format cause a b d) h

-- A map that has a fault is refused.
pub map_refusal : (source target : Shape) (text : List ℕ) (f : MapFault) (command : Command) → IsSo (λ one. ParsesMap text source target (Err one)) f → IsMapRefused f command → AsksToMap (record { source = source; target = target; map = text }) command
map_refusal source target text (fault.Syntax n) command s h = unmapped (fault.Syntax n) s h
map_refusal source target text (fault.NoSlot n) command s h = unmapped (fault.NoSlot n) s h
map_refusal source target text (fault.Twice n) command s h = unmapped (fault.Twice n) s h
map_refusal source target text (fault.Untyped n) command s h = unmapped (fault.Untyped n) s h
map_refusal source target text (fault.Unfilled n) command s h = unmapped (fault.Unfilled n) s h
map_refusal source target text fault.OutOfMemory command s h = absurd h

-- By a map its source is asked whether it is accepted.
pub map_asks : (source target : Shape) (text : List ℕ) (map : MapShape) (command : Command) → IsMapOf text source target map → IfAccepted verbs.Translate source (Lines (jobs.Translate (record { source = source; target = target; map = text }))) command → AsksToMap (record { source = source; target = target; map = text }) command
map_asks source target text map command is h = mapped (exprs_said map.exprs) is.parses h
