-- Where no item stands, its cause is read.
use Rattle.std.proofs.Common.{◌≡◌, ℕ, ◌≤◌, List, length, Option, Some, None, refl, sym, ap, subst, ◌∙◌, arith}
use Rattle.lf_spelling.specs.Items.{Reading, Failed}
use Rattle.lf_spelling.specs.declared.fault.Cause.{Cause}
use Rattle.lf_spelling.specs.declared.item_reader.Given.TheVariants.{Slot}
use Rattle.envoy_front.specs.declared.front.Envoy.{Envoy}
use Rattle.envoy_front.specs.declared.table.Sort.{Sort}
use Rattle.envoy_front.specs.Table.{sort_of}
use Rattle.envoy_front.specs.Command.{spelling, slot_of, name_of, after_name, tail_cause, sort_cause, cause_of}
use Rattle.envoy_front.specs.Items.{HasFault, line_feed, bad_command}
use Rattle.envoy_front.specs.Reading.{found, command_in, after_command, unless, on_sort, on_command, reading}
use Rattle.envoy_front.specs.AgainLaws.{percent_other}

unless_twice : (cause : Option Cause) (read : Reading Envoy) → unless cause read ≡ unless cause (unless cause read)
unless_twice None read = refl
unless_twice (Some cause) read = refl

sort_says : (text : List ℕ) (sort : Option Sort) → on_sort text sort ≡ unless (sort_cause sort (after_name text)) (on_sort text sort)
sort_says text None = refl
sort_says text (Some sort) = unless_twice (tail_cause sort (after_name text)) (found (spelling (command_in text)) (Slot (slot_of (command_in text) sort)) (after_command text))

pub command_fails : (text : List ℕ) (cause : Cause) → cause_of text ≡ Some cause → on_command text ≡ Failed cause
command_fails text cause is = sort_says text (sort_of (name_of text)) ∙ ap (λ (o : Option Cause). unless o (on_command text)) is

pub fails_again : (state : Envoy) (text : List ℕ) (cause : Cause) → HasFault text cause → (1 ≤ length text) × (reading state text ≡ Failed cause)
fails_again state text cause (line_feed after is c) = subst (λ (t : List ℕ). (1 ≤ length t) × (reading state t ≡ Failed cause)) (sym is) (omega arith, ap (λ (x : Cause). Failed x) (sym c))
fails_again state text cause (bad_command after is other c) = subst (λ (t : List ℕ). (1 ≤ length t) × (reading state t ≡ Failed cause)) (sym is) (omega arith, percent_other after other ∙ command_fails after cause c)
