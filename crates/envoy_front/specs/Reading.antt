-- What a reader finds at the start of a text.
use Rattle.std.specs.Prelude.{ℕ, ◌==◌, Result, List, [], ◌∷◌, Option, Some, None, if◌then◌else◌}
use Rattle.lf_spelling.specs.Items.{Item, Reading, Found, Failed}
use Rattle.lf_spelling.specs.ItemReaders.{GivesItem}
use Rattle.lf_spelling.specs.Texts.{without_first}
use Rattle.lf_spelling.specs.declared.fault.Cause.{Cause}
use Rattle.lf_spelling.specs.declared.fault.Cause.TheVariants.{LineBreak, EmptyFormat, UnknownName}
use Rattle.lf_spelling.specs.declared.fault.ItemFault.{ItemFault}
use Rattle.lf_spelling.specs.declared.item_reader.Taken.{Taken}
use Rattle.lf_spelling.specs.declared.item_reader.Given.{Given}
use Rattle.lf_spelling.specs.declared.item_reader.Given.TheVariants.{Byte, Slot}
use Rattle.envoy_front.specs.declared.front.Envoy.{Envoy}
use Rattle.envoy_front.specs.declared.table.Sort.{Sort}
use Rattle.envoy_front.specs.Table.{sort_of}
use Rattle.envoy_front.specs.Command.{Command, spelling, slot_of, name_of, after_name, argument_of, after_argument, length_of, after_length, tail_cause}
use Rattle.envoy_front.specs.Items.{IsItem, HasFault}

-- an item that leaves the only state
abbrev pub found : List ℕ → Given → List ℕ → Reading Envoy
found bytes given after = Found (record { bytes = bytes; given = given; state = record {} }) after

-- the command at the start, by what follows its percent sign
abbrev pub command_in : List ℕ → Command
command_in text = record { name = name_of text; argument = argument_of (after_name text); length = length_of (after_argument (after_name text)) }

-- what follows the command
abbrev pub after_command : List ℕ → List ℕ
after_command text = without_first (after_length (after_argument (after_name text)))

-- a cause, or what is read where there is none
abbrev pub unless : Option Cause → Reading Envoy → Reading Envoy
unless None read = read
unless (Some cause) read = Failed cause

-- by the sort of the name
abbrev pub on_sort : List ℕ → Option Sort → Reading Envoy
on_sort text None = Failed UnknownName
on_sort text (Some sort) = unless (tail_cause sort (after_name text)) (found (spelling (command_in text)) (Slot (slot_of (command_in text) sort)) (after_command text))

-- by what follows the percent sign of a command
abbrev pub on_command : List ℕ → Reading Envoy
on_command text = on_sort text (sort_of (name_of text))

-- by what follows a percent sign
abbrev pub on_percent : List ℕ → Reading Envoy
on_percent [] = on_command []
on_percent (c ∷ text) = if c == 37 then found (37 ∷ 37 ∷ []) (Byte 37) text else on_command (c ∷ text)

-- what is found at the start of a text
abbrev pub reading : Envoy → List ℕ → Reading Envoy
reading envoy [] = Failed EmptyFormat
reading envoy (b ∷ text) =
    if b == 10 then Failed LineBreak else
    if b == 37 then on_percent text else
    found (b ∷ []) (Byte b) text

-- The item stands before these bytes.
abbrev pub item_is : Envoy → Item Envoy → List ℕ → Type 0
item_is envoy item after = IsItem item.bytes item.given

-- No item stands at the start of these bytes, for this cause.
abbrev pub fault_is : Envoy → List ℕ → Cause → Type 0
fault_is envoy text cause = HasFault text cause

-- What reading an item answers.
abbrev pub Gives : Reading Envoy → List ℕ → Result Taken ItemFault → Type 0
Gives read rest result = GivesItem read (record {}) rest result
