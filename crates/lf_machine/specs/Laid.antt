-- A slot by the numbers of its points, as its part in the machine computes them.
use Rattle.std.proofs.Common.{◌≡◌, ℕ, ◌*◌, ◌≤◌, ◌^◌, List, length, Bool}
use Rattle.lf_core.specs.declared.marked.Move.{Move}
use Rattle.lf_format.specs.Kinds.{kind_machine}
use Rattle.lf_escape.specs.declared.coding.Coding.{Coding}
use Rattle.lf_format.specs.declared.slot.Slot.{Slot as ASlot}
use Rattle.lf_machine.specs.SlotMoves.{at_moves, at_root, at_state}
use Rattle.lf_machine.specs.Pieces.{machine_of}
use Rattle.lf_code_table.specs.Table.{table_of}
use Rattle.lf_limits.specs.Limits.{most_size}

-- how many points a slot has among letters
abbrev pub slot_top : ASlot → ℕ
slot_top s = (kind_machine s.kind).count * length (table_of s.code)

-- the moves from a point of the domain's machine and what was read of a word
abbrev pub slot_steps : ASlot → ℕ → List ℕ → ℕ → List Move
slot_steps s q read byte = at_moves (machine_of s) q read byte

-- whether the letters may end at a point
abbrev pub slot_root : ASlot → ℕ → Bool
slot_root s n = at_root (machine_of s) (at_state (machine_of s) n)

-- What a slot's part keeps.
pub record IsSlotPart (s : ASlot) (code : Coding) (top : ℕ) : Type 0 where
  pub same : code ≡ s.code
  pub counted : top ≡ slot_top s
  pub few : top ≤ most_size
