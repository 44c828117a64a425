use Rattle.std.proofs.Common.{◌≡◌, ◌%◌, ◌∙◌, ℕ, [], get_or, length, sym, ap}
use Rattle.std.proofs.Math.Nat.{mod-one}
use Rattle.lf_code_table.specs.Prefixes.{index-there, table-root}
use Rattle.lf_code_table.specs.Table.{table_of}
use Rattle.lf_escape.specs.Codings.{coding_takes, coding_word}
use Rattle.lf_escape.specs.declared.coding.Coding.{Coding}
use Rattle.lf_format.specs.declared.slot.Slot.{Slot}
use Rattle.lf_machine.proofs.slot_part.SlotPart.read_at.Goals as goal

-- where there is one proper prefix, it is empty
only-root : (code : Coding) (point : ℕ) → length (table_of code) ≡ 1 → [] ≡ get_or (table_of code) (point % length (table_of code)) []
only-root code point h =
    let first : get_or (table_of code) 0 [] ≡ [] = (index-there (table_of code) [] 0 (table-root (coding_takes code) (coding_word code) 256)).1 in
    let place : point % length (table_of code) ≡ 0 = ap (λ (n : ℕ). point % n) h ∙ mod-one point in
    sym (ap (λ (n : ℕ). get_or (table_of code) n []) place ∙ first)

pub returns-then-width-eq1 : goal.returns-then-width-eq1
returns-then-width-eq1 c =
    let code = c.self.invariant.same ∙ ap (λ (s : Slot). s.code) c.self.view_is in
    only-root c.args.self.now.code c.args.point
    (sym (ap (λ (k : Coding). length (table_of k)) code) ∙ sym c.width-width.ensures.exact ∙ c.if-width-eq1.true)
