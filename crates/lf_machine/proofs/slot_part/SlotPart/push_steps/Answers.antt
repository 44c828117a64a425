use Rattle.std.proofs.Common.{◌≡◌, ◌∙◌, ◌++◌, ◌∷◌, [], length, ap, sym, List, ℕ}
use Rattle.std.specs.List.{flat_map}
use Rattle.lf_core.specs.declared.marked.Move.{Move}
use Rattle.lf_escape.specs.Codings.{coding_takes, coding_word}
use Rattle.lf_format.specs.Kinds.{kind_machine}
use Rattle.lf_escape.specs.declared.coding.Coding.{Coding}
use Rattle.lf_format.specs.declared.slot.Slot.{Slot}
use Rattle.lf_code_table.specs.Endings.{letters_ending}
use Rattle.lf_code_table.specs.Lone.{lone_of}
use Rattle.lf_code_table.specs.Table.{table_of, index_of}
use Rattle.lf_machine.specs.SlotMoves.{inner_move}
use Rattle.lf_machine.specs.LetterMoves.{end_move, one_letter, letter_moves}
use Rattle.lf_machine.proofs.LetterMoveLaws.{length-none, letters-moves, lone-moves}
use Rattle.lf_machine.proofs.Placed.{put-both}
use Rattle.lf_machine.proofs.slot_part.SlotPart.push_steps.Goals as goal

pub returns : goal.returns
returns c =
    let code = ap (λ (k : Coding). letters_ending (coding_takes k) (coding_word k) c.args.byte 256) (c.self.invariant.same ∙ ap (λ (s : Slot). s.code) c.self.view_is) in
    let one : ℕ → List Move = one_letter (coding_takes c.args.self.now.code) (coding_word c.args.self.now.code) ((kind_machine c.args.self.now.kind).next c.args.state) 3 (length (table_of c.args.self.now.code)) (c.args.read.now ++ c.args.byte ∷ []) in
    let listed = letters-moves (coding_takes c.args.self.now.code) (coding_word c.args.self.now.code) ((kind_machine c.args.self.now.kind).next c.args.state) (length (table_of c.args.self.now.code)) c.args.read.now c.args.byte in
    record {
      ok = put-both c.args.aim.now c.args.into.now.items c.push_inner.new.into.items c.push_letters.new.into.items
          (inner_move (length (table_of c.args.self.now.code)) c.args.state (index_of (table_of c.args.self.now.code) (c.args.read.now ++ c.args.byte ∷ [])))
          (flat_map one c.ending.result.now)
          (letter_moves (coding_takes c.args.self.now.code) (coding_word c.args.self.now.code) ((kind_machine c.args.self.now.kind).next c.args.state) 3 (length (table_of c.args.self.now.code)) (c.args.read.now ++ c.args.byte ∷ []) 256)
          c.in_ok-push_inner.ensures.ok c.in_ok-push_letters.ensures.ok (ap (flat_map one) (c.ending.ensures ∙ code) ∙ sym listed);
    }

pub returns-then-is_empty : goal.returns-then-is_empty
returns-then-is_empty c =
    let code = c.self.invariant.same ∙ ap (λ (s : Slot). s.code) c.self.view_is in
    let takes = coding_takes c.args.self.now.code in
    let word = coding_word c.args.self.now.code in
    let next = (kind_machine c.args.self.now.kind).next c.args.state in
    let width = length (table_of c.args.self.now.code) in
    let none : c.args.read.now ≡ [] = length-none c.args.read.now (sym c.is_empty.ensures ∙ c.if-is_empty.true) in
    let alone : c.lone.result.now ≡ lone_of takes word (letters_ending takes word c.args.byte 256) =
    c.lone.ensures ∙ ap (λ (k : Coding). lone_of (coding_takes k) (coding_word k) (letters_ending (coding_takes k) (coding_word k) c.args.byte 256)) code in
    let moved : flat_map (end_move next 3 width) c.lone.result.now ≡ letter_moves takes word next 3 width (c.args.read.now ++ c.args.byte ∷ []) 256 =
    ap (flat_map (end_move next 3 width)) alone
    ∙ sym (lone-moves takes word next width c.args.byte)
    ∙ ap (λ (read : List ℕ). letter_moves takes word next 3 width (read ++ c.args.byte ∷ []) 256) (sym none) in
    record {
      ok = put-both c.args.aim.now c.args.into.now.items c.push_inner.new.into.items c.push_ends.new.into.items
          (inner_move width c.args.state (index_of (table_of c.args.self.now.code) (c.args.read.now ++ c.args.byte ∷ [])))
          (flat_map (end_move next 3 width) c.lone.result.now)
          (letter_moves takes word next 3 width (c.args.read.now ++ c.args.byte ∷ []) 256)
          c.in_ok-push_inner.ensures.ok c.in_ok-push_ends.ensures.ok moved;
    }
