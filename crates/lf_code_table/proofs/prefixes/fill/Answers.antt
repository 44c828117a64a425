use Rattle.std.proofs.Common.{◌≡◌, ℕ, ◌∙◌, ◌+◌, List, [], cond, sym, ap, arith}
use Rattle.lf_code_table.specs.Table.{prefix_table, with_prefixes}
use Rattle.lf_code_table.proofs.TableSteps.{table_none, table_more}
use Rattle.lf_code_table.proofs.prefixes.fill.Goals as goal

pub loop-letter-init : goal.loop-letter-init
loop-letter-init g c = c.requires ∙ sym (table_none (g.C.Code.can_take c.args.code.now) (g.C.Code.word c.args.code.now))

pub loop-letter-preserved : goal.loop-letter-preserved
loop-letter-preserved g c =
    c.in_ok-add_letter.ensures
    ∙ ap (λ (t : List (List ℕ)). cond (g.C.Code.can_take c.args.code.now c.loop-letter.letter) (with_prefixes t [] (g.C.Code.word c.args.code.now c.loop-letter.letter)) t) c.loop-letter.invariant
    ∙ table_more (g.C.Code.can_take c.args.code.now) (g.C.Code.word c.args.code.now) c.loop-letter.letter

pub returns-in_ok-add_letter : goal.returns-in_ok-add_letter
returns-in_ok-add_letter g c =
    let e : c.loop-letter.letter + 1 ≡ 256 = omega arith in
    c.in_ok-add_letter.ensures
    ∙ ap (λ (t : List (List ℕ)). cond (g.C.Code.can_take c.args.code.now c.loop-letter.letter) (with_prefixes t [] (g.C.Code.word c.args.code.now c.loop-letter.letter)) t) c.loop-letter.invariant
    ∙ table_more (g.C.Code.can_take c.args.code.now) (g.C.Code.word c.args.code.now) c.loop-letter.letter
    ∙ ap (prefix_table (g.C.Code.can_take c.args.code.now) (g.C.Code.word c.args.code.now)) e
