use Rattle.std.proofs.Common.{◌≡◌, ◌∙◌, ℕ, List, None, ap, subst}
use Rattle.lf_core.specs.declared.marked.Move.{Move}
use Rattle.lf_core.specs.Marked.{Machine}
use Rattle.lf_core.specs.Written.{WrittenMachine, machine_of, moves_at}
use Rattle.lf_witness.specs.Heads.{IsNearest}
use Rattle.lf_witness.proofs.HeadLaws.{AreFirsts, firsts_are, firsts_level, least_tail_is, headed_none}
use Rattle.lf_witness.proofs.heads.least_tail.Goals as goal

pub returns-in_default : goal.returns-in_default
returns-in_default c =
    let m : Machine = machine_of c.args.pairs.now in
    let start : c.start-start.result ≡ m.first = c.start-start.ensures ∙ ap (λ (w : WrittenMachine). w.start) c.table-table.ensures in
    let moves : c.moves.result.now ≡ m.moves m.first c.args.first = c.moves.ensures ∙ ap (λ (w : WrittenMachine). moves_at w c.start-start.result c.args.first) c.table-table.ensures ∙ ap (λ (p : ℕ). m.moves p c.args.first) start in
    headed_none m c.args.first (subst (λ (xs : List Move). IsNearest m xs None) moves c.in_default.ensures)

pub least_word-requires : goal.least_word-requires
least_word-requires c =
    let m : Machine = machine_of c.args.pairs.now in
    let start : c.start-start.result ≡ m.first = c.start-start.ensures ∙ ap (λ (w : WrittenMachine). w.start) c.table-table.ensures in
    let moves : c.moves.result.now ≡ m.moves m.first c.args.first = c.moves.ensures ∙ ap (λ (w : WrittenMachine). moves_at w c.start-start.result c.args.first) c.table-table.ensures ∙ ap (λ (p : ℕ). m.moves p c.args.first) start in
    let level = c.in_ok-level.level.items in
    let firsts : AreFirsts m c.args.first c.in-Some.left level = firsts_are m c.args.first c.in-Some.left c.start-start.result c.moves.result.now level start moves c.in-Some.ensures c.in_ok-level.ensures.from c.in_ok-level.ensures.all in
    firsts_level m c.args.first c.in-Some.left level c.is_machine.ensures firsts

pub returns : goal.returns
returns c =
    let m : Machine = machine_of c.args.pairs.now in
    let start : c.start-start.result ≡ m.first = c.start-start.ensures ∙ ap (λ (w : WrittenMachine). w.start) c.table-table.ensures in
    let moves : c.moves.result.now ≡ m.moves m.first c.args.first = c.moves.ensures ∙ ap (λ (w : WrittenMachine). moves_at w c.start-start.result c.args.first) c.table-table.ensures ∙ ap (λ (p : ℕ). m.moves p c.args.first) start in
    let level = c.in_ok-level.level.items in
    let firsts : AreFirsts m c.args.first c.in-Some.left level = firsts_are m c.args.first c.in-Some.left c.start-start.result c.moves.result.now level start moves c.in-Some.ensures c.in_ok-level.ensures.from c.in_ok-level.ensures.all in
    least_tail_is m c.args.first c.in-Some.left level c.in_ok-tail.tail c.is_machine.ensures firsts c.in_ok-tail.ensures
