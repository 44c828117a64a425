use Rattle.std.proofs.Common.{◌≡◌, ◌<◌, ◌∷◌, [], length, None, sym, subst, ◌∙◌, arith}
use Rattle.std.proofs.lemmas.List.{get_or_default}
use Rattle.lf_escape.specs.declared.coding.Coding.{Coding}
use Rattle.lf_code_table.specs.Table.{table_of, index_of}
use Rattle.lf_code_table.specs.Prefixes.{index-there}
use Rattle.lf_code_table.proofs.code_table.CodeTable.number_of.Goals as goal

pub returns-then-is_empty-clause-within : goal.returns-then-is_empty-clause-within
returns-then-is_empty-clause-within c = λ x e.
    let many = c.self.invariant.first.many in
    let small : c.args.byte < 256 = c.ranges.byte.fits in
    let is : c.index.result.now ≡ index_of (table_of c.self.inside.code) (c.args.byte ∷ []) =
    c.index.ensures ∙ get_or_default c.self.inside.firsts.items c.args.byte c.index.result.now None (omega (arith, many, small)) ∙ c.self.invariant.first.each c.args.byte small in
    let there = index-there (table_of c.self.inside.code) (c.args.byte ∷ []) x (sym is ∙ e) in
    subst (λ (k : Coding). x < length (table_of k)) c.self.view_is there.0
