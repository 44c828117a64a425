use Rattle.std.proofs.Common.{◌≡◌, ◌∙◌, ◌<◌, ◌∷◌, [], List, ℕ, false, sym, ap, subst, arith, rules}
use Rattle.lf_core.specs.Marked.{Machine}
use Rattle.lf_core.specs.Written.{WrittenMachine, machine_of}
use Rattle.lf_product.specs.declared.pair.Pair.{Pair}
use Rattle.lf_product.specs.Distance.{IsDistance}
use Rattle.lf_product.specs.Walk.{IsLeast, IsLevel, IsLeastWord}
use Rattle.lf_witness.proofs.LeastLaws.{at_start, start_is_least, start_level, least_shared_is}
use Rattle.lf_witness.proofs.witness.least_line.Goals as goal

pub distance-requires-clause-left : goal.distance-requires-clause-left
distance-requires-clause-left c =
    let start = c.start-start.ensures ∙ ap (λ (w : WrittenMachine). w.start) c.table.ensures in
    let low = c.is_machine.ensures.begins in
    omega (arith, start, low)

pub distance-requires-clause-right : goal.distance-requires-clause-right
distance-requires-clause-right c =
    let start = c.start-start.ensures ∙ ap (λ (w : WrittenMachine). w.start) c.table.ensures in
    let low = c.is_machine.ensures.begins in
    omega (arith, start, low)

pub least_word-requires : goal.least_word-requires
least_word-requires c =
    let m : Machine = machine_of c.args.pairs.now in
    let start : c.start-start.result ≡ m.first = c.start-start.ensures ∙ ap (λ (w : WrittenMachine). w.start) c.table.ensures in
    let pushed : c.push.new.self.items ≡ record { left = c.start-start.result; right = c.start-start.result; differed = false } ∷ [] = search rules in
    let level : c.push.new.self.items ≡ at_start m ∷ [] = pushed ∙ ap (λ (s : ℕ). record { left = s; right = s; differed = false } ∷ []) start in
    let told : IsDistance m m.first m.first false c.distance.result = subst (λ (s : ℕ). IsDistance m s s false c.distance.result) start c.distance.ensures in
    let least : IsLeast m c.unwrap_or-distance.result (at_start m) = rw c.unwrap_or-distance.ensures (start_is_least m c.distance.result c.requires told) in
    subst (λ (ps : List Pair). IsLevel m c.unwrap_or-distance.result ps) (sym level) (start_level m c.unwrap_or-distance.result c.is_machine.ensures.begins least)

pub returns : goal.returns
returns c =
    let m : Machine = machine_of c.args.pairs.now in
    let start : c.start-start.result ≡ m.first = c.start-start.ensures ∙ ap (λ (w : WrittenMachine). w.start) c.table.ensures in
    let pushed : c.push.new.self.items ≡ record { left = c.start-start.result; right = c.start-start.result; differed = false } ∷ [] = search rules in
    let level : c.push.new.self.items ≡ at_start m ∷ [] = pushed ∙ ap (λ (s : ℕ). record { left = s; right = s; differed = false } ∷ []) start in
    least_shared_is m c.in_ok-line.line (subst (λ (ps : List Pair). IsLeastWord m ps c.in_ok-line.line) level c.in_ok-line.ensures)
