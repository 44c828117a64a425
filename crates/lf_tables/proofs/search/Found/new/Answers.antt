use Rattle.std.proofs.Common.{◌≡◌, ℕ, List, [], ◌∷◌, sym, ap, ◌∙◌, subst, Vec, Global}
use Rattle.std.specs.Prelude.{MatchOption}
use Rattle.lf_core.specs.Marked.{Machine}
use Rattle.lf_core.specs.Written.{machine_of}
use Rattle.lf_tables.specs.Tabled.{cells_of}
use Rattle.lf_tables.specs.declared.ways.Back.{Back}
use Rattle.lf_tables.specs.Found.{AreFound, HasNumber, HasNoRoom}
use Rattle.lf_tables.proofs.NumberLaws.{lists_of}
use Rattle.lf_tables.proofs.FoundLaws.{first_found, first_number}
use Rattle.lf_tables.proofs.search.Found.new.Goals as goal

pub returns-clause-found : goal.returns-clause-found
returns-clause-found c =
    let m : Machine = machine_of c.args.table.now in
    let new : List (List ℕ) = lists_of c.number_of.new.self.lists.items in
    let none : lists_of c.new-sets.result.lists.items ≡ [] = ap (λ (xs : List (Vec ℕ Global)). lists_of xs) c.new-sets.ensures.none in
    let start : c.in_ok-points.points.items ≡ m.first ∷ [] = c.in_ok-points.ensures.items ∙ ap (λ (p : ℕ). p ∷ []) c.start.ensures in
    let said : MatchOption c.in_ok-number_of.field-0 (HasNoRoom (m.first ∷ []) []) (λ n. HasNumber (m.first ∷ []) n [] new) =
    subst (λ (old : List (List ℕ)). MatchOption c.in_ok-number_of.field-0 (HasNoRoom (m.first ∷ []) old) (λ n. HasNumber (m.first ∷ []) n old new)) none
    (subst (λ (ps : List ℕ). MatchOption c.in_ok-number_of.field-0 (HasNoRoom ps (lists_of c.new-sets.result.lists.items)) (λ n. HasNumber ps n (lists_of c.new-sets.result.lists.items) new)) start c.in_ok-number_of.ensures.number) in
    let (n, number) = first_number (m.first ∷ []) c.in_ok-number_of.field-0 new said in
    subst (λ (bs : List Back). AreFound m c.args.firsts.now new (cells_of c.new.result.items c.new-2.result.items) bs) (sym c.new-3.ensures.items)
    (subst (λ (ss : List ℕ). AreFound m c.args.firsts.now new (cells_of c.new.result.items ss) []) (sym c.new-2.ensures.items)
    (subst (λ (ns : List ℕ). AreFound m c.args.firsts.now new (cells_of ns []) []) (sym c.new.ensures.items) (first_found m c.args.firsts.now n new number)))
