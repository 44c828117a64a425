use Rattle.std.proofs.Common.{◌≡◌, ℕ, ◌<◌, List, [], ◌∷◌, ◌++◌, length, Vec, Global, Some, sym, ap, ◌∙◌, subst, arith, cond}
use Rattle.std.specs.BTreeMap as tree
use Rattle.std.specs.Cmp.Lexicographic.{slice_cmp}
use Rattle.std.specs.Ordering.{nat_cmp, is_eq}
use Rattle.lf_limits.specs.Limits.{most_sets}
use Rattle.lf_tables.specs.Found.{AreNumbered, HasNumber}
use Rattle.lf_tables.proofs.NumberLaws.{lists_of, push_lists, length_lists, known, no_room, added, has_next}
use Rattle.lf_tables.proofs.sets.Sets.number_of.Goals as goal

pub returns-in-Some-clause-number : goal.returns-in-Some-clause-number
returns-in-Some-clause-number c =
    known (λ (v : Vec ℕ Global). v.items) c.args.self.now.numbers (lists_of c.args.self.now.lists.items) c.args.points c.in-Some.number c.requires
    (sym c.get.ensures.value ∙ sym c.copied.ensures ∙ c.in-Some.is)

pub returns-then-next-ge-MOST_SETS-clause-number : goal.returns-then-next-ge-MOST_SETS-clause-number
returns-then-next-ge-MOST_SETS-clause-number c =
    let n : length (lists_of c.args.self.now.lists.items) ≡ length c.args.self.now.lists.items = length_lists c.args.self.now.lists.items in
    no_room (λ (v : Vec ℕ Global). v.items) c.args.self.now.numbers (lists_of c.args.self.now.lists.items) c.args.points c.requires
    (sym c.get.ensures.value ∙ sym c.copied.ensures ∙ c.in_default.is)
    (omega (arith, n, c.if-next-ge-MOST_SETS.true, c.len-next.ensures, c.args.self.now.lists.ok.0))

pub returns-clause-numbered : goal.returns-clause-numbered
returns-clause-numbered c =
    let sets : List (List ℕ) = lists_of c.args.self.now.lists.items in
    let n : length (lists_of c.args.self.now.lists.items) ≡ length c.args.self.now.lists.items = length_lists c.args.self.now.lists.items in
    let next : c.len-next.result ≡ length (lists_of c.args.self.now.lists.items) = omega (arith, n, c.len-next.ensures, c.args.self.now.lists.ok.0) in
    let room : length (lists_of c.args.self.now.lists.items) < most_sets = omega (arith, next, c.if-next-ge-MOST_SETS.false) in
    let copied : c.in_ok-copy.copy.items ≡ c.args.points.items = c.in_ok-copy.ensures ∙ c.deref.ensures.value in
    let lists : lists_of c.push.new.self.items ≡ sets ++ c.args.points.items ∷ [] = push_lists c.args.self.now.lists.items c.push.new.self.items c.in_ok-copy.copy c.args.points c.in_ok-push.ensures.items copied in
    subst (λ (xs : List (List ℕ)). AreNumbered (λ (v : Vec ℕ Global). v.items) c.insert.new.self xs) (sym lists)
    (added (λ (v : Vec ℕ Global). v.items) c.args.self.now.numbers sets c.insert.new.self c.args.points c.requires
    (sym c.get.ensures.value ∙ sym c.copied.ensures ∙ c.in_default.is) room
    (λ r. c.in_ok-insert.ensures.updates.0 r ∙ ap (λ (k : ℕ). cond (is_eq (slice_cmp nat_cmp c.args.points.items r.items)) (Some k) (tree.get (λ x y. slice_cmp nat_cmp x.items y.items) c.args.self.now.numbers r)) next))

pub returns-clause-number : goal.returns-clause-number
returns-clause-number c =
    let sets : List (List ℕ) = lists_of c.args.self.now.lists.items in
    let n : length (lists_of c.args.self.now.lists.items) ≡ length c.args.self.now.lists.items = length_lists c.args.self.now.lists.items in
    let next : c.len-next.result ≡ length (lists_of c.args.self.now.lists.items) = omega (arith, n, c.len-next.ensures, c.args.self.now.lists.ok.0) in
    let copied : c.in_ok-copy.copy.items ≡ c.args.points.items = c.in_ok-copy.ensures ∙ c.deref.ensures.value in
    let lists : lists_of c.push.new.self.items ≡ sets ++ c.args.points.items ∷ [] = push_lists c.args.self.now.lists.items c.push.new.self.items c.in_ok-copy.copy c.args.points c.in_ok-push.ensures.items copied in
    subst (λ (xs : List (List ℕ)). HasNumber c.args.points.items c.len-next.result sets xs) (sym lists)
    (subst (λ (k : ℕ). HasNumber c.args.points.items k sets (sets ++ c.args.points.items ∷ [])) (sym next) (has_next c.args.points.items sets))
