use Rattle.std.proofs.Common.{◌≡◌, ◌<◌, ◌+◌, ◌-◌, ◌∙◌, ℕ, List, [], ◌∷◌, ◌++◌, arith, rules, ap, subst, length, length-append}
use Rattle.lf_core.specs.Marked.{Machine}
use Rattle.lf_core.specs.Written.{machine_of}
use Rattle.lf_product.specs.declared.pair.Pair.{Pair}
use Rattle.lf_product.specs.Walk.{SharesFrom, IsLevel, IsLeastOnward}
use Rattle.lf_product.proofs.WalkSteps.{Begins, begins_first, begins_more, least_word_is, level_from_next}
use Rattle.lf_product.proofs.walk.least_word.Goals as goal

pub loop-taken-init : goal.loop-taken-init
loop-taken-init c =
    let m : Machine = machine_of c.args.pairs.now in
    let whole : c.args.distance ≡ c.args.distance - 0 = omega arith in
    record {
      begins = rw c.new-word.ensures (begins_first m (c.args.distance - 0) c.args.level.items);
      is_level = subst (λ (k : ℕ). IsLevel m k c.args.level.items) whole c.requires;
      len = search rules;
    }

pub loop-taken-preserved : goal.loop-taken-preserved
loop-taken-preserved c =
    let m : Machine = machine_of c.args.pairs.now in
    let l = c.loop-taken in
    let k : ℕ = c.args.distance - (l.taken + 1) in
    let below : l.taken < c.args.distance = c.loop-taken-test.true in
    let one : c.args.distance - l.taken ≡ c.args.distance - (l.taken + 1) + 1 = omega arith in
    let less : c.args.distance - l.taken - 1 ≡ c.args.distance - (l.taken + 1) = omega arith in
    let byte = c.in_ok-onward.onward.byte in
    let next = c.in_ok-onward.onward.next.items in
    let on : IsLeastOnward m k l.now.items byte next =
    subst (λ (ps : List Pair). IsLeastOnward m k ps byte next) c.deref.ensures.value
    (subst (λ (n : ℕ). IsLeastOnward m n c.deref.result.now byte next) less c.in_ok-onward.ensures) in
    let start = SharesFrom m c.args.level.items in
    let begins : Begins m start l.word (k + 1) l.now.items = subst (λ (n : ℕ). Begins m start l.word n l.now.items) one l.invariant.begins in
    let is_level : IsLevel m (k + 1) l.now.items = subst (λ (n : ℕ). IsLevel m n l.now.items) one l.invariant.is_level in
    let word : c.push.new.self ≡ l.word ++ byte ∷ [] = c.in_ok-push.ensures.ok in
    record {
      begins = rw word (begins_more m start l.word k byte l.now.items next begins is_level on.from on.all on.none);
      is_level = level_from_next m k l.now.items byte next c.is_machine.ensures is_level.below on.some on.from;
      len = ap (λ (xs : List ℕ). length xs) word ∙ (let n = l.invariant.len in omega (arith, n, length-append l.word (byte ∷ [])));
    }

pub least_onward-requires : goal.least_onward-requires
least_onward-requires c =
    let m : Machine = machine_of c.args.pairs.now in
    let l = c.loop-taken in
    let below : l.taken < c.args.distance = c.loop-taken-test.true in
    let one : c.args.distance - l.taken ≡ c.args.distance - l.taken - 1 + 1 = omega arith in
    let level : IsLevel m (c.args.distance - l.taken - 1 + 1) l.now.items = subst (λ (n : ℕ). IsLevel m n l.now.items) one l.invariant.is_level in
    rw c.deref.ensures.value level

pub returns : goal.returns
returns c =
    let m : Machine = machine_of c.args.pairs.now in
    let l = c.loop-taken in
    let zero_left : c.args.distance - l.taken ≡ 0 = omega (arith, c.loop-taken-test.false) in
    let start = SharesFrom m c.args.level.items in
    let all : l.taken ≡ c.args.distance = search rules in
    least_word_is m c.args.distance c.args.level.items l.now.items l.word c.requires (l.invariant.len ∙ all)
    (subst (λ (n : ℕ). Begins m start l.word n l.now.items) zero_left l.invariant.begins)
    (subst (λ (n : ℕ). IsLevel m n l.now.items) zero_left l.invariant.is_level)
