use Rattle.std.proofs.Common.{◌≡◌, ℕ, arith, rules, [], inl, inr, subst, List}
use Rattle.std.specs.List.{Contains}
use Rattle.std.proofs.lemmas.Bool.{cases_lt}
use Rattle.std.proofs.lemmas.List.{nil_from_length}
use Rattle.lf_core.specs.Written.{machine_of}
use Rattle.lf_product.specs.declared.pair.Pair.{Pair}
use Rattle.lf_product.specs.Walk.{IsNextOf}
use Rattle.lf_product.proofs.Sweep.{contains_none}
use Rattle.lf_product.proofs.WalkSteps.{leads_on}
use Rattle.lf_product.proofs.walk.least_onward.Goals as goal

pub next_on-requires : goal.next_on-requires
next_on-requires c = c.requires.below

pub loop-byte-preserved : goal.loop-byte-preserved
loop-byte-preserved c =
    let empty : c.in_ok-next.next.items ≡ [] = nil_from_length c.in_ok-next.next.items (search rules) in
    λ b p lt n. elim (cases_lt b c.loop-byte.byte) [
      | inl low ↦ c.loop-byte.invariant b p low n
      | inr ge ↦
          let e : b ≡ c.loop-byte.byte = omega (arith, ge, lt) in
          contains_none p (subst (λ (ps : List Pair). Contains ps p) empty (c.in_ok-next.ensures.all p (subst (λ (k : ℕ). IsNextOf (machine_of c.args.pairs.now) c.args.steps c.args.level.now k p) e n)))
    ]

pub returns : goal.returns
returns c =
    let on = leads_on (machine_of c.args.pairs.now) c.args.steps c.args.level.now c.is_machine.ensures c.requires in
    absurd (c.loop-byte.invariant on.0 on.2.0 (omega (arith, on.1, c.loop-byte-test.false)) on.2.1)
