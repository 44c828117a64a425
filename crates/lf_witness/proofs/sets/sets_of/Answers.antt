use Rattle.std.proofs.Common.{◌≡◌, ℕ, arith, rules, ◌+◌, ◌-◌, ◌∙◌, ◌++◌, ◌∷◌, sym, ap, length, [], get_or, inl, inr, subst, List, Bool, drop}
use Rattle.std.specs.Prelude.{Vec}
use Rattle.std.specs.declared.alloc.Global.{Global}
use Rattle.std.proofs.lemmas.Bool.{cases_lt}
use Rattle.std.proofs.lemmas.List.{get_or_append_left, get_or_push}
use Rattle.lf_core.specs.Marked.{Machine, IsMachine}
use Rattle.lf_core.specs.Written.{machine_of}
use Rattle.lf_witness.specs.Sets.{AreEnding}
use Rattle.lf_witness.proofs.Endings.{sets_more}
use Rattle.lf_witness.proofs.sets.sets_of.Goals as goal

pub loop-k-preserved : goal.loop-k-preserved
loop-k-preserved c =
    let m : Machine = machine_of c.args.table.now in
    let lawful : IsMachine m = c.requires in
    let line : List ℕ = c.args.line.now in
    let old : length c.loop-k.sets.items ≡ c.loop-k.k + 1 = c.loop-k.invariant.len in
    let is : c.push-in-loop-k.new.self.items ≡ c.loop-k.sets.items ++ c.in_ok-set.set ∷ [] = search rules in
    let after : AreEnding m (drop (length line - c.loop-k.k) line) c.deref.result.now =
    subst (λ (s : List Bool). AreEnding m (drop (length line - c.loop-k.k) line) s) (sym c.deref.ensures.value)
    (c.loop-k.invariant.each c.loop-k.k c.index.result.now (omega arith) c.index.ensures) in
    record {
      len = search rules;
      each = λ j v le e. elim (cases_lt j (c.loop-k.k + 1)) [
        | inl lt ↦ c.loop-k.invariant.each j v (omega (arith, lt)) (e ∙ ap (λ (vs : List (Vec Bool Global)). get_or vs j v) is ∙ get_or_append_left c.loop-k.sets.items (c.in_ok-set.set ∷ []) v j (omega (arith, old, lt)))
        | inr ge ↦
            let q : c.loop-k.k + 1 ≡ j = omega (arith, ge, le) in
            let same : v ≡ c.in_ok-set.set = e ∙ ap (λ (vs : List (Vec Bool Global)). get_or vs j v) is ∙ get_or_push c.loop-k.sets.items c.in_ok-set.set v j (omega (arith, old, q)) in
            subst (λ (w : Vec Bool Global). AreEnding m (drop (length line - j) line) w.items) (sym same)
            (subst (λ (n : ℕ). AreEnding m (drop (length line - n) line) c.in_ok-set.set.items) q
            (sets_more m line c.loop-k.k c.deref.result.now c.in_ok-set.set.items lawful c.loop-k-test.true after c.in_ok-set.ensures))
      ];
    }
