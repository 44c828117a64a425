use Rattle.std.proofs.Common.{◌≡◌, ℕ, inl, inr, List, [], ◌∷◌, ◌++◌, length, get_or, Option, sym, ap, ◌∙◌, subst, arith}
use Rattle.std.specs.List.{Contains}
use Rattle.std.proofs.lemmas.Bool.{cases_lt}
use Rattle.std.proofs.lemmas.List.{length-append, get_or_append_left}
use Rattle.std.proofs.Math.Seq.{get_or-append_seam}
use Rattle.lf_core.specs.Marked.{Machine}
use Rattle.lf_core.specs.Written.{machine_of}
use Rattle.lf_tables.specs.Tabled.{set_at, IsEndOf}
use Rattle.lf_tables.proofs.NumberLaws.{lists_of, list_at}
use Rattle.lf_tables.proofs.search.ends_of.Goals as goal

pub end_among-requires : goal.end_among-requires
end_among-requires c =
    let k : ℕ = c.loop-points.points-index in
    let is : c.deref.result.now ≡ set_at (lists_of c.args.lists.now) k = c.deref.ensures.value ∙ list_at c.args.lists.now k c.points-item.result c.loop-points-test.true c.points-item.is in
    λ p h. c.requires k p c.loop-points-test.true (subst (λ (xs : List ℕ). Contains xs p) is h)

pub loop-points-preserved : goal.loop-points-preserved
loop-points-preserved c =
    let m : Machine = machine_of c.args.table.now in
    let sets : List (List ℕ) = lists_of c.args.lists.now in
    let ends : List (Option ℕ) = c.loop-points.ends.items in
    let new : List (Option ℕ) = c.push.new.self.items in
    let end : Option ℕ = c.end_among.result in
    let k : ℕ = c.loop-points.points-index in
    let many : length ends ≡ k = c.loop-points.invariant.each in
    let pushed : new ≡ ends ++ end ∷ [] = c.in_ok-push.ensures.items in
    let is : c.deref.result.now ≡ set_at sets k = c.deref.ensures.value ∙ list_at c.args.lists.now k c.points-item.result c.loop-points-test.true c.points-item.is in
    let here : IsEndOf m (set_at sets k) end = subst (λ (ps : List ℕ). IsEndOf m ps end) is c.end_among.ensures in
    record {
      each = omega (arith, ap (λ (xs : List (Option ℕ)). length xs) pushed, length-append ends (end ∷ []), many);
      ended = λ s e lt at.
          let read : e ≡ get_or (ends ++ end ∷ []) s e = at ∙ ap (λ (xs : List (Option ℕ)). get_or xs s e) pushed in
          elim (cases_lt s k) [
            | inl old ↦ c.loop-points.invariant.ended s e old (read ∙ get_or_append_left ends (end ∷ []) e s (omega (arith, old, many)))
            | inr ge ↦
                let last : s ≡ length ends = omega (arith, lt, ge, many) in
                let same : e ≡ end = read ∙ ap (λ (i : ℕ). get_or (ends ++ end ∷ []) i e) last ∙ get_or-append_seam ends end [] e in
                subst (λ (i : ℕ). IsEndOf m (set_at sets i) e) (sym (last ∙ many)) (subst (λ (o : Option ℕ). IsEndOf m (set_at sets k) o) (sym same) here)
          ];
    }
