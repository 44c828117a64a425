use Rattle.std.proofs.Common.{◌≡◌, ◌∙◌, ℕ, ◌<◌, ◌+◌, List, [], ◌∷◌, ◌++◌, length, get_or, sym, ap, subst, arith, refl, Vec, Global, inl, inr}
use Rattle.std.proofs.lemmas.Bool.{cases_lt}
use Rattle.std.proofs.lemmas.List.{length-append, get_or_append_left}
use Rattle.std.proofs.Math.Seq.{get_or-append_seam}
use Rattle.lf_core.specs.Marked.{Machine}
use Rattle.lf_core.specs.Written.{machine_of}
use Rattle.lf_tables.specs.Tabled.{set_at}
use Rattle.lf_tables.specs.Movers.{AreMovers}
use Rattle.lf_tables.proofs.NumberLaws.{lists_of, length_lists, push_lists}
use Rattle.lf_tables.proofs.movers.Movers.new.Goals as goal

pub loop-byte-preserved : goal.loop-byte-preserved
loop-byte-preserved c =
    let m : Machine = machine_of c.args.table.now in
    let i : ℕ = c.loop-byte.byte-index in
    let lists : List (Vec ℕ Global) = c.loop-byte.lists.items in
    let points : List ℕ = c.in_ok-points_before.field-0.items in
    let pushed : lists_of c.push.new.self.items ≡ lists_of lists ++ points ∷ [] =
    push_lists lists c.push.new.self.items c.in_ok-points_before.field-0 c.in_ok-points_before.field-0 c.in_ok-push.ensures.items refl in
    let many : length (lists_of lists) ≡ i = length_lists lists ∙ c.loop-byte.invariant.0 in
    let each : (k : ℕ) → k < i + 1 → AreMovers m (get_or c.args.firsts.now k 0) m.count (set_at (lists_of lists ++ points ∷ []) k) = λ k lt. elim (cases_lt k i) [
      | inl old ↦ subst (λ (xs : List ℕ). AreMovers m (get_or c.args.firsts.now k 0) m.count xs) (sym (get_or_append_left (lists_of lists) (points ∷ []) [] k (omega (arith, many, old)))) (c.loop-byte.invariant.1 k old)
      | inr new ↦
          let e : k ≡ length (lists_of lists) = omega (arith, many, lt, new) in
          let at : set_at (lists_of lists ++ points ∷ []) k ≡ points = ap (set_at (lists_of lists ++ points ∷ [])) e ∙ get_or-append_seam (lists_of lists) points [] [] in
          subst (λ (xs : List ℕ). AreMovers m (get_or c.args.firsts.now k 0) m.count xs) (sym at)
          (subst (λ (j : ℕ). AreMovers m (get_or c.args.firsts.now j 0) m.count points) (sym (e ∙ many)) c.in_ok-points_before.ensures)
    ] in (
      ap (λ (xs : List (Vec ℕ Global)). length xs) c.in_ok-push.ensures.items ∙ length-append lists (c.in_ok-points_before.field-0 ∷ []) ∙ ap (λ (n : ℕ). n + 1) c.loop-byte.invariant.0,
      λ k lt. subst (λ (ls : List (List ℕ)). AreMovers m (get_or c.args.firsts.now k 0) m.count (set_at ls k)) (sym pushed) (each k lt),
    )
