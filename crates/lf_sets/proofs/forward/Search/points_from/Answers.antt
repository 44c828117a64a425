use Rattle.std.proofs.Common.{◌≡◌, ℕ, ◌<◌, ◌≤◌, ◌∙◌, inl, inr, List, [], ◌∷◌, ◌++◌, length, sym, ap, subst, arith}
use Rattle.std.specs.List.{Contains}
use Rattle.std.proofs.lemmas.Bool.{cases_lt}
use Rattle.std.proofs.lemmas.List.{get_or_default}
use Rattle.std.proofs.lemmas.List.Elements.{Contains-append_left, Contains-append_right, Contains-append_cases}
use Rattle.lf_sets.specs.declared.forest.Node.{Node}
use Rattle.lf_sets.specs.Forests.{no_node, point_at}
use Rattle.lf_sets.proofs.Runs.{only_one, is_one}
use Rattle.lf_sets.proofs.forward.Search.points_from.Goals as goal

pub loop-at-preserved : goal.loop-at-preserved
loop-at-preserved c =
    let nodes : List Node = c.args.self.now.forest.nodes.items in
    let points : List ℕ = c.loop-at.points.items in
    let at : ℕ = c.loop-at.at in
    let n : c.len-at-end.result ≡ length nodes = c.len-at-end.ensures ∙ c.args.self.now.forest.nodes.ok.0 in
    let low : at < length nodes = omega (arith, n, c.loop-at-test.true) in
    let point : c.index.result.now.point ≡ point_at nodes at = ap (λ (x : Node). x.point) (c.index.ensures ∙ get_or_default nodes at c.index.result.now no_node low) in
    let is : c.push.new.self.items ≡ points ++ point_at nodes at ∷ [] = c.in_ok-push.ensures.items ∙ ap (λ (p : ℕ). points ++ p ∷ []) point in
    record {
      has = λ p h. elim (Contains-append_cases points (point_at nodes at ∷ []) p (subst (λ (xs : List ℕ). Contains xs p) is h)) [
        | inl before ↦
            let (place, from, lt, e) = c.loop-at.invariant.has p before in
            (place, from, omega (arith, lt), e)
        | inr last ↦ (at, c.loop-at.auto.at, omega arith, only_one p (point_at nodes at) last)
      ];
      all = λ place from lt. elim (cases_lt place at) [
        | inl before ↦
            subst (λ (xs : List ℕ). Contains xs (point_at nodes place)) (sym is)
            (Contains-append_left points (point_at nodes at ∷ []) (point_at nodes place) (c.loop-at.invariant.all place from before))
        | inr last ↦
            let q : at ≡ place = omega (arith, lt, last) in
            subst (λ (xs : List ℕ). Contains xs (point_at nodes place)) (sym is)
            (Contains-append_right points (point_at nodes at ∷ []) (point_at nodes place)
            (subst (λ (k : ℕ). Contains (point_at nodes at ∷ []) (point_at nodes k)) q (is_one (point_at nodes at))))
      ];
    }

pub returns : goal.returns
returns c =
    let nodes : List Node = c.args.self.now.forest.nodes.items in
    let n : c.len-at-end.result ≡ length nodes = c.len-at-end.ensures ∙ c.args.self.now.forest.nodes.ok.0 in
    let within : c.args.level ≤ length nodes = c.requires in
    let end : c.loop-at.at ≤ c.len-at-end.result = c.loop-at.auto.at-end (omega (arith, n, within)) in
    λ p. (
      λ h.
          let (place, from, lt, e) = c.loop-at.invariant.has p h in
          (place, from, omega (arith, lt, end, n), e),
      λ h.
          let (place, from, lt, e) = h in
          subst (λ (q : ℕ). Contains c.loop-at.points.items q) e (c.loop-at.invariant.all place from (omega (arith, lt, n, c.loop-at-test.false))),
    )
