use Rattle.std.proofs.Common.{◌≡◌, ℕ, ◌<◌, ◌≤◌, ◌∷◌, [], ◌∙◌, List, length, sym, ap, subst, arith}
use Rattle.std.proofs.lemmas.List.{get_or_default}
use Rattle.lf_tables.specs.declared.ways.Back.{Back}
use Rattle.lf_tables.specs.Ways.{no_back, to_at, GainsMoves}
use Rattle.lf_tables.proofs.WayLaws.{insert_gains, above_place}
use Rattle.lf_tables.proofs.ways.add.Goals as goal
use Rattle.lf_tables.proofs.ways.add.Goals.{then-at-len+else-index-back, else-at-len}

pub returns : goal.returns
returns c =
    let old : List Back = c.args.backs.now.items in
    let at : ℕ = c.place_for-at.result in
    let same : c.deref.result.now ≡ old = c.deref.ensures.value in
    let le : at ≤ length old = subst (λ (xs : List Back). at ≤ length xs) same c.place_for-at.ensures.within in
    let below : (k : ℕ) → k < at → to_at old k < c.args.back.step.to = subst (λ (xs : List Back). (k : ℕ) → k < at → to_at xs k < c.args.back.step.to) same c.place_for-at.ensures.below in
    let above : (k : ℕ) → at ≤ k → k < length old → c.args.back.step.to ≤ to_at old k = subst (λ (xs : List Back). (k : ℕ) → at ≤ k → k < length xs → c.args.back.step.to ≤ to_at xs k) same c.place_for-at.ensures.above in
    let other : at < length old → to_at old at ≡ c.args.back.step.to → ⊥ = λ lt e. elim c.if-at-len.branch [
      | then-at-len+else-index-back w ↦
          let read : w.index.result.now.step.to ≡ to_at old at = ap (λ (x : Back). x.step.to) (w.index.ensures ∙ get_or_default old at w.index.result.now no_back lt) in
          w.if-index-back.false (read ∙ e)
      | else-at-len w ↦ omega (arith, lt, w.if-at-len.false, c.len.ensures, c.args.backs.now.ok.0)
    ] in
    subst (λ (xs : List Back). GainsMoves c.args.back.before (c.args.back.step ∷ []) old xs) (sym c.in_ok-insert.ensures.items)
    (insert_gains old at c.args.back le c.requires below (above_place old at c.args.back.step.to c.requires above other))
