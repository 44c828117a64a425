-- The parts of a text that is cut at each space.
use Rattle.std.proofs.Common.{◌≡◌, ℕ, suc, ◌-◌, ◌<◌, ◌≤◌, List, [], ◌∷◌, None, Some, ap, ◌∙◌, arith}
use Rattle.std.specs.Prelude.{slice_get}
use Rattle.lf_syntax.specs.Cuts.{cuts, front_of, from_first, further_cuts}
use Rattle.lf_syntax.specs.FirstFaultLaws.{cuts-front}

pub first_part : (text : List ℕ) (k : ℕ) → k ≤ 1 → slice_get (cuts 32 text) (k - 1) ≡ Some (front_of 32 text)
first_part text k h =
    let i : k - 1 ≡ 0 = omega (arith, h) in
    ap (λ (j : ℕ). slice_get (cuts 32 text) j) i ∙ ap (λ (ps : List (List ℕ)). slice_get ps 0) (cuts-front 32 text)

module _ (text : List ℕ) (k : ℕ) (h : 1 < k) where
  after_first : slice_get (cuts 32 text) (k - 1) ≡ slice_get (further_cuts 32 (from_first 32 text)) (k - 2)
  after_first =
      let i : k - 1 ≡ suc (k - 2) = omega (arith, h) in
      ap (λ (j : ℕ). slice_get (cuts 32 text) j) i ∙ ap (λ (ps : List (List ℕ)). slice_get ps (suc (k - 2))) (cuts-front 32 text)

  pub no_part : from_first 32 text ≡ [] → slice_get (cuts 32 text) (k - 1) ≡ None
  no_part e = after_first ∙ ap (λ (w : List ℕ). slice_get (further_cuts 32 w) (k - 2)) e

  pub further_part : (x : ℕ) (more : List ℕ) → from_first 32 text ≡ x ∷ more → slice_get (cuts 32 text) (k - 1) ≡ slice_get (cuts 32 more) (k - 1 - 1)
  further_part x more e =
      let i : k - 2 ≡ k - 1 - 1 = omega (arith, h) in
      after_first ∙ ap (λ (w : List ℕ). slice_get (further_cuts 32 w) (k - 2)) e ∙ ap (λ (j : ℕ). slice_get (cuts 32 more) j) i
