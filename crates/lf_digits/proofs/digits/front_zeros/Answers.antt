use Rattle.std.proofs.Common.{◌∙◌, ◌++◌, List, ℕ, drop, sym, ap}
use Rattle.std.specs.Prelude.{replicate}
use Rattle.std.proofs.lemmas.List.{take-append-drop}
use Rattle.lf_digits.proofs.DigitTexts.{front-zeros}
use Rattle.lf_digits.proofs.digits.front_zeros.Goals as goal

pub returns : goal.returns
returns c =
    let n : ℕ = c.zeros_len-zeros.result in
    let text : List ℕ = c.args.text.now in
    sym (take-append-drop n text)
    ∙ ap (λ (xs : List ℕ). xs ++ drop n text) (front-zeros n text c.zeros_len-zeros.ensures.within c.zeros_len-zeros.ensures.zeros)
    ∙ ap (λ (xs : List ℕ). replicate n 48 ++ xs) (sym c.split_at.ensures.back)
