-- The plain code writes each letter as itself.
use Rattle.std.proofs.Common.{◌≡◌, ℕ, List, [], ◌∷◌, refl, ◌∙◌, ap}
use Rattle.lf_escape.specs.Codes.{coded}
use Rattle.lf_escape.specs.Plain.{raw_word}
use Rattle.lf_escape.specs.declared.coding.Coding.{Coding}
use Rattle.lf_escape.specs.declared.coding.Coding.TheVariants as coding
use Rattle.lf_escape.specs.Codings.{coding_word}

coded-raw : (letters : List ℕ) → coded raw_word letters ≡ letters
coded-raw [] = refl
coded-raw (b ∷ bs) = ap (λ (w : List ℕ). b ∷ w) (coded-raw bs)

pub raw-coded : (code : Coding) (letters : List ℕ) → code ≡ coding.Raw → coded (coding_word code) letters ≡ letters
raw-coded code letters e = ap (λ (c : Coding). coded (coding_word c) letters) e ∙ coded-raw letters
