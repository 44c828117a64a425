use Rattle.std.proofs.Common.{◌≡◌, Bool, true, false, ◌&&◌, ◌∙◌, refl, arith}
use Rattle.lf_enumerated.proofs.shapes.texts_of.Goals as goal

never : (b : Bool) → (b && false) ≡ false
never true = refl
never false = refl

pub returns : goal.returns
returns c = c.without.ensures 10 (omega arith) ∙ never _
