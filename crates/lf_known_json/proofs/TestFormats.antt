-- The formats of the tests.
use Rattle.std.proofs.Common.{◌≡◌, ℕ, List, [], ◌∷◌, refl, arith}
use Rattle.lf_format.specs.declared.format.Piece.{Piece}
use Rattle.lf_format.specs.declared.format.Piece.TheVariants as piece
use Rattle.lf_format.specs.declared.slot.Slot.{Slot}
use Rattle.lf_format.specs.Keeps.{KeepsSlot, KeepsFormat}

pub joined_keeps : (pieces : List Piece) (a b : Slot) (space : List ℕ) → pieces ≡ piece.Slot a ∷ piece.Literal space ∷ piece.Slot b ∷ [] → space ≡ 32 ∷ [] → KeepsSlot a → KeepsSlot b → KeepsFormat pieces
joined_keeps pieces a b space e f h k = rw (e, f) (record {
  each = (h, ((omega arith, refl), (k, tt)));
  joined = tt;
  some = λ none. cc;
  few = omega arith;
  short = omega arith;
})

pub four_keep : (pieces : List Piece) (a b c d : Slot) → pieces ≡ piece.Slot a ∷ piece.Slot b ∷ piece.Slot c ∷ piece.Slot d ∷ [] → KeepsSlot a → KeepsSlot b → KeepsSlot c → KeepsSlot d → KeepsFormat pieces
four_keep pieces a b c d e first second third fourth = rw e (record {
  each = (first, (second, (third, (fourth, tt))));
  joined = tt;
  some = λ none. cc;
  few = omega arith;
  short = omega arith;
})
