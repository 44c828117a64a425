-- A text without its last line feed.
use Rattle.std.proofs.Common.{◌≡◌, ℕ, ◌+◌, ◌-◌, ◌<◌, cond, eqb, ltb, List, [], ◌∷◌, ◌++◌, length, take, get_or, sym, ap, ◌∙◌, inl, inr, arith}
use Rattle.std.specs.Io.BufRead.{ends_with_byte, strip_last}
use Rattle.std.proofs.lemmas.Bool.{cases_Bool, and_parts, eqb-true, ltb-true}
use Rattle.std.proofs.lemmas.List.{take_more}
use Rattle.std.proofs.Math.Seq.{take-length}

-- A text that ends with no line feed is kept.
pub kept : (text : List ℕ) → ((front : List ℕ) → text ≡ front ++ 10 ∷ [] → ⊥) → text ≡ strip_last 10 text
kept text none = elim (cases_Bool (ends_with_byte 10 text)) [
  | inl e ↦
      let parts = and_parts (ltb 0 (length text)) (eqb (get_or text (length text - 1) 0) 10) e in
      let some : 0 < length text = ltb-true 0 (length text) parts.0 in
      let all : length text ≡ length text - 1 + 1 = omega (arith, some) in
      let cut : text ≡ take (length text - 1) text ++ get_or text (length text - 1) 0 ∷ [] =
      sym (take-length text) ∙ ap (λ (n : ℕ). take n text) all ∙ take_more text (length text - 1) 0 (omega (arith, some)) in
      absurd (none (take (length text - 1) text) (cut ∙ ap (λ (b : ℕ). take (length text - 1) text ++ b ∷ []) (eqb-true _ 10 parts.1)))
  | inr e ↦ sym (ap (λ v. cond v (take (length text - 1) text) text) e)
]
