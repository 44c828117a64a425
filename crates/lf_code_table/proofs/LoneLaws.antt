-- Proper prefixes of one byte.
use Rattle.std.proofs.Common.{◌≡◌, ℕ, ◌+◌, inl, inr, List, [], ◌∷◌, ◌++◌, length, get_or, Option, None, ap, sym, ◌∙◌, arith}
use Rattle.std.proofs.Math.ListN.{get_or-append}
use Rattle.std.proofs.Math.Seq.{get_or-append_seam}
use Rattle.std.proofs.lemmas.List.{length-append}
use Rattle.std.proofs.lemmas.Bool.Decides.{leb_tells}
use Rattle.lf_code_table.specs.Lone.{HasFirsts}
use Rattle.lf_code_table.specs.Table.{index_of}

-- one more byte, and the number of its text behind the others
pub firsts-more : (table : List (List ℕ)) (firsts : List (Option ℕ)) (bound : ℕ) (number : Option ℕ) → HasFirsts table firsts bound → number ≡ index_of table (bound ∷ []) → HasFirsts table (firsts ++ number ∷ []) (bound + 1)
firsts-more table firsts bound number h e = record {
  many = length-append firsts (number ∷ []) ∙ ap (λ (k : ℕ). k + 1) h.many;
  each = λ byte l.
      elim (leb_tells bound byte) [
        | inl k ↦
            let z : byte ≡ length firsts = omega (arith, k.1, l, h.many) in
            let y : byte ≡ bound = omega (arith, z, h.many) in
            ap (λ (b : ℕ). get_or (firsts ++ number ∷ []) b None) z ∙ get_or-append_seam firsts number [] None ∙ e ∙ ap (λ (b : ℕ). index_of table (b ∷ [])) (sym y)
        | inr k ↦ get_or-append firsts (number ∷ []) None byte (omega (arith, k.1, h.many)) ∙ h.each byte k.1
      ];
}
