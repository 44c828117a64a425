-- The sets for a line and for its rests.
use Rattle.std.proofs.Common.{◌≡◌, ℕ, ◌+◌, ◌-◌, ◌<◌, ◌≤◌, Vec, Bool, List, length, get_or, drop, sym, ap, ◌∙◌, subst, arith}
use Rattle.std.specs.declared.alloc.Global.{Global}
use Rattle.std.proofs.lemmas.List.{drop-drop, length-drop}
use Rattle.lf_core.specs.Marked.{Machine}
use Rattle.lf_witness.specs.Sets.{AreEnding, SetsFor}

-- the set for what follows the byte at this place
pub set_after : (m : Machine) (line : List ℕ) (sets : List (Vec Bool Global)) (i : ℕ) (v : Vec Bool Global) (set : List Bool) → SetsFor m line sets → i < length line → v ≡ get_or sets (length line - 1 - i) v → set ≡ v.items → AreEnding m (drop (i + 1) line) set
set_after m line sets i v set h lt is same =
    let at : length line - (length line - 1 - i) ≡ i + 1 = omega (arith, lt) in
    subst (λ (s : List Bool). AreEnding m (drop (i + 1) line) s) (sym same)
    (subst (λ (n : ℕ). AreEnding m (drop n line) v.items) at (h.each (length line - 1 - i) v (omega arith) is))

-- The sets for a line serve its rests.
pub sets_rest : (m : Machine) (line rest : List ℕ) (sets : List (Vec Bool Global)) (i : ℕ) → i ≤ length line → rest ≡ drop i line → SetsFor m line sets → SetsFor m rest sets
sets_rest m line rest sets i le is h =
    let short : length rest ≡ length line - i = ap length is ∙ length-drop i line in
    record {
      len = omega (arith, h.len, short);
      each = λ k set low e.
          let at : i + (length rest - k) ≡ length line - k = omega (arith, short, low) in
          let bytes : drop (length line - k) line ≡ drop (length rest - k) rest =
          sym (ap (drop (length rest - k)) is ∙ drop-drop (length rest - k) i line ∙ ap (λ n. drop n line) at) in
          subst (λ bs. AreEnding m bs set.items) bytes (h.each k set (omega (arith, short, low)) e);
    }
