-- A directive is taken apart: the parts together are the text.
use Rattle.std.proofs.Common.{◌≡◌, ℕ, true, false, cond, eqb, List, [], ◌∷◌, ◌++◌, refl, ap}
use Rattle.lf_spelling.specs.Runs.{run, past}
use Rattle.lf_spelling.specs.RunLaws.{run_join}
use Rattle.apache_front.specs.Directive.{is_flag, is_angle, flags_of, after_flags, side_of, after_side}

pub flags_join : (text : List ℕ) → flags_of text ++ after_flags text ≡ text
flags_join [] = refl
flags_join (b ∷ text) = elim (eqb b 33) as (λ v. cond v (b ∷ run is_flag text) (run is_flag (b ∷ text)) ++ cond v (past is_flag text) (past is_flag (b ∷ text)) ≡ b ∷ text) [ true ↦ ap (λ (t : List ℕ). b ∷ t) (run_join is_flag text) | false ↦ run_join is_flag (b ∷ text) ]

pub side_join : (text : List ℕ) → side_of text ++ after_side text ≡ text
side_join [] = refl
side_join (b ∷ text) = elim (is_angle b) as (λ v. cond v (b ∷ []) [] ++ cond v text (b ∷ text) ≡ b ∷ text) [ true ↦ refl | false ↦ refl ]
