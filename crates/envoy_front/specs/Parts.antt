-- A command is taken apart: the parts together are the text, and each is as it should be.
use Rattle.std.proofs.Common.{◌≡◌, ℕ, Bool, true, false, cond, not, eqb, List, [], ◌∷◌, ◌++◌, Option, Some, None, refl, sym, ap, ◌∙◌, inl, inr}
use Rattle.std.specs.Prelude.{IfSome}
use Rattle.std.specs.List.{list_all}
use Rattle.std.proofs.lemmas.Bool.{eqb-true, cases_Bool}
use Rattle.lf_spelling.specs.Runs.{run, past}
use Rattle.lf_spelling.specs.RunLaws.{run_join, run_all}
use Rattle.lf_spelling.specs.Texts.{is_digit, begins_with, without_first}
use Rattle.lf_spelling.specs.Enclosed.{enclosed, is_unclosed}
use Rattle.lf_spelling.specs.EnclosedLaws.{enclosed_parts}
use Rattle.lf_spelling.specs.declared.fault.Cause.{Cause}
use Rattle.lf_spelling.specs.declared.fault.Cause.TheVariants.{Unclosed, BadName, BadLength}
use Rattle.envoy_front.specs.declared.table.Sort.{Sort}
use Rattle.envoy_front.specs.Table.{takes, takes_length}
use Rattle.envoy_front.specs.Command.{is_upper, counted, name_of, after_name, argument_of, after_argument, length_of, after_length, tail_cause}

-- a length after a colon, or none
pub record IsCounted (rest : List ℕ) (length : Option (List ℕ)) (after : List ℕ) : Type 0 where
  pub parts : rest ≡ counted length ++ after
  pub digits : IfSome length (λ d. list_all is_digit d ≡ true)

pub length_parts : (rest : List ℕ) → IsCounted rest (length_of rest) (after_length rest)
length_parts [] = record { parts = refl; digits = tt }
length_parts (b ∷ text) = elim (cases_Bool (eqb b 58)) [
  | inl e ↦
      let one : b ≡ 58 = eqb-true b 58 e in
      let here : IsCounted (b ∷ text) (Some (run is_digit text)) (past is_digit text) =
      record { parts = ap (λ (n : ℕ). n ∷ text) one ∙ ap (λ (t : List ℕ). 58 ∷ t) (sym (run_join is_digit text)); digits = run_all is_digit text } in
      rw e here
  | inr e ↦ let here : IsCounted (b ∷ text) None (b ∷ text) = record { parts = refl; digits = tt } in rw e here
]

-- Nothing is wrong with what follows the name.
pub record IsGood (sort : Sort) (tail : List ℕ) : Type 0 where
  pub closed : is_unclosed 40 41 tail ≡ false
  pub taken : takes sort (argument_of tail) ≡ true
  pub sized : takes_length sort (length_of (after_argument tail)) ≡ true
  pub ended : begins_with 37 (after_length (after_argument tail)) ≡ true

-- the first of four tests that fails
abbrev pub four_tests : Bool → Bool → Bool → Bool → Option Cause
four_tests unclosed taken sized ended = cond unclosed (Some Unclosed) (cond (not taken) (Some BadName) (cond (not sized) (Some BadLength) (cond (not ended) (Some Unclosed) None)))

four_good : (u t l e : Bool) → four_tests u t l e ≡ None → (u ≡ false) × (t ≡ true) × (l ≡ true) × (e ≡ true)
four_good true t l e h = absurd cc
four_good false false l e h = absurd cc
four_good false true false e h = absurd cc
four_good false true true false h = absurd cc
four_good false true true true h = (refl, refl, refl, refl)

pub good_tail : (sort : Sort) (tail : List ℕ) → tail_cause sort tail ≡ None → IsGood sort tail
good_tail sort tail h =
    let four = four_good (is_unclosed 40 41 tail) (takes sort (argument_of tail)) (takes_length sort (length_of (after_argument tail))) (begins_with 37 (after_length (after_argument tail))) h in
    record { closed = four.0; taken = four.1; sized = four.2; ended = four.3 }

begun : (text : List ℕ) → begins_with 37 text ≡ true → text ≡ 37 ∷ without_first text
begun [] h = absurd cc
begun (b ∷ text) h = ap (λ (n : ℕ). n ∷ text) (eqb-true b 37 h)

-- The text is the name, the argument, the length, a percent sign and what follows.
pub text_parts : (sort : Sort) (text : List ℕ) → IsGood sort (after_name text)
    → text ≡ name_of text ++ (enclosed 40 41 (argument_of (after_name text)) ++ (counted (length_of (after_argument (after_name text))) ++ 37 ∷ without_first (after_length (after_argument (after_name text)))))
text_parts sort text good =
    let tail : List ℕ = after_name text in
    let rest : List ℕ = after_argument (after_name text) in
    let end = begun (after_length (after_argument (after_name text))) good.ended in
    let whole : after_argument (after_name text) ≡ counted (length_of (after_argument (after_name text))) ++ 37 ∷ without_first (after_length (after_argument (after_name text))) =
    (length_parts (after_argument (after_name text))).parts ∙ ap (λ (t : List ℕ). counted (length_of (after_argument (after_name text))) ++ t) end in
    sym (run_join is_upper text) ∙ ap (λ (t : List ℕ). run is_upper text ++ t) ((enclosed_parts 40 41 (after_name text) good.closed).parts ∙ ap (λ (t : List ℕ). enclosed 40 41 (argument_of (after_name text)) ++ t) whole)
