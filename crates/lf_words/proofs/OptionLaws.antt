-- Options in a list of words.
use Rattle.std.proofs.Common.{◌≡◌, ℕ, List, [], ◌∷◌, ◌≤◌, Option, None, Some, Bool, true, false, arith, sym, ◌∙◌, ap, length, get_or, drop, subst, Bor, option_copied, is_some, codes, refl}
use Rattle.std.specs.Prelude.{◌⊎◌}
use Rattle.std.proofs.Common.{inl, inr}
use Rattle.std.proofs.lemmas.Bool.{cases_Bool}
use Rattle.lf_words.specs.Command.{Given, value_of, has_option, option_words, AreOptionsOf, IsJobs, IsDash}
use Rattle.lf_words.specs.Reading.{pairs, AreOptionWords, IsNoJobs, IsNoDash}
use Rattle.lf_words.specs.declared.command.Verb.{Verb}

pub words_pair : (ws : List (List ℕ)) (a : List ℕ) → 2 ≤ length ws → a ≡ get_or ws 0 a → ws ≡ a ∷ get_or ws 1 [] ∷ drop 2 ws
words_pair [] a len x = absurd (omega (arith, len))
words_pair (p ∷ []) a len x = absurd (omega (arith, len))
words_pair (p ∷ q ∷ ws) a len x = cc

-- Options with one more before them.
pub options_up : (verb : Verb) (ws : List (List ℕ)) (a b : List ℕ) (rest : List (List ℕ)) → ws ≡ a ∷ b ∷ rest → has_option verb a ≡ true → value_of a (pairs rest) ≡ None → AreOptionWords verb rest → AreOptionWords verb ws
options_up verb ws a b rest is has once h =
    let more : AreOptionWords verb (a ∷ b ∷ rest) = (ap (λ w. a ∷ b ∷ w) h.0, (has, once, h.1)) in
    subst (λ w. AreOptionWords verb w) (sym is) more

-- And without the first.
pub options_down : (verb : Verb) (ws : List (List ℕ)) (a b : List ℕ) (rest : List (List ℕ)) → ws ≡ a ∷ b ∷ rest → AreOptionWords verb ws → AreOptionWords verb rest
options_down verb ws a b rest is h =
    let all : AreOptionWords verb (a ∷ b ∷ rest) = subst (λ w. AreOptionWords verb w) is h in
    let back : rest ≡ option_words (pairs rest) = ap (λ w. drop 2 w) all.0 in
    (back, all.1.2)

pub none_found : (found : Option (Bor (List ℕ))) (v : Option (List ℕ)) (r : Bool) → option_copied found ≡ v → r ≡ is_some found → r ≡ false → v ≡ None
none_found None v r e i f = sym e
none_found (Some x) v r e i f = let t : true ≡ false = sym i ∙ f in absurd (cc)

-- What is given is read back from its words.
pub pairs_words : (options : List Given) → pairs (option_words options) ≡ options
pairs_words [] = refl
pairs_words (option ∷ options) = ap (λ more. option ∷ more) (pairs_words options)

pub pairs_read : (words : List (List ℕ)) (options : List Given) → words ≡ option_words options → pairs words ≡ options
pairs_read words options is = ap pairs is ∙ pairs_words options

pub options_are_words : (verb : Verb) (words : List (List ℕ)) (options : List Given) → words ≡ option_words options → AreOptionsOf verb options → AreOptionWords verb words
options_are_words verb words options is known =
    let same : pairs words ≡ options = pairs_read words options is in
    (is ∙ ap option_words (sym same), subst (λ os. AreOptionsOf verb os) (sym same) known)

-- Where a list of words is no options of the verb, nothing that is given is it.
pub not_options : (verb v : Verb) (words : List (List ℕ)) (options : List Given) (r : Bool) → words ≡ option_words options → AreOptionsOf v options → v ≡ verb → (AreOptionWords verb words → r ≡ true) → r ≡ false → ⊥
not_options verb v words options r is known e answer false_is =
    let t : r ≡ true = answer (options_are_words verb words options is (subst (λ w. AreOptionsOf w options) e known)) in
    let f : true ≡ false = sym t ∙ false_is in cc

pub not_jobs : (words : List (List ℕ)) (options : List Given) (jobs : ℕ) → words ≡ option_words options → IsJobs (value_of (codes "--jobs") options) jobs → IsNoJobs (value_of (codes "--jobs") (pairs words)) → ⊥
not_jobs words options jobs is said none =
    none jobs (subst (λ os. IsJobs (value_of (codes "--jobs") os) jobs) (sym (pairs_read words options is)) said)

pub not_dash : (words : List (List ℕ)) (options : List Given) (two : Bool) → words ≡ option_words options → IsDash (value_of (codes "--dash") options) two → IsNoDash (value_of (codes "--dash") (pairs words)) → ⊥
not_dash words options two is said none =
    none two (subst (λ os. IsDash (value_of (codes "--dash") os) two) (sym (pairs_read words options is)) said)

none_or_not : (v : Option (List ℕ)) → (v ≡ None) ⊎ (v ≡ None → ⊥)
none_or_not None = inl refl
none_or_not (Some x) = inr (λ e. cc)

pub options_cases : (verb : Verb) (words : List (List ℕ)) → AreOptionWords verb words ⊎ (AreOptionWords verb words → ⊥)
options_cases verb [] = inl (refl, tt)
options_cases verb (a ∷ []) = inr (λ h. let e : a ∷ [] ≡ [] = h.0 in cc)
options_cases verb (a ∷ b ∷ rest) =
    elim (options_cases verb rest) [
      | inr not_rest ↦ inr (λ h. not_rest (options_down verb (a ∷ b ∷ rest) a b rest refl h))
      | inl more ↦ elim (cases_Bool (has_option verb a)) [
        | inr unknown ↦ inr (λ h. let known : has_option verb a ≡ true = h.1.0 in let f : true ≡ false = sym known ∙ unknown in absurd (cc))
        | inl known ↦ elim (none_or_not (value_of a (pairs rest))) [
          | inr twice ↦ inr (λ h. twice h.1.1)
          | inl once ↦ inl (options_up verb (a ∷ b ∷ rest) a b rest refl known once more)
        ]
      ]
    ]
