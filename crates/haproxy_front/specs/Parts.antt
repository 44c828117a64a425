-- What follows a percent sign is taken apart: a run ends, and changes hold no brace.
use Rattle.std.proofs.Common.{◌≡◌, ℕ, Bool, true, false, eqb, ◌&&◌, not, List, [], ◌∷◌, ◌++◌, Option, Some, None, refl, sym, ap, subst}
use Rattle.std.specs.List.{list_all}
use Rattle.std.proofs.lemmas.Bool.{eqb-true, and_parts, and_from}
use Rattle.lf_spelling.specs.Runs.{past, stops}
use Rattle.lf_spelling.specs.RunLaws.{past_stop, apart}
use Rattle.lf_spelling.specs.Texts.{begins_with}
use Rattle.lf_spelling.specs.Enclosed.{is_not, HoldsNo}
use Rattle.haproxy_front.specs.Flags.{is_sign, is_flag, are_flags}
use Rattle.haproxy_front.specs.Names.{is_alphanumeric}
use Rattle.haproxy_front.specs.Items.{braced, AreChanges, are_good}

pub past_stops : (p : ℕ → Bool) (text : List ℕ) → stops p (past p text) ≡ true
past_stops p text = first (past p text) refl
  where
    first : (rest : List ℕ) → past p text ≡ rest → stops p rest ≡ true
    first [] is = refl
    first (c ∷ more) is = ap not (past_stop p text c more is)

pub good_changes : (flags : Option (List ℕ)) → are_good flags ≡ true → AreChanges flags
good_changes None h = tt
good_changes (Some flags) h = h

pub changes_good : (flags : Option (List ℕ)) → AreChanges flags → are_good flags ≡ true
changes_good None h = refl
changes_good (Some flags) h = h

-- ---- found again

sign_inside : (b : ℕ) → is_sign b ≡ true → is_not 125 b ≡ true
sign_inside b h = ap not (apart is_sign b 125 h refl)

flag_inside : (b : ℕ) → is_flag b ≡ true → is_not 125 b ≡ true
flag_inside b h = ap not (apart is_flag b 125 h refl)

-- no change holds a brace
changes_inside : (flags : List ℕ) → are_flags flags ≡ true → list_all (is_not 125) flags ≡ true
changes_inside [] h = refl
changes_inside (a ∷ []) h = absurd cc
changes_inside (a ∷ b ∷ []) h =
    let both = and_parts (is_sign a) (is_flag b) h in
    and_from (is_not 125 a) (list_all (is_not 125) (b ∷ [])) (sign_inside a both.0) (and_from (is_not 125 b) (list_all (is_not 125) []) (flag_inside b both.1) refl)
changes_inside (a ∷ b ∷ c ∷ more) h =
    let three = and_parts ((is_sign a && is_flag b) && eqb c 44) (are_flags more) h in
    let two = and_parts (is_sign a && is_flag b) (eqb c 44) three.0 in
    let one = and_parts (is_sign a) (is_flag b) two.0 in
    let comma : is_not 125 c ≡ true = subst (λ (n : ℕ). is_not 125 n ≡ true) (sym (eqb-true c 44 two.1)) refl in
    and_from (is_not 125 a) (list_all (is_not 125) (b ∷ c ∷ more)) (sign_inside a one.0) (and_from (is_not 125 b) (list_all (is_not 125) (c ∷ more)) (flag_inside b one.1) (and_from (is_not 125 c) (list_all (is_not 125) more) comma (changes_inside more three.1)))

pub changes_closed : (flags : Option (List ℕ)) → AreChanges flags → HoldsNo 125 flags
changes_closed None good = tt
changes_closed (Some flags) good = changes_inside flags good

pub no_percent : (flags : Option (List ℕ)) (letter : ℕ) (rest : List ℕ) → is_alphanumeric letter ≡ true → begins_with 37 (braced flags ++ letter ∷ rest) ≡ false
no_percent None letter rest is = apart is_alphanumeric letter 37 is refl
no_percent (Some flags) letter rest is = refl
