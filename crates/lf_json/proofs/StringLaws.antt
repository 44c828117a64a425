-- Runs of letters that stand as they are, digits byte by byte, and values one by one.
use Rattle.std.proofs.Common.{◌≡◌, ℕ, zero, suc, ◌+◌, ◌<◌, ◌≤◌, false, inl, inr, List, [], ◌∷◌, ◌++◌, length, take, drop, get_or, refl, sym, ap, ◌∙◌, arith, add-one, drop-cons}
use Rattle.std.specs.Prelude.{Result, Ok, Err, is_ok, IsUtf8, MatchResult}
use Rattle.std.specs.List.{flat_map}
use Rattle.std.specs.Str.{is_utf8}
use Rattle.std.proofs.lemmas.Bool.{cases_Bool}
use Rattle.std.proofs.lemmas.Bool.Decides.{nat_tests}
use Rattle.std.proofs.lemmas.List.{drop_all}
use Rattle.std.proofs.lemmas.Str.{IsUtf8-from_is_utf8, is_utf8-from_IsUtf8}
use Rattle.hex.specs.Hex.{encode_with, encode_lower}
use Rattle.lf_core.specs.declared.values.Value.{Value}
use Rattle.lf_json.specs.Text.{json_letter, is_escaped, others_text, value_json}

pub json_letter-bare : (b : ℕ) → is_escaped b ≡ false → json_letter b ≡ b ∷ []
unfolding json_letter
json_letter-bare b h = grind (arith, nat_tests, h)

-- a run of letters that stand as they are, before the rest
letters-run : (n : ℕ) (xs : List ℕ) → ((k : ℕ) → k < n → is_escaped (get_or xs k 0) ≡ false) → flat_map json_letter xs ≡ take n xs ++ flat_map json_letter (drop n xs)
letters-run zero xs h = refl
letters-run (suc n) [] h = refl
letters-run (suc n) (x ∷ xs) h =
    rw (json_letter-bare x (h 0 (omega arith))) (ap (λ l. x ∷ l) (letters-run n xs (λ k l. h (suc k) (omega (arith, l)))))

module _ (n : ℕ) (rest run more : List ℕ) (bare : (k : ℕ) → k < n → is_escaped (get_or rest k 0) ≡ false) (front : run ≡ take n rest) (back : more ≡ drop n rest) where
  at_parts : flat_map json_letter rest ≡ run ++ flat_map json_letter more
  at_parts =
      letters-run n rest bare ∙ ap (λ l. l ++ flat_map json_letter (drop n rest)) (sym front) ∙ ap (λ l. run ++ flat_map json_letter l) (sym back)

  pub letters-next : (b : ℕ) (after : List ℕ) → more ≡ b ∷ after → flat_map json_letter rest ≡ run ++ (json_letter b ++ flat_map json_letter after)
  letters-next b after e = at_parts ∙ ap (λ l. run ++ flat_map json_letter l) e

  no_letters : (xs : List ℕ) → length xs ≡ 0 → flat_map json_letter xs ≡ []
  no_letters [] e = refl
  no_letters (x ∷ xs) e = absurd (omega (arith, e))

  pub letters-last : length more ≡ 0 → flat_map json_letter rest ≡ run ++ []
  letters-last e = at_parts ∙ ap (λ l. run ++ l) (no_letters more e)

-- one more byte's digits
pub digits-drop : (bytes : List ℕ) (i : ℕ) → i < length bytes → encode_lower (drop i bytes) ≡ encode_lower (get_or bytes i 0 ∷ []) ++ encode_lower (drop (i + 1) bytes)
unfolding encode_with
digits-drop bytes i h = ap encode_lower (drop-cons bytes i 0 h) ∙ ap (λ j. encode_lower (get_or bytes i 0 ∷ drop j bytes)) (sym (add-one i))

pub digits-end : (bytes : List ℕ) (i : ℕ) → length bytes ≤ i → encode_lower (drop i bytes) ≡ []
unfolding encode_with
digits-end bytes i h = ap encode_lower (drop_all i bytes h)

-- one more value
pub others-drop : (values : List Value) (i : ℕ) (v : Value) → i < length values → v ≡ get_or values i v
    → others_text (drop i values) ≡ (44 ∷ []) ++ (value_json v ++ others_text (drop (i + 1) values))
others-drop values i v h e =
    ap others_text (drop-cons values i v h ∙ ap (λ w. w ∷ drop (suc i) values) (sym e)) ∙ ap (λ j. 44 ∷ (value_json v ++ others_text (drop j values))) (sym (add-one i))

-- the test of UTF-8
pub is_ok-is_utf8 : {T E : Type 0} (r : Result T E) (bytes : List ℕ) (P : T → Type 0) (Q : E → Type 0)
    → MatchResult r (λ s. P s × IsUtf8 bytes) (λ e. ¬ (IsUtf8 bytes) × Q e) → is_ok r ≡ is_utf8 bytes
is_ok-is_utf8 (Ok s) bytes P Q h = sym (is_utf8-from_IsUtf8 bytes h.1)
is_ok-is_utf8 (Err e) bytes P Q h = elim (cases_Bool (is_utf8 bytes)) [ inl t ↦ absurd (h.0 (IsUtf8-from_is_utf8 bytes t)) | inr f ↦ sym f ]
