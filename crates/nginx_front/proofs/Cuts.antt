-- Where the parts of a directive end.
use Rattle.std.proofs.Common.{◌≡◌, ℕ, Bool, true, not, List, [], ◌∷◌, ◌++◌, refl, ap, ◌∙◌, append_assoc}
use Rattle.std.proofs.lemmas.Bool.{and_from}
use Rattle.lf_syntax.specs.Grammar.{Grammar, star, word, joined, Each}
use Rattle.lf_spelling.specs.Runs.{past, stops}
use Rattle.nginx_front.specs.Bytes.{is_white, is_name_byte}
use Rattle.nginx_front.specs.Syntax.{Is, some, white, name_byte, string, part, log_format, head}
use Rattle.nginx_front.specs.Passes.{after_name}
use Rattle.lf_spelling.specs.RunLaws.{run_again}
use Rattle.nginx_front.proofs.EachByte.{passes, every, begins_other}

pub past_part : (p : ℕ → Bool) (g : Grammar) (w rest : List ℕ) → passes p g ≡ true → Is g w → stops p rest ≡ true → past p (w ++ rest) ≡ rest
past_part p g w rest all is stop = (run_again p w rest (every (λ w. ⊥) p g w all is) stop).back_is

-- Two words and what follows.
pub head_cut : (text rest : List ℕ) → Is head text → stops is_name_byte rest ≡ true → after_name (text ++ rest) ≡ rest
head_cut text rest h stop = by_parts h.0 h.1 h.4.0 h.4.1 h.4.4.0 h.4.4.1 h.2 h.4.2 h.4.4.2 h.3 h.4.3 h.4.4.3 h.4.4.4
  where
    by_parts : (lead a word b gap name : List ℕ) → text ≡ lead ++ a → a ≡ word ++ b → b ≡ gap ++ name → Is (star white) lead → Is log_format word → Is (some white) gap → Is (some name_byte) name → after_name (text ++ rest) ≡ rest
    by_parts lead a word b gap name e f g i j k l =
        let whole : text ++ rest ≡ lead ++ (word ++ (gap ++ (name ++ rest))) =
        ap (λ (t : List ℕ). t ++ rest) (e ∙ ap (λ (t : List ℕ). lead ++ t) (f ∙ ap (λ (t : List ℕ). word ++ t) g))
        ∙ append_assoc lead (word ++ (gap ++ name)) rest ∙ ap (λ (t : List ℕ). lead ++ t) (append_assoc word (gap ++ name) rest ∙ ap (λ (t : List ℕ). word ++ t) (append_assoc gap name rest)) in
        ap after_name whole
        ∙ ap (λ (t : List ℕ). past is_name_byte (past is_white (past is_name_byte t))) (past_part is_white (star white) lead (word ++ (gap ++ (name ++ rest))) refl i (begins_other is_white log_format word (gap ++ (name ++ rest)) refl refl j))
        ∙ ap (λ (t : List ℕ). past is_name_byte (past is_white t)) (past_part is_name_byte log_format word (gap ++ (name ++ rest)) refl j (begins_other is_name_byte (some white) gap (name ++ rest) refl refl k))
        ∙ ap (λ (t : List ℕ). past is_name_byte t) (past_part is_white (some white) gap (name ++ rest) refl k (begins_other is_white (some name_byte) name rest refl refl l))
        ∙ past_part is_name_byte (some name_byte) name rest refl l stop

-- What begins with parts begins with white space.
pub parts_stop : (p : ℕ → Bool) (parts : List (List ℕ)) (rest : List ℕ) → passes (λ b. not (p b)) white ≡ true → Each (Is part) parts → stops p rest ≡ true → stops p (joined parts ++ rest) ≡ true
parts_stop p [] rest other are stop = stop
parts_stop p (one ∷ parts) rest other are stop = by_part are.0.0 are.0.1 are.0.2 are.0.3
  where
    both_pass : (p : ℕ → Bool) → passes (λ b. not (p b)) white ≡ true → passes (λ b. not (p b)) (some white) ≡ true
    both_pass p h = and_from (passes (λ b. not (p b)) white) (passes (λ b. not (p b)) white) h h

    by_part : (gap string : List ℕ) → one ≡ gap ++ string → Is (some white) gap → stops p ((one ++ joined parts) ++ rest) ≡ true
    by_part gap string e i =
        ap (stops p) (append_assoc one (joined parts) rest ∙ ap (λ (t : List ℕ). t ++ (joined parts ++ rest)) e ∙ append_assoc gap string (joined parts ++ rest))
        ∙ begins_other p (some white) gap (string ++ (joined parts ++ rest)) (both_pass p other) refl i
