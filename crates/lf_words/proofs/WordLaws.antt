-- The words of a command are texts within the limit.
use Rattle.std.proofs.Common.{◌≡◌, ℕ, List, [], ◌∷◌, ◌++◌, Bool, true, false, cond, length, codes, ◌&&◌, refl, sym, ap, ◌∙◌, subst, inl, inr}
use Rattle.std.specs.Prelude.{leb, None, Some}
use Rattle.std.specs.Option.{ForSome}
use Rattle.std.specs.List.{list_all}
use Rattle.std.specs.Str.{bytes_eq, is_utf8}
use Rattle.std.proofs.lemmas.Bool.{cases_Bool, leb-true}
use Rattle.std.proofs.lemmas.Str.{IsUtf8-from_is_utf8}
use Rattle.lf_limits.specs.Limits.{most_word_bytes}
use Rattle.lf_words.specs.declared.command.Command.{Command}
use Rattle.lf_words.specs.declared.command.Verb.{Verb}
use Rattle.lf_words.specs.declared.command.Verb.TheVariants.{Check, Read, Write, Translate, Show, Gen}
use Rattle.lf_words.specs.Command.{Given, verb_text, front_text, option_words, value_of, is_word, IsWord, IsPlain, IsTranslate, IsTail, IsCommand, HasTarget}

pub both_true : (a b : Bool) → (a && b) ≡ true → (a ≡ true) × (b ≡ true)
both_true true b e = (refl, e)
both_true false b e = absurd (cc)

word_of : (word : List ℕ) → is_word word ≡ true → IsWord word
word_of word is =
    let both = both_true (is_utf8 word) (leb (length word) most_word_bytes) is in
    record { text = IsUtf8-from_is_utf8 word both.0; short = leb-true (length word) most_word_bytes both.1 }

-- The third word is one, where each is.
third : (a b format : List ℕ) (rest words : List (List ℕ)) → words ≡ a ∷ b ∷ format ∷ rest → list_all is_word words ≡ true → IsWord format
third a b format rest words e each =
    let all : list_all is_word (a ∷ b ∷ format ∷ rest) ≡ true = subst (λ (w : List (List ℕ)). list_all is_word w ≡ true) e each in
    let after = both_true (is_word a) (list_all is_word (b ∷ format ∷ rest)) all in
    let later = both_true (is_word b) (list_all is_word (format ∷ rest)) after.1 in
    word_of format (both_true (is_word format) (list_all is_word rest) later.1).0

third_by : (verb : Verb) (c : Command) (tail words : List (List ℕ)) → words ≡ verb_text c.verb ∷ tail → IsTail verb tail c → list_all is_word words ≡ true → IsWord c.source.format
third_by Check c tail words e h = third _ _ c.source.format (option_words h.options) words (e ∙ ap (λ (w : List (List ℕ)). verb_text c.verb ∷ w) h.spelled)
third_by Read c tail words e h = third _ _ c.source.format (option_words h.options) words (e ∙ ap (λ (w : List (List ℕ)). verb_text c.verb ∷ w) h.spelled)
third_by Write c tail words e h = third _ _ c.source.format (option_words h.options) words (e ∙ ap (λ (w : List (List ℕ)). verb_text c.verb ∷ w) h.spelled)
third_by Translate c tail words e h = third _ _ c.source.format (front_text h.to.front ∷ h.to.format ∷ h.by ∷ option_words h.options) words (e ∙ ap (λ (w : List (List ℕ)). verb_text c.verb ∷ w) h.spelled)
third_by Show c tail words e h = third _ _ c.source.format (option_words h.options) words (e ∙ ap (λ (w : List (List ℕ)). verb_text c.verb ∷ w) h.spelled)
third_by Gen c tail words e h = third _ _ c.source.format (h.seed_text ∷ h.count_text ∷ option_words h.options) words (e ∙ ap (λ (w : List (List ℕ)). verb_text c.verb ∷ w) h.spelled)

-- The format of a command is one of its words.
pub format_word : (words : List (List ℕ)) (c : Command) → IsCommand words c → IsWord c.source.format
format_word words c is = third_by c.verb c is.tail words is.spelled is.follows is.each

-- ---- and so is its narrowing

-- Words that follow others are words, where all are.
later_words : (before after : List (List ℕ)) → list_all is_word (before ++ after) ≡ true → list_all is_word after ≡ true
later_words [] after each = each
later_words (word ∷ before) after each = later_words before after (both_true (is_word word) (list_all is_word (before ++ after)) each).1

same_text : (a b : List ℕ) → Some a ≡ Some b → a ≡ b
same_text a b e = cc

nothing_given : (text : List ℕ) → None ≡ Some text → ⊥
nothing_given text e = cc

-- What is given under a name is one of the options' words.
value_word : (name : List ℕ) (options : List Given) (text : List ℕ) → list_all is_word (option_words options) ≡ true → value_of name options ≡ Some text → IsWord text
value_word name [] text each e = absurd (nothing_given text e)
value_word name (option ∷ options) text each e =
    let values = (both_true (is_word option.name) (list_all is_word (option.value ∷ option_words options)) each).1 in
    let both = both_true (is_word option.value) (list_all is_word (option_words options)) values in
    let found : (b : Bool) → bytes_eq option.name name ≡ b → cond b (Some option.value) (value_of name options) ≡ Some text =
    λ b t. subst (λ (x : Bool). cond x (Some option.value) (value_of name options) ≡ Some text) t e in
    elim (cases_Bool (bytes_eq option.name name)) [
      | inl t ↦ subst IsWord (same_text option.value text (found true t)) (word_of option.value both.0)
      | inr f ↦ value_word name options text both.1 (found false f)
    ]

-- Options whose words are words, and that say how the source is narrowed.
record HasOptions (c : Command) : Type 0 where
  pub options : List Given
  pub each : list_all is_word (option_words options) ≡ true
  pub narrow : c.source.narrow ≡ value_of (codes "--narrow") options

-- The words of options that stand after others.
options_after : (before options tail : List (List ℕ)) → tail ≡ before ++ options → list_all is_word tail ≡ true → list_all is_word options ≡ true
options_after before options tail e each = later_words before options (subst (λ (w : List (List ℕ)). list_all is_word w ≡ true) e each)

plain_options : (c : Command) (tail : List (List ℕ)) → IsPlain tail c → list_all is_word tail ≡ true → HasOptions c
plain_options c tail h each = record {
  options = h.options;
  each = options_after (front_text c.source.front ∷ c.source.format ∷ []) (option_words h.options) tail h.spelled each;
  narrow = h.says.narrow;
}

options_by : (verb : Verb) (c : Command) (tail : List (List ℕ)) → IsTail verb tail c → list_all is_word tail ≡ true → HasOptions c
options_by Check c tail h each = plain_options c tail h each
options_by Read c tail h each = plain_options c tail h each
options_by Write c tail h each = plain_options c tail h each
options_by Translate c tail h each = record {
  options = h.options;
  each = options_after (front_text c.source.front ∷ c.source.format ∷ front_text h.to.front ∷ h.to.format ∷ h.by ∷ []) (option_words h.options) tail h.spelled each;
  narrow = h.says.narrow;
}
options_by Show c tail h each = plain_options c tail h each
options_by Gen c tail h each = record {
  options = h.options;
  each = options_after (front_text c.source.front ∷ c.source.format ∷ h.seed_text ∷ h.count_text ∷ []) (option_words h.options) tail h.spelled each;
  narrow = h.says.narrow;
}

-- The narrowing of a command, if one is given, is one of its words.
pub narrowing_word : (words : List (List ℕ)) (c : Command) → IsCommand words c → ForSome {T = List ℕ} c.source.narrow IsWord
narrowing_word words c is = λ text e.
    let o = options_by c.verb c is.tail is.follows (options_after (verb_text c.verb ∷ []) is.tail words is.spelled is.each) in
    value_word (codes "--narrow") o.options text o.each (sym o.narrow ∙ e)

-- ---- the target and the map of a translation

translate_words : (c : Command) (tail : List (List ℕ)) → IsTranslate tail c → list_all is_word tail ≡ true → HasTarget c
translate_words c tail h each =
    let before = front_text c.source.front ∷ c.source.format ∷ front_text h.to.front ∷ [] in
    let texts = options_after before (h.to.format ∷ h.by ∷ option_words h.options) tail h.spelled each in
    let format = both_true (is_word h.to.format) (list_all is_word (h.by ∷ option_words h.options)) texts in
    let map = both_true (is_word h.by) (list_all is_word (option_words h.options)) format.1 in
    record {
      to = h.to;
      by = h.by;
      target = h.target;
      map = h.map;
      format = word_of h.to.format format.0;
      narrow = λ text e. value_word (codes "--narrow-to") h.options text map.1 (sym h.narrow_to ∙ e);
      text = word_of h.by map.0;
    }

target_words : (words : List (List ℕ)) (c : Command) (verb : Verb) → verb ≡ Translate → c.verb ≡ verb → (is : IsCommand words c) → IsTail verb is.tail c → HasTarget c
target_words words c Translate e v is h =
    translate_words c is.tail h (options_after (verb_text c.verb ∷ []) is.tail words is.spelled is.each)
target_words words c Check e v is h = absurd (cc)
target_words words c Read e v is h = absurd (cc)
target_words words c Write e v is h = absurd (cc)
target_words words c Show e v is h = absurd (cc)
target_words words c Gen e v is h = absurd (cc)

-- A translation has a target and a map, of words.
pub target_word : (words : List (List ℕ)) (c : Command) → IsCommand words c → c.verb ≡ Translate → HasTarget c
target_word words c is e = target_words words c c.verb e refl is is.follows
