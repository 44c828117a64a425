-- Each text of the grammar says what is read of it.
use Rattle.std.proofs.Common.{◌≡◌, ℕ, ◌+◌, ◌-◌, ◌≤◌, ◌⊎◌, Bool, true, false, cond, not, List, [], ◌∷◌, ◌++◌, length, take, drop, eqb, ◌||◌, Option, Some, None, refl, sym, ap, subst, ◌∙◌, append_assoc, length-append, arith, inl, inr}
use Rattle.std.specs.Prelude.{nat_eq, codes}
use Rattle.std.specs.List.{list_any, prefix_len, starts_with}
use Rattle.std.proofs.lemmas.Bool.{cases_Bool, not-true}
use Rattle.std.proofs.lemmas.List.{append-nil, take_at, drop_at}
use Rattle.lf_syntax.specs.Grammar.{Grammar, star, joined, Each}
use Rattle.nginx_front.specs.declared.table.Escape.{Escape}
use Rattle.nginx_front.specs.declared.table.Escape.TheVariants.{Default}
use Rattle.nginx_front.specs.declared.strings.Placed.{Placed}
use Rattle.nginx_front.specs.declared.strings.Mode.{Mode}
use Rattle.nginx_front.specs.declared.strings.Mode.TheVariants.{Outside}
use Rattle.lf_spelling.specs.Runs as Runs
use Rattle.lf_spelling.specs.Runs.{past, stops}
use Rattle.nginx_front.specs.Bytes.{is_white, is_name_byte, is_bare, is_quote}
use Rattle.nginx_front.specs.Syntax as syntax
use Rattle.nginx_front.specs.Syntax.{Is, byte, some, white, bare, letter, opened, string, part, directive, before_escape, before_string, half_string}
use Rattle.nginx_front.specs.Strings.{plain_given, letters_given, StringGives, run, quoted, PartGives, PartsGive}
use Rattle.nginx_front.specs.Escapes.{names_escape, escape_of, escape_at}
use Rattle.nginx_front.specs.Parts.{StringsGive, IsSpelled, IsBadEscape, IsOpenQuote}
use Rattle.nginx_front.specs.Passes.{after_name, name_end, word_place, strings_place, mode_after, open_place, given_by, given_in}
use Rattle.lf_spelling.specs.RunLaws.{run_join, run_len}
use Rattle.nginx_front.proofs.EachByte.{passes, begins_other}
use Rattle.nginx_front.proofs.Cuts.{past_part, head_cut, parts_stop}
use Rattle.nginx_front.proofs.StringsRead.{joins, mode_on, half_opens, reads_white, reads_parts}

-- ---- what parts give

quoted_gives : (quote place : ℕ) (text : List ℕ) → is_quote quote ≡ true → Is (opened quote (byte quote)) text → (given : List Placed) × StringGives place text given
quoted_gives quote place text is s = by_parts s.0 s.1 s.2 s.3.0 s.3.1 s.3.2 s.3.3 s.4.0 s.4.1 s.4.2 s.4.3.0 s.4.3.1 s.4.3.2 s.4.4
  where
    by_parts : (a b : List ℕ) → text ≡ a ++ b → (q : ℕ) → a ≡ q ∷ [] → quote ≤ q → q ≤ quote → (c d : List ℕ) → b ≡ c ++ d → (letters : List (List ℕ)) → c ≡ joined letters → Each (Is (letter quote)) letters → Is (byte quote) d → (given : List Placed) × StringGives place text given
    by_parts a b e q f le most c d g letters h each end =
        let same : q ≡ quote = omega arith in
        let last : end.0 ≡ quote = omega (arith, end.2, end.3) in
        let whole : text ≡ quote ∷ (joined letters ++ quote ∷ []) =
        e ∙ ap (λ (t : List ℕ). t ++ b) (f ∙ ap (λ (n : ℕ). n ∷ []) same)
        ∙ ap (λ (t : List ℕ). quote ∷ t) (g ∙ ap (λ (t : List ℕ). t ++ d) h ∙ ap (λ (t : List ℕ). joined letters ++ t) (end.1 ∙ ap (λ (n : ℕ). n ∷ []) last)) in
        (letters_given (place + 1) letters, quoted quote letters is each whole refl)

string_gives : (place : ℕ) (text : List ℕ) → Is string text → (given : List Placed) × StringGives place text given
string_gives place text s = elim s [
  | inl x ↦ (plain_given place text, run x refl)
  | inr y ↦ elim y [ inl double ↦ quoted_gives 34 place text refl double | inr single ↦ quoted_gives 39 place text refl single ]
]

part_gives : (place : ℕ) (text : List ℕ) → Is part text → (given : List Placed) × PartGives place text given
part_gives place text s = let one = string_gives (place + length s.0) s.1 s.4 in (one.0, record { gap = s.0; string = s.1; text_is = s.2; white = s.3; gives = one.1 })

parts_give : (place : ℕ) (parts : List (List ℕ)) → Each (Is part) parts → (given : List Placed) × PartsGive place parts given
parts_give place [] are = ([], refl)
parts_give place (one ∷ parts) are =
    let first = part_gives place one are.0 in
    let rest = parts_give (place + length one) parts are.1 in
    (first.0 ++ rest.0, (first.0, rest.0, refl, first.1, rest.1))

-- ---- the first part

no_run : (p : ℕ → Bool) (text : List ℕ) → stops p text ≡ true → Runs.run p text ≡ []
no_run p [] stop = refl
no_run p (b ∷ text) stop = ap (λ v. cond v (b ∷ Runs.run p text) []) (not-true (p b) stop)

-- what begins with a byte of ranges that don't pass
front_stops : (p : ℕ → Bool) (quote : ℕ) (end : Grammar) (text rest : List ℕ) → passes (λ b. not (p b)) (byte quote) ≡ true → Is (opened quote end) text → stops p (text ++ rest) ≡ true
front_stops p quote end text rest all s = ap (λ (t : List ℕ). stops p (t ++ rest)) s.2 ∙ ap (stops p) (append_assoc s.0 s.1 rest) ∙ begins_other p (byte quote) s.0 (s.1 ++ rest) all refl s.3

string_black : (text rest : List ℕ) → Is string text → stops is_white (text ++ rest) ≡ true
string_black text rest s = elim s [
  | inl x ↦ begins_other is_white (some bare) text rest refl refl x
  | inr y ↦ elim y [ inl double ↦ front_stops is_white 34 (byte 34) text rest refl double | inr single ↦ front_stops is_white 39 (byte 39) text rest refl single ]
]

-- A part is white space and a string, which is what follows the white space.
pub first_string : (one rest : List ℕ) (s : Is part one) → past is_white (one ++ rest) ≡ s.1 ++ rest
first_string one rest s = ap (λ (t : List ℕ). past is_white (t ++ rest)) s.2 ∙ ap (past is_white) (append_assoc s.0 s.1 rest) ∙ past_part is_white (some white) s.0 (s.1 ++ rest) refl s.3 (string_black s.1 rest s.4)

no_name : (text : List ℕ) → stops is_bare text ≡ true → names_escape text ≡ false
no_name text stop = ap (λ (t : List ℕ). starts_with nat_eq t (codes "escape=")) (no_run is_bare text stop)

-- Where the first part names the escape, it is a bare string, and what follows it follows the run.
bare_string : (text rest : List ℕ) → Is string text → names_escape (text ++ rest) ≡ true → stops is_bare rest ≡ true → past is_bare (text ++ rest) ≡ rest
bare_string text rest s named stop = elim s [
  | inl x ↦ past_part is_bare (some bare) text rest refl x stop
  | inr y ↦ (let none : stops is_bare (text ++ rest) ≡ true = elim y [ inl double ↦ front_stops is_bare 34 (byte 34) text rest refl double | inr single ↦ front_stops is_bare 39 (byte 39) text rest refl single ] in
      let other = no_name (text ++ rest) none in absurd (cc))
]

tail_named : (tail : List ℕ) → Is syntax.tail tail → names_escape (past is_white tail) ≡ false
tail_named tail s = ap (λ (t : List ℕ). names_escape (past is_white t)) s.2 ∙ ap names_escape (past_part is_white (star white) s.0 s.1 refl s.3 stop) ∙ no_name s.1 none
  where
    end_stops : (p : ℕ → Bool) → passes (λ b. not (p b)) (byte 59) ≡ true → stops p s.1 ≡ true
    end_stops p all = ap (stops p) s.4.2 ∙ begins_other p (byte 59) s.4.0 s.4.1 all refl s.4.3

    stop : stops is_white s.1 ≡ true
    stop = end_stops is_white refl

    none : stops is_bare s.1 ≡ true
    none = end_stops is_bare refl

-- ---- places

pub back_at : (text before rest : List ℕ) → text ≡ before ++ rest → length text - length rest ≡ length before
back_at text before rest is = omega (arith, ap length is, length-append before rest)

pub cut_at : (text before rest : List ℕ) (n : ℕ) → text ≡ before ++ rest → n ≡ length before → drop n text ≡ rest
cut_at text before rest n is same = ap (λ (t : List ℕ). drop n t) is ∙ drop_at before rest n (sym same)

-- ---- a text of the grammar

-- The strings from a place on give what their parts do.
read_at : (text before : List ℕ) (parts : List (List ℕ)) (tail : List ℕ) (given : List Placed) (n : ℕ) → text ≡ before ++ (joined parts ++ tail) → n ≡ length before → Is syntax.tail tail → PartsGive (length before) parts given → given_by Outside n (drop n text) ≡ given
read_at text before parts tail given n is at end h =
    ap (λ (t : List ℕ). given_by Outside n t) (cut_at text before (joined parts ++ tail) n is at)
    ∙ ap (λ (m : ℕ). given_by Outside m (joined parts ++ tail)) at
    ∙ (joins Outside Outside Outside (length before) (joined parts) tail given [] (reads_parts (length before) parts given h) (reads_white syntax.tail (length before + length (joined parts)) tail refl end)).gives_so
    ∙ append-nil given

pub tail_stops : (p : ℕ → Bool) (tail : List ℕ) → passes (λ b. not (p b)) syntax.tail ≡ true → Is syntax.tail tail → stops p tail ≡ true
tail_stops p tail all is = ap (stops p) (sym (append-nil tail)) ∙ begins_other p syntax.tail tail [] all refl is

module _ (text head : List ℕ) (parts : List (List ℕ)) (tail : List ℕ) (text_is : text ≡ head ++ (joined parts ++ tail)) (head_is : Is syntax.head head) (parts_are : Each (Is part) parts) (tail_is : Is syntax.tail tail) where
  pub name_is : after_name text ≡ joined parts ++ tail
  name_is = ap after_name text_is ∙ head_cut head (joined parts ++ tail) head_is (parts_stop is_name_byte parts tail refl parts_are (tail_stops is_name_byte tail refl tail_is))

  split : text ≡ (head ++ Runs.run is_white (joined parts ++ tail)) ++ past is_white (joined parts ++ tail)
  split = text_is ∙ ap (λ (t : List ℕ). head ++ t) (sym (run_join is_white (joined parts ++ tail))) ∙ sym (append_assoc head (Runs.run is_white (joined parts ++ tail)) (past is_white (joined parts ++ tail)))

  word_at : word_place text ≡ length (head ++ Runs.run is_white (joined parts ++ tail))
  word_at = ap (λ (r : List ℕ). length text - length (past is_white r)) name_is ∙ back_at text (head ++ Runs.run is_white (joined parts ++ tail)) (past is_white (joined parts ++ tail)) split

  pub word_is : drop (word_place text) text ≡ past is_white (joined parts ++ tail)
  word_is = cut_at text (head ++ Runs.run is_white (joined parts ++ tail)) (past is_white (joined parts ++ tail)) (word_place text) split word_at

  name_at : name_end text ≡ length head
  name_at = ap (λ (r : List ℕ). length text - length r) name_is ∙ back_at text head (joined parts ++ tail) text_is

  -- where no escape is named, the strings begin after the name
  plain_place : names_escape (past is_white (joined parts ++ tail)) ≡ false → strings_place text ≡ length head
  plain_place none = ap (λ v. cond v (word_place text + prefix_len is_bare (drop (word_place text) text)) (name_end text)) (ap names_escape word_is ∙ none) ∙ name_at

  plain_given_so : (given : List Placed) → names_escape (past is_white (joined parts ++ tail)) ≡ false → PartsGive (length head) parts given → given_in text ≡ given
  plain_given_so given none h = read_at text head parts tail given (strings_place text) text_is (plain_place none) tail_is h

  pub word_size : word_place text + length (past is_white (joined parts ++ tail)) ≡ length text
  word_size = omega (arith, word_at, ap length split, length-append (head ++ Runs.run is_white (joined parts ++ tail)) (past is_white (joined parts ++ tail)))

-- where the first part names the escape, they begin after it
named_place : (text head one : List ℕ) (more : List (List ℕ)) (tail : List ℕ) → text ≡ head ++ (joined (one ∷ more) ++ tail) → drop (word_place text) text ≡ past is_white (joined (one ∷ more) ++ tail) → word_place text + length (past is_white (joined (one ∷ more) ++ tail)) ≡ length text → names_escape (past is_white (joined (one ∷ more) ++ tail)) ≡ true → past is_bare (past is_white (joined (one ∷ more) ++ tail)) ≡ joined more ++ tail → strings_place text ≡ length (head ++ one)
named_place text head one more tail text_is is size named skipped =
    let place : strings_place text ≡ word_place text + prefix_len is_bare (past is_white (joined (one ∷ more) ++ tail)) =
    ap (λ v. cond v (word_place text + prefix_len is_bare (drop (word_place text) text)) (name_end text)) (ap names_escape is ∙ named) ∙ ap (λ (t : List ℕ). word_place text + prefix_len is_bare t) is in
    let run_size = run_len is_bare (past is_white (joined (one ∷ more) ++ tail)) in
    let whole = ap length (run_join is_bare (past is_white (joined (one ∷ more) ++ tail))) in
    let parts = length-append (Runs.run is_bare (past is_white (joined (one ∷ more) ++ tail))) (past is_bare (past is_white (joined (one ∷ more) ++ tail))) in
    let all : length text ≡ length (head ++ one) + length (joined more ++ tail) = ap length (text_is ∙ ap (λ (t : List ℕ). head ++ t) (append_assoc one (joined more) tail) ∙ sym (append_assoc head one (joined more ++ tail))) ∙ length-append (head ++ one) (joined more ++ tail) in
    omega (arith, place, run_size, whole, parts, all, size, ap length skipped)

-- ---- what is spelled is read

named_skips : (head one : List ℕ) (more : List (List ℕ)) (tail : List ℕ) → Is part one → Each (Is part) more → Is syntax.tail tail → names_escape (past is_white (joined (one ∷ more) ++ tail)) ≡ true → past is_bare (past is_white (joined (one ∷ more) ++ tail)) ≡ joined more ++ tail
named_skips head one more tail is are end named =
    let first : past is_white (joined (one ∷ more) ++ tail) ≡ is.1 ++ (joined more ++ tail) = ap (past is_white) (append_assoc one (joined more) tail) ∙ first_string one (joined more ++ tail) is in
    let told : names_escape (is.1 ++ (joined more ++ tail)) ≡ true = ap names_escape (sym first) ∙ named in
    ap (past is_bare) first ∙ bare_string is.1 (joined more ++ tail) is.4 told (parts_stop is_bare more tail refl are (tail_stops is_bare tail refl end))

module _ (text : List ℕ) (escape : Escape) (given : List Placed) (is : IsSpelled text escape given) where
  parts_given : (parts : List (List ℕ)) (n : Bool) → text ≡ is.head ++ (joined parts ++ is.tail) → Each (Is part) parts → names_escape (past is_white (joined parts ++ is.tail)) ≡ n → StringsGive n (length is.head) parts given → given_in text ≡ given
  parts_given parts false e are named h = plain_given_so text is.head parts is.tail e is.head_is are is.tail_is given named h
  parts_given [] true e are named h = absurd h
  parts_given (one ∷ more) true e are named h =
      let skipped = named_skips is.head one more is.tail are.0 are.1 is.tail_is named in
      let word = word_is text is.head (one ∷ more) is.tail e is.head_is are is.tail_is in
      let place = named_place text is.head one more is.tail e word (word_size text is.head (one ∷ more) is.tail e is.head_is are is.tail_is) named skipped in
      let at : length (is.head ++ one) ≡ length is.head + length one = length-append is.head one in
      let whole : text ≡ (is.head ++ one) ++ (joined more ++ is.tail) = e ∙ ap (λ (t : List ℕ). is.head ++ t) (append_assoc one (joined more) is.tail) ∙ sym (append_assoc is.head one (joined more ++ is.tail)) in
      read_at text (is.head ++ one) more is.tail given (strings_place text) whole place is.tail_is (subst (λ (n : ℕ). PartsGive n more given) (sym at) h)

  pub given_so : given_in text ≡ given
  given_so = parts_given is.parts (names_escape (past is_white (joined is.parts ++ is.tail))) is.text_is is.parts_are refl is.given_is

  pub escape_so : escape_at (drop (word_place text) text) ≡ Some escape
  escape_so = ap escape_at (word_is text is.head is.parts is.tail is.text_is is.head_is is.parts_are is.tail_is) ∙ is.escape_is

  pub spelled_is : Is directive text
  spelled_is = (is.head, joined is.parts ++ is.tail, is.text_is, is.head_is, (joined is.parts, is.tail, refl, (is.parts, refl, is.parts_are), is.tail_is))

-- A text is spelled in one way.
pub spelled_same : (text : List ℕ) (e f : Escape) (a b : List Placed) → IsSpelled text e a → IsSpelled text f b → (e ≡ f) × (a ≡ b)
spelled_same text e f a b h k =
    let same : Some e ≡ Some f = sym (escape_so text e a h) ∙ escape_so text f b k in
    (cc, sym (given_so text e a h) ∙ given_so text f b k)

-- ---- an escape of another value

white_not_bare : (b : ℕ) → is_white b ≡ true → is_bare b ≡ false
white_not_bare b h = ap (λ v. not (v || list_any (λ c. eqb b c) (59 ∷ 34 ∷ 39 ∷ 92 ∷ []))) h

bad_black : (rest : List ℕ) → escape_at rest ≡ None → stops is_white rest ≡ true
bad_black [] bad = refl
bad_black (b ∷ rest) bad = elim (cases_Bool (is_white b)) [
  | inl h ↦ (let none : names_escape (b ∷ rest) ≡ false = no_name (b ∷ rest) (ap not (white_not_bare b h)) in
      let other : escape_at (b ∷ rest) ≡ Some Default = ap (λ v. cond v (escape_of (drop 7 (Runs.run is_bare (b ∷ rest)))) (Some Default)) none in absurd (cc))
  | inr h ↦ ap not h
]

pub bad_at : (text : List ℕ) (place : ℕ) (is : IsBadEscape text place) → (place ≡ word_place text) × (escape_at (drop (word_place text) text) ≡ None) × Is before_escape (take (word_place text) text)
bad_at text place is =
    let h = is.before_is in
    let whole : text ≡ h.0 ++ (h.1 ++ is.rest) = is.text_is ∙ ap (λ (t : List ℕ). t ++ is.rest) h.2 ∙ append_assoc h.0 h.1 is.rest in
    let name : after_name text ≡ h.1 ++ is.rest = ap after_name whole ∙ head_cut h.0 (h.1 ++ is.rest) h.3 (begins_other is_name_byte (some white) h.1 is.rest refl refl h.4) in
    let word : past is_white (after_name text) ≡ is.rest = ap (past is_white) name ∙ past_part is_white (some white) h.1 is.rest refl h.4 (bad_black is.rest is.bad) in
    let at : word_place text ≡ length is.before = ap (λ (r : List ℕ). length text - length r) word ∙ back_at text is.before is.rest is.text_is in
    let front : take (word_place text) text ≡ is.before = ap (λ (t : List ℕ). take (word_place text) t) is.text_is ∙ take_at is.before is.rest (word_place text) (sym at) in (
      is.place_is ∙ sym at,
      ap escape_at (cut_at text is.before is.rest (word_place text) is.text_is at) ∙ is.bad,
      subst (λ (t : List ℕ). Is before_escape t) (sym front) is.before_is,
    )

-- ---- a text of the grammar

-- A directive says something, or an escape of another value stands in it.
pub sentence_says : (text : List ℕ) → Is directive text → ((escape : Escape) × (given : List Placed) × IsSpelled text escape given) ⊎ ((place : ℕ) × IsBadEscape text place)
sentence_says text s = by_parts s.0 s.4.3.0 s.4.1 (s.2 ∙ ap (λ (t : List ℕ). s.0 ++ t) (s.4.2 ∙ ap (λ (t : List ℕ). t ++ s.4.1) s.4.3.1)) s.3 s.4.3.2 s.4.4
  where
    strings_give : (n : Bool) (place : ℕ) (parts : List (List ℕ)) (tail : List ℕ) → Is syntax.tail tail → Each (Is part) parts → names_escape (past is_white (joined parts ++ tail)) ≡ n → (given : List Placed) × StringsGive n place parts given
    strings_give false place parts tail end are named = parts_give place parts are
    strings_give true place [] tail end are named = let none = tail_named tail end in absurd (cc)
    strings_give true place (one ∷ more) tail end are named = parts_give (place + length one) more are.1

    bad : (head : List ℕ) (parts : List (List ℕ)) (tail : List ℕ) → text ≡ head ++ (joined parts ++ tail) → Is syntax.head head → Each (Is part) parts → Is syntax.tail tail → escape_at (past is_white (joined parts ++ tail)) ≡ None → (place : ℕ) × IsBadEscape text place
    bad head [] tail e is are end none =
        let other : escape_at (past is_white tail) ≡ Some Default = ap (λ v. cond v (escape_of (drop 7 (Runs.run is_bare (past is_white tail)))) (Some Default)) (tail_named tail end) in absurd (cc)
    bad head (one ∷ more) tail e is are end none =
        let p = are.0 in
        let first : past is_white (joined (one ∷ more) ++ tail) ≡ p.1 ++ (joined more ++ tail) = ap (past is_white) (append_assoc one (joined more) tail) ∙ first_string one (joined more ++ tail) p in
        let whole : text ≡ (head ++ p.0) ++ (p.1 ++ (joined more ++ tail)) =
        e ∙ ap (λ (t : List ℕ). head ++ t) (append_assoc one (joined more) tail ∙ ap (λ (t : List ℕ). t ++ (joined more ++ tail)) p.2 ∙ append_assoc p.0 p.1 (joined more ++ tail)) ∙ sym (append_assoc head p.0 (p.1 ++ (joined more ++ tail))) in
        (length (head ++ p.0), record { before = head ++ p.0; rest = p.1 ++ (joined more ++ tail); text_is = whole; before_is = (head, p.0, refl, is, p.3); bad = ap escape_at (sym first) ∙ none; place_is = refl })

    by_escape : (head : List ℕ) (parts : List (List ℕ)) (tail : List ℕ) (o : Option Escape) → text ≡ head ++ (joined parts ++ tail) → Is syntax.head head → Each (Is part) parts → Is syntax.tail tail → escape_at (past is_white (joined parts ++ tail)) ≡ o → ((escape : Escape) × (given : List Placed) × IsSpelled text escape given) ⊎ ((place : ℕ) × IsBadEscape text place)
    by_escape head parts tail None e is are end o = inr (bad head parts tail e is are end o)
    by_escape head parts tail (Some escape) e is are end o =
        let g = strings_give (names_escape (past is_white (joined parts ++ tail))) (length head) parts tail end are refl in
        inl (escape, g.0, record { head = head; parts = parts; tail = tail; text_is = e; head_is = is; parts_are = are; tail_is = end; escape_is = o; given_is = g.1 })

    by_parts : (head : List ℕ) (parts : List (List ℕ)) (tail : List ℕ) → text ≡ head ++ (joined parts ++ tail) → Is syntax.head head → Each (Is part) parts → Is syntax.tail tail → ((escape : Escape) × (given : List Placed) × IsSpelled text escape given) ⊎ ((place : ℕ) × IsBadEscape text place)
    by_parts head parts tail e is are end = by_escape head parts tail (escape_at (past is_white (joined parts ++ tail))) e is are end refl

-- ---- an open quote

pub open_so : (text : List ℕ) (place : ℕ) → IsOpenQuote text place → open_place (mode_after Outside (name_end text) (drop (name_end text) text)) ≡ place
open_so text place is = by_parts is.before_is.0 is.before_is.4.3.0 is.before_is.4.1 (is.before_is.2 ∙ ap (λ (t : List ℕ). is.before_is.0 ++ t) (is.before_is.4.2 ∙ ap (λ (t : List ℕ). t ++ is.before_is.4.1) is.before_is.4.3.1)) is.before_is.3 is.before_is.4.3.2 is.before_is.4.4
  where
    by_parts : (head : List ℕ) (parts : List (List ℕ)) (gap : List ℕ) → is.before ≡ head ++ (joined parts ++ gap) → Is syntax.head head → Each (Is part) parts → Is (some white) gap → open_place (mode_after Outside (name_end text) (drop (name_end text) text)) ≡ place
    by_parts head parts gap e h are w =
        let back : List ℕ = (joined parts ++ gap) ++ is.rest in
        let whole : text ≡ head ++ ((joined parts ++ gap) ++ is.rest) = is.text_is ∙ ap (λ (t : List ℕ). t ++ is.rest) e ∙ append_assoc head (joined parts ++ gap) is.rest in
        let stop : stops is_name_byte ((joined parts ++ gap) ++ is.rest) ≡ true = ap (stops is_name_byte) (append_assoc (joined parts) gap is.rest) ∙ parts_stop is_name_byte parts (gap ++ is.rest) refl are (begins_other is_name_byte (some white) gap is.rest refl refl w) in
        let name : after_name text ≡ (joined parts ++ gap) ++ is.rest = ap after_name whole ∙ head_cut head ((joined parts ++ gap) ++ is.rest) h stop in
        let at : name_end text ≡ length head = ap (λ (r : List ℕ). length text - length r) name ∙ back_at text head ((joined parts ++ gap) ++ is.rest) whole in
        let g = parts_give (length head) parts are in
        let read = joins Outside Outside Outside (length head) (joined parts) gap g.0 [] (reads_parts (length head) parts g.0 g.1) (reads_white (some white) (length head + length (joined parts)) gap refl w) in
        let size : length head + length (joined parts ++ gap) ≡ length is.before = sym (ap length e ∙ length-append head (joined parts ++ gap)) in
        ap (λ (t : List ℕ). open_place (mode_after Outside (name_end text) t)) (cut_at text head ((joined parts ++ gap) ++ is.rest) (name_end text) whole at)
        ∙ ap (λ (n : ℕ). open_place (mode_after Outside n ((joined parts ++ gap) ++ is.rest))) at
        ∙ ap open_place (mode_on Outside (length head) (joined parts ++ gap) is.rest)
        ∙ ap (λ (m : Mode). open_place (mode_after m (length head + length (joined parts ++ gap)) is.rest)) read.ends_so
        ∙ half_opens (length head + length (joined parts ++ gap)) is.rest is.rest_is
        ∙ size ∙ sym is.place_is
