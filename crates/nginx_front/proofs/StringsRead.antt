-- What the strings of a directive give is what is read of them.
use Rattle.std.proofs.Common.{◌≡◌, ℕ, ◌+◌, ◌-◌, ◌≤◌, ◌&&◌, ◌||◌, Bool, true, false, cond, not, eqb, List, [], ◌∷◌, ◌++◌, length, refl, sym, ap, subst, ◌∙◌, append_assoc, add-zero, arith, inl, inr}
use Rattle.std.specs.List.{list_all}
use Rattle.std.proofs.lemmas.Bool.{eqb-true, and_parts, or_cases, not-true}
use Rattle.std.proofs.lemmas.List.{append-nil}
use Rattle.lf_syntax.specs.declared.leaf.Leaf.TheVariants.{End}
use Rattle.lf_syntax.specs.Grammar.{Grammar, leaf, choice, joined, Each}
use Rattle.nginx_front.specs.declared.strings.Placed.{Placed}
use Rattle.nginx_front.specs.declared.strings.Mode.{Mode}
use Rattle.nginx_front.specs.declared.strings.Mode.TheVariants.{Outside, Quoted, Backslash}
use Rattle.nginx_front.specs.Bytes.{is_quote, is_bare, escaped}
use Rattle.nginx_front.specs.Syntax.{Is, byte, some, white, bare, letter, opened, one_of, half_string}
use Rattle.nginx_front.specs.Strings.{placed, plain_given, escape_given, letter_given, letters_given, StringGives, run, quoted, PartGives, PartsGive}
use Rattle.nginx_front.specs.Passes.{next, gives, mode_after, given_by, open_place}
use Rattle.nginx_front.proofs.EachByte.{passes, every, one_byte}

-- a text at a place gives these bytes, and leads from one mode to another
pub record Reads (from : Mode) (place : ℕ) (text : List ℕ) (given : List Placed) (to : Mode) : Type 0 where
  pub gives_so : given_by from place text ≡ given
  pub ends_so : mode_after from place text ≡ to

further : (place x : ℕ) (text : List ℕ) → (place + 1) + length text ≡ place + length (x ∷ text)
further place x text = omega arith

given_on : (from : Mode) (place : ℕ) (a b : List ℕ) → given_by from place (a ++ b) ≡ given_by from place a ++ given_by (mode_after from place a) (place + length a) b
given_on from place [] b = ap (λ (n : ℕ). given_by from n b) (sym (add-zero place))
given_on from place (x ∷ a) b =
    ap (λ (g : List Placed). gives from place x ++ g) (given_on (next from place x) (place + 1) a b ∙ ap (λ (n : ℕ). given_by (next from place x) (place + 1) a ++ given_by (mode_after (next from place x) (place + 1) a) n b) (further place x a))
    ∙ sym (append_assoc (gives from place x) (given_by (next from place x) (place + 1) a) (given_by (mode_after (next from place x) (place + 1) a) (place + length (x ∷ a)) b))

pub mode_on : (from : Mode) (place : ℕ) (a b : List ℕ) → mode_after from place (a ++ b) ≡ mode_after (mode_after from place a) (place + length a) b
mode_on from place [] b = ap (λ (n : ℕ). mode_after from n b) (sym (add-zero place))
mode_on from place (x ∷ a) b = mode_on (next from place x) (place + 1) a b ∙ ap (λ (n : ℕ). mode_after (mode_after (next from place x) (place + 1) a) n b) (further place x a)

pub joins : (m n k : Mode) (place : ℕ) (a b : List ℕ) (x y : List Placed) → Reads m place a x n → Reads n (place + length a) b y k → Reads m place (a ++ b) (x ++ y) k
joins m n k place a b x y first second = record {
  gives_so = given_on m place a b ∙ ap (λ (g : List Placed). g ++ given_by (mode_after m place a) (place + length a) b) first.gives_so ∙ ap (λ (o : Mode). x ++ given_by o (place + length a) b) first.ends_so ∙ ap (λ (g : List Placed). x ++ g) second.gives_so;
  ends_so = mode_on m place a b ∙ ap (λ (o : Mode). mode_after o (place + length a) b) first.ends_so ∙ second.ends_so;
}

-- ---- bytes out of quotes

-- white space and `;`
abbrev pub is_silent : ℕ → Bool
is_silent b = not (is_bare b) && not (is_quote b)

abbrev is_run : ℕ → Bool
is_run b = is_bare b && not (is_quote b)

stays : (b place : ℕ) (kept : Bool) → is_bare b ≡ kept → is_quote b ≡ false → (gives Outside place b ≡ cond kept (placed b place ∷ []) []) × (next Outside place b ≡ Outside)
stays b place kept is none = (ap (λ v. cond v (placed b place ∷ []) []) is, ap (λ v. cond v (Quoted b place) Outside) none)

silent : (place : ℕ) (text : List ℕ) → list_all is_silent text ≡ true → Reads Outside place text [] Outside
silent place [] all = record { gives_so = refl; ends_so = refl }
silent place (b ∷ text) all =
    let both = and_parts (is_silent b) (list_all is_silent text) all in
    let two = and_parts (not (is_bare b)) (not (is_quote b)) both.0 in
    let one = stays b place false (not-true (is_bare b) two.0) (not-true (is_quote b) two.1) in
    let rest = silent (place + 1) text both.1 in
    record {
      gives_so = ap (λ (g : List Placed). g ++ given_by (next Outside place b) (place + 1) text) one.0 ∙ ap (λ (m : Mode). given_by m (place + 1) text) one.1 ∙ rest.gives_so;
      ends_so = ap (λ (m : Mode). mode_after m (place + 1) text) one.1 ∙ rest.ends_so;
    }

plain : (place : ℕ) (text : List ℕ) → list_all is_run text ≡ true → Reads Outside place text (plain_given place text) Outside
plain place [] all = record { gives_so = refl; ends_so = refl }
plain place (b ∷ text) all =
    let both = and_parts (is_run b) (list_all is_run text) all in
    let two = and_parts (is_bare b) (not (is_quote b)) both.0 in
    let one = stays b place true two.0 (not-true (is_quote b) two.1) in
    let rest = plain (place + 1) text both.1 in
    record {
      gives_so = ap (λ (g : List Placed). g ++ given_by (next Outside place b) (place + 1) text) one.0 ∙ ap (λ (m : Mode). placed b place ∷ given_by m (place + 1) text) one.1 ∙ ap (λ (g : List Placed). placed b place ∷ g) rest.gives_so;
      ends_so = ap (λ (m : Mode). mode_after m (place + 1) text) one.1 ∙ rest.ends_so;
    }

pub reads_white : (g : Grammar) (place : ℕ) (text : List ℕ) → passes is_silent g ≡ true → Is g text → Reads Outside place text [] Outside
reads_white g place text all is = silent place text (every (λ w. ⊥) is_silent g text all is)

-- ---- bytes in quotes

-- what is so of `"` and of `'` is so of a quote
of_quotes : (P : ℕ → Type 0) → P 34 → P 39 → (quote : ℕ) → is_quote quote ≡ true → P quote
of_quotes P double single quote is = elim (or_cases (eqb quote 34) (eqb quote 39) is) [ inl e ↦ subst P (sym (eqb-true quote 34 e)) double | inr e ↦ subst P (sym (eqb-true quote 39 e)) single ]

-- bytes of ranges that have neither the quote nor a backslash
abbrev is_inner : ℕ → ℕ → Bool
is_inner quote b = not (eqb b quote) && not (eqb b 92)

inner : (quote at place : ℕ) (text : List ℕ) (b : ℕ) → text ≡ b ∷ [] → list_all (is_inner quote) text ≡ true → Reads (Quoted quote at) place text (letter_given place text) (Quoted quote at)
inner quote at place text b is all =
    let here : list_all (is_inner quote) (b ∷ []) ≡ true = subst (λ (t : List ℕ). list_all (is_inner quote) t ≡ true) is all in
    let two = and_parts (not (eqb b quote)) (not (eqb b 92)) (and_parts (is_inner quote b) true here).0 in
    let other = not-true (eqb b quote) two.0 in
    let no_escape = not-true (eqb b 92) two.1 in
    subst (λ (t : List ℕ). Reads (Quoted quote at) place t (letter_given place t) (Quoted quote at)) (sym is) (record {
      gives_so = ap (λ v. cond (v || eqb b 92) [] (placed b place ∷ []) ++ []) other ∙ ap (λ v. cond v [] (placed b place ∷ []) ++ []) no_escape;
      ends_so = ap (λ v. cond v Outside (cond (eqb b 92) (Backslash quote at) (Quoted quote at))) other ∙ ap (λ v. cond v (Backslash quote at) (Quoted quote at)) no_escape;
    })

-- a backslash and a byte
pair_of : (text a b : List ℕ) (x c : ℕ) → text ≡ a ++ b → a ≡ x ∷ [] → 92 ≤ x → x ≤ 92 → b ≡ c ∷ [] → text ≡ 92 ∷ c ∷ []
pair_of text a b x c e f le most g = let same : x ≡ 92 = omega arith in e ∙ ap (λ (t : List ℕ). t ++ b) (f ∙ ap (λ (n : ℕ). n ∷ []) same) ∙ ap (λ (t : List ℕ). 92 ∷ t) g

before_backslash : (place : ℕ) → (place + 1) - 1 ≡ place
before_backslash place = omega arith

abbrev ReadsLetter : ℕ → Type 0
ReadsLetter quote = (at place : ℕ) (text : List ℕ) → Is (letter quote) text → Reads (Quoted quote at) place text (letter_given place text) (Quoted quote at)

double_pair : (at place c : ℕ) → Reads (Quoted 34 at) place (92 ∷ c ∷ []) (escape_given place c (escaped c)) (Quoted 34 at)
double_pair at place c = record { gives_so = append-nil (escape_given (place + 1 - 1) c (escaped c)) ∙ ap (λ (n : ℕ). escape_given n c (escaped c)) (before_backslash place); ends_so = refl }

single_pair : (at place c : ℕ) → Reads (Quoted 39 at) place (92 ∷ c ∷ []) (escape_given place c (escaped c)) (Quoted 39 at)
single_pair at place c = record { gives_so = append-nil (escape_given (place + 1 - 1) c (escaped c)) ∙ ap (λ (n : ℕ). escape_given n c (escaped c)) (before_backslash place); ends_so = refl }

at_pair : (quote at place : ℕ) (text : List ℕ) (c : ℕ) → text ≡ 92 ∷ c ∷ [] → Reads (Quoted quote at) place (92 ∷ c ∷ []) (escape_given place c (escaped c)) (Quoted quote at) → Reads (Quoted quote at) place text (letter_given place text) (Quoted quote at)
at_pair quote at place text c is h = subst (λ (t : List ℕ). Reads (Quoted quote at) place t (letter_given place t) (Quoted quote at)) (sym is) h

reads_double : ReadsLetter 34
reads_double at place text s = elim s [
  | inl x ↦ (let one = one_byte (λ w. ⊥) ((93, 255) ∷ (35, 91) ∷ []) (0, 33) text x in inner 34 at place text one.0 one.1 (every (λ w. ⊥) (is_inner 34) (one_of ((93, 255) ∷ (35, 91) ∷ []) (0, 33)) text refl x))
  | inr y ↦ at_pair 34 at place text y.4.0 (pair_of text y.0 y.1 y.3.0 y.4.0 y.2 y.3.1 y.3.2 y.3.3 y.4.1) (double_pair at place y.4.0)
]

reads_single : ReadsLetter 39
reads_single at place text s = elim s [
  | inl x ↦ (let one = one_byte (λ w. ⊥) ((93, 255) ∷ (40, 91) ∷ []) (0, 38) text x in inner 39 at place text one.0 one.1 (every (λ w. ⊥) (is_inner 39) (one_of ((93, 255) ∷ (40, 91) ∷ []) (0, 38)) text refl x))
  | inr y ↦ at_pair 39 at place text y.4.0 (pair_of text y.0 y.1 y.3.0 y.4.0 y.2 y.3.1 y.3.2 y.3.3 y.4.1) (single_pair at place y.4.0)
]

reads_letters : (quote : ℕ) → ReadsLetter quote → (at place : ℕ) (letters : List (List ℕ)) → Each (Is (letter quote)) letters → Reads (Quoted quote at) place (joined letters) (letters_given place letters) (Quoted quote at)
reads_letters quote each at place [] are = record { gives_so = refl; ends_so = refl }
reads_letters quote each at place (one ∷ letters) are = joins (Quoted quote at) (Quoted quote at) (Quoted quote at) place one (joined letters) (letter_given place one) (letters_given (place + length one) letters) (each at place one are.0) (reads_letters quote each at (place + length one) letters are.1)

-- ---- strings

abbrev ReadsQuoted : ℕ → Type 0
ReadsQuoted quote = (place : ℕ) (letters : List (List ℕ)) → Each (Is (letter quote)) letters → Reads Outside place (quote ∷ (joined letters ++ quote ∷ [])) (letters_given (place + 1) letters) Outside

opens : (quote place : ℕ) (text : List ℕ) (given : List Placed) (to : Mode) → gives Outside place quote ≡ [] → next Outside place quote ≡ Quoted quote place → Reads (Quoted quote place) (place + 1) text given to → Reads Outside place (quote ∷ text) given to
opens quote place text given to none leads rest = record {
  gives_so = ap (λ (g : List Placed). g ++ given_by (next Outside place quote) (place + 1) text) none ∙ ap (λ (m : Mode). given_by m (place + 1) text) leads ∙ rest.gives_so;
  ends_so = ap (λ (m : Mode). mode_after m (place + 1) text) leads ∙ rest.ends_so;
}

closes : (quote place : ℕ) (text : List ℕ) (given : List Placed) → Reads (Quoted quote place) (place + 1) text given (Quoted quote place) → Reads (Quoted quote place) (place + 1 + length text) (quote ∷ []) [] Outside → Reads (Quoted quote place) (place + 1) (text ++ quote ∷ []) given Outside
closes quote place text given most end = subst (λ (g : List Placed). Reads (Quoted quote place) (place + 1) (text ++ quote ∷ []) g Outside) (append-nil given) (joins (Quoted quote place) (Quoted quote place) Outside (place + 1) text (quote ∷ []) given [] most end)

reads_quoted : (quote : ℕ) → is_quote quote ≡ true → ReadsQuoted quote
reads_quoted = of_quotes ReadsQuoted
    (λ place letters are. opens 34 place (joined letters ++ 34 ∷ []) (letters_given (place + 1) letters) Outside refl refl (closes 34 place (joined letters) (letters_given (place + 1) letters) (reads_letters 34 reads_double place (place + 1) letters are) (record { gives_so = refl; ends_so = refl })))
    (λ place letters are. opens 39 place (joined letters ++ 39 ∷ []) (letters_given (place + 1) letters) Outside refl refl (closes 39 place (joined letters) (letters_given (place + 1) letters) (reads_letters 39 reads_single place (place + 1) letters are) (record { gives_so = refl; ends_so = refl })))

reads_string : (place : ℕ) (text : List ℕ) (given : List Placed) → StringGives place text given → Reads Outside place text given Outside
reads_string place text given (run is eg) = subst (λ (g : List Placed). Reads Outside place text g Outside) (sym eg) (plain place text (every (λ w. ⊥) is_run (some bare) text refl is))
reads_string place text given (quoted quote letters is are et eg) =
    subst (λ (t : List ℕ). Reads Outside place t given Outside) (sym et) (subst (λ (g : List Placed). Reads Outside place (quote ∷ (joined letters ++ quote ∷ [])) g Outside) (sym eg) (reads_quoted quote is place letters are))

reads_part : (place : ℕ) (text : List ℕ) (given : List Placed) → PartGives place text given → Reads Outside place text given Outside
reads_part place text given h = subst (λ (t : List ℕ). Reads Outside place t given Outside) (sym h.text_is) (joins Outside Outside Outside place h.gap h.string [] given (reads_white (some white) place h.gap refl h.white) (reads_string (place + length h.gap) h.string given h.gives))

pub reads_parts : (place : ℕ) (parts : List (List ℕ)) (given : List Placed) → PartsGive place parts given → Reads Outside place (joined parts) given Outside
reads_parts place [] given h = subst (λ (g : List Placed). Reads Outside place [] g Outside) (sym h) (record { gives_so = refl; ends_so = refl })
reads_parts place (one ∷ parts) given h =
    subst (λ (g : List Placed). Reads Outside place (one ++ joined parts) g Outside) (sym h.2) (joins Outside Outside Outside place one (joined parts) h.0 h.1 (reads_part place one h.0 h.3) (reads_parts (place + length one) parts h.1 h.4))

-- ---- a string without its end

half : (quote at place : ℕ) (text letters_text end : List ℕ) (letters : List (List ℕ)) → ReadsLetter quote → text ≡ letters_text ++ end → letters_text ≡ joined letters → Each (Is (letter quote)) letters → ((n : ℕ) → open_place (mode_after (Quoted quote at) n end) ≡ at) → open_place (mode_after (Quoted quote at) place text) ≡ at
half quote at place text letters_text end letters each e f are last =
    let read = reads_letters quote each at place letters are in
    ap (λ (t : List ℕ). open_place (mode_after (Quoted quote at) place t)) (e ∙ ap (λ (t : List ℕ). t ++ end) f)
    ∙ ap open_place (mode_on (Quoted quote at) place (joined letters) end)
    ∙ ap (λ (m : Mode). open_place (mode_after m (place + length (joined letters)) end)) read.ends_so
    ∙ last (place + length (joined letters))

abbrev half_end : Grammar
half_end = choice (leaf End) (byte 92)

ends_open : (quote at : ℕ) (end : List ℕ) → eqb 92 quote ≡ false → Is half_end end → (n : ℕ) → open_place (mode_after (Quoted quote at) n end) ≡ at
ends_open quote at end other s n = elim s [
  | inl x ↦ ap (λ (t : List ℕ). open_place (mode_after (Quoted quote at) n t)) x
  | inr y ↦ (let same : y.0 ≡ 92 = omega (arith, y.2, y.3) in
      ap (λ (t : List ℕ). open_place (mode_after (Quoted quote at) n t)) (y.1 ∙ ap (λ (b : ℕ). b ∷ []) same) ∙ ap (λ v. open_place (cond v Outside (Backslash quote at))) other)
]

open_at : (quote place : ℕ) (text : List ℕ) → ReadsLetter quote → eqb 92 quote ≡ false → next Outside place quote ≡ Quoted quote place → Is (opened quote half_end) text → open_place (mode_after Outside place text) ≡ place
open_at quote place text each other leads s =
    let same : s.3.0 ≡ quote = omega (arith, s.3.2, s.3.3) in
    ap (λ (t : List ℕ). open_place (mode_after Outside place t)) (s.2 ∙ ap (λ (t : List ℕ). t ++ s.1) (s.3.1 ∙ ap (λ (b : ℕ). b ∷ []) same))
    ∙ ap (λ (m : Mode). open_place (mode_after m (place + 1) s.1)) leads
    ∙ half quote place (place + 1) s.1 s.4.0 s.4.1 s.4.3.0 each s.4.2 s.4.3.1 s.4.3.2 (ends_open quote place s.4.1 other s.4.4)

pub half_opens : (place : ℕ) (text : List ℕ) → Is half_string text → open_place (mode_after Outside place text) ≡ place
half_opens place text s = elim s [
  | inl double ↦ open_at 34 place text reads_double refl refl double
  | inr single ↦ open_at 39 place text reads_single refl refl single
]
