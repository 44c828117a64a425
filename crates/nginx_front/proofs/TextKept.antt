-- What the strings of a text give is text, and no longer.
use Rattle.std.proofs.Common.{◌≡◌, ℕ, ◌+◌, ◌-◌, ◌<◌, ◌≤◌, ◌&&◌, ◌||◌, Bool, true, false, cond, not, eqb, List, [], ◌∷◌, ◌++◌, length, Option, Some, None, refl, sym, ap, subst, ◌∙◌, append_assoc, length-append, arith, inl, inr}
use Rattle.std.specs.Prelude.{nat_lt}
use Rattle.std.specs.List.{list_any, list_all}
use Rattle.std.specs.Str.{IsUtf8, IsCharBoundary}
use Rattle.std.proofs.lemmas.Bool.{eqb-true, ltb-true, cond_both, and_parts, or_cases, not-false, not-true}
use Rattle.std.proofs.lemmas.List.{take_at, drop_at, append-nil}
use Rattle.std.proofs.lemmas.List.Elements.{All-nil, All-cons}
use Rattle.std.proofs.lemmas.Str.{IsUtf8-nil, IsUtf8-from_ascii, IsUtf8-take, IsUtf8-drop, IsUtf8-append, IsCharBoundary-before_ascii}
use Rattle.std.proofs.lemmas.Str.Ascii.{IsAscii-from_all}
use Rattle.std.proofs.Math.Seq.{get_or-append_seam}
use Rattle.lf_syntax.specs.Grammar.{joined, Each}
use Rattle.lf_spelling.specs.Runs.{past, stops}
use Rattle.lf_spelling.specs.TextLaws.{text_after}
use Rattle.nginx_front.specs.declared.strings.Placed.{Placed}
use Rattle.nginx_front.specs.declared.strings.Mode.{Mode}
use Rattle.nginx_front.specs.declared.strings.Mode.TheVariants.{Outside, Quoted, Backslash}
use Rattle.nginx_front.specs.declared.table.Escape.{Escape}
use Rattle.nginx_front.specs.Bytes.{is_white, is_quote, is_special, is_bare, escape_in, escaped}
use Rattle.nginx_front.specs.Syntax as syntax
use Rattle.nginx_front.specs.Syntax.{Is, part}
use Rattle.nginx_front.specs.Strings.{placed, escape_given, PartsGive}
use Rattle.nginx_front.specs.Escapes.{names_escape}
use Rattle.nginx_front.specs.Passes.{given_by}
use Rattle.nginx_front.specs.Parts.{StringsGive, IsSpelled}
use Rattle.nginx_front.specs.Whole.{bytes_of}
use Rattle.nginx_front.proofs.Cuts.{parts_stop}
use Rattle.nginx_front.proofs.StringsRead.{joins, reads_white, reads_parts}
use Rattle.nginx_front.proofs.DirectiveRead.{tail_stops}

ascii_starts : (a : List ℕ) (c : ℕ) (b : List ℕ) → c < 128 → IsCharBoundary (a ++ c ∷ b) (length a)
ascii_starts a c b low = IsCharBoundary-before_ascii (a ++ c ∷ b) (length a) (omega (arith, length-append a (c ∷ b))) (subst (λ (n : ℕ). n < 128) (sym (get_or-append_seam a c b 0)) low)

back_ascii : (a : List ℕ) (c : ℕ) (b : List ℕ) → c < 128 → IsUtf8 (a ++ c ∷ b) → IsUtf8 (c ∷ b)
back_ascii a c b low whole = subst IsUtf8 (drop_at a (c ∷ b) (length a) refl) (IsUtf8-drop (a ++ c ∷ b) (length a) whole (ascii_starts a c b low))

ascii_cut : (a : List ℕ) (c : ℕ) (b : List ℕ) → c < 128 → IsUtf8 (a ++ c ∷ b) → IsUtf8 a × IsUtf8 b
ascii_cut a c b low whole = (subst IsUtf8 (take_at a (c ∷ b) (length a) refl) (IsUtf8-take (a ++ c ∷ b) (length a) whole (ascii_starts a c b low)), text_after c b (back_ascii a c b low whole) low)

one_ascii : (b : ℕ) → b < 128 → IsUtf8 (b ∷ [])
one_ascii b low = IsUtf8-from_ascii (b ∷ []) (IsAscii-from_all (b ∷ []) (All-cons (λ c. c < 128) b [] low (All-nil (λ c. c < 128))))

-- Without some bytes of ASCII, and with others of ASCII in the place of such, a text stays text and is no longer.
record Thins (text out : List ℕ) : Type 0 where
  keeps : (front : List ℕ) → IsUtf8 (front ++ text) → IsUtf8 (front ++ out)
  fits : length out ≤ length text

ended : Thins [] []
ended = record { keeps = λ front whole. whole; fits = omega arith }

kept : (b : ℕ) (text out : List ℕ) → Thins text out → Thins (b ∷ text) (b ∷ out)
kept b text out h = record {
  keeps = λ front whole. subst IsUtf8 (append_assoc front (b ∷ []) out) (h.keeps (front ++ b ∷ []) (subst IsUtf8 (sym (append_assoc front (b ∷ []) text)) whole));
  fits = omega (arith, h.fits);
}

dropped : (b : ℕ) (text out : List ℕ) → b < 128 → Thins text out → Thins (b ∷ text) out
dropped b text out low h = record {
  keeps = λ front whole. (let cut = ascii_cut front b text low whole in h.keeps front (IsUtf8-append front text cut.0 cut.1));
  fits = omega (arith, h.fits);
}

swapped : (b c : ℕ) (text out : List ℕ) → b < 128 → c < 128 → Thins text out → Thins (b ∷ text) (c ∷ out)
swapped b c text out low less h = record {
  keeps = λ front whole. (let cut = ascii_cut front b text low whole in
      let more = IsUtf8-append front (c ∷ []) cut.0 (one_ascii c less) in
      subst IsUtf8 (append_assoc front (c ∷ []) out) (h.keeps (front ++ c ∷ []) (IsUtf8-append (front ++ c ∷ []) text more cut.1)));
  fits = omega (arith, h.fits);
}

-- ---- the bytes that are left out are of ASCII

one_low : (b : ℕ) (cs : List ℕ) → list_any (λ c. eqb b c) cs ≡ true → list_all (λ c. nat_lt c 128) cs ≡ true → b < 128
one_low b [] h all = absurd (cc)
one_low b (c ∷ cs) h all =
    let both = and_parts (nat_lt c 128) (list_all (λ c. nat_lt c 128) cs) all in
    elim (or_cases (eqb b c) (list_any (λ c. eqb b c) cs) h) [
      | inl e ↦ subst (λ (n : ℕ). n < 128) (sym (eqb-true b c e)) (ltb-true c 128 both.0)
      | inr more ↦ one_low b cs more both.1
    ]

special_low : (b : ℕ) → is_bare b ≡ false → b < 128
special_low b h = elim (or_cases (is_white b) (list_any (λ c. eqb b c) (59 ∷ 34 ∷ 39 ∷ 92 ∷ [])) (not-false (is_special b) h)) [ inl white ↦ one_low b (32 ∷ 9 ∷ 13 ∷ 10 ∷ []) white refl | inr other ↦ one_low b (59 ∷ 34 ∷ 39 ∷ 92 ∷ []) other refl ]

quote_low : (b : ℕ) → is_quote b ≡ true → b < 128
quote_low b h = elim (or_cases (eqb b 34) (eqb b 39) h) [ inl e ↦ omega (arith, eqb-true b 34 e) | inr e ↦ omega (arith, eqb-true b 39 e) ]

row_low : (rows : List (ℕ × ℕ)) (c b : ℕ) → list_all (λ (row : ℕ × ℕ). nat_lt row.0 128 && nat_lt row.1 128) rows ≡ true → escape_in rows c ≡ Some b → (c < 128) × (b < 128)
row_low [] c b all h = absurd (cc)
row_low (row ∷ rows) c b all h =
    let both = and_parts (nat_lt row.0 128 && nat_lt row.1 128) (list_all (λ (row : ℕ × ℕ). nat_lt row.0 128 && nat_lt row.1 128) rows) all in
    let two = and_parts (nat_lt row.0 128) (nat_lt row.1 128) both.0 in
    let from : row.0 < 128 = ltb-true row.0 128 two.0 in
    let to : row.1 < 128 = ltb-true row.1 128 two.1 in
    cond_both (eqb c row.0) (Some row.1) (escape_in rows c) (λ (o : Option ℕ). o ≡ Some b → (c < 128) × (b < 128))
    (λ e k. let same : row.1 ≡ b = cc in (omega (arith, eqb-true c row.0 e, from), omega (arith, same, to)))
    (λ e k. row_low rows c b both.1 k) h

escaped_low : (c b : ℕ) → escaped c ≡ Some b → (c < 128) × (b < 128)
escaped_low c b h = row_low ((34, 34) ∷ (39, 39) ∷ (92, 92) ∷ (116, 9) ∷ (114, 13) ∷ (110, 10) ∷ []) c b refl h

-- ---- what a text gives is thinner

abbrev IsLow : Mode → Type 0
IsLow Outside = Unit {0}
IsLow (Quoted quote at) = quote < 128
IsLow (Backslash quote at) = quote < 128

-- with the backslash that has given nothing yet
abbrev lead : Mode → List ℕ → List ℕ
lead Outside text = text
lead (Quoted quote at) text = text
lead (Backslash quote at) text = 92 ∷ text

abbrev Thinner : Mode → ℕ → List ℕ → Type 0
Thinner mode place text = Thins (lead mode text) (bytes_of (given_by mode place text))

backslash_low : 92 < 128
backslash_low = omega arith

module _ (place b : ℕ) (text : List ℕ) (on : (mode : Mode) → IsLow mode → Thinner mode (place + 1) text) where
  out_by : (bare quote : Bool) → is_bare b ≡ bare → is_quote b ≡ quote → Thins (b ∷ text) (bytes_of (cond bare (placed b place ∷ []) [] ++ given_by (cond quote (Quoted b place) Outside) (place + 1) text))
  out_by true true e f = kept b text (bytes_of (given_by (Quoted b place) (place + 1) text)) (on (Quoted b place) (quote_low b f))
  out_by true false e f = kept b text (bytes_of (given_by Outside (place + 1) text)) (on Outside tt)
  out_by false true e f = dropped b text (bytes_of (given_by (Quoted b place) (place + 1) text)) (special_low b e) (on (Quoted b place) (quote_low b f))
  out_by false false e f = dropped b text (bytes_of (given_by Outside (place + 1) text)) (special_low b e) (on Outside tt)

  in_by : (quote at : ℕ) (ends backslash : Bool) → quote < 128 → eqb b quote ≡ ends → eqb b 92 ≡ backslash → Thins (b ∷ text) (bytes_of (cond (ends || backslash) [] (placed b place ∷ []) ++ given_by (cond ends Outside (cond backslash (Backslash quote at) (Quoted quote at))) (place + 1) text))
  in_by quote at true backslash low e f = dropped b text (bytes_of (given_by Outside (place + 1) text)) (subst (λ (n : ℕ). n < 128) (sym (eqb-true b quote e)) low) (on Outside tt)
  in_by quote at false true low e f = subst (λ (n : ℕ). Thins (n ∷ text) (bytes_of (given_by (Backslash quote at) (place + 1) text))) (sym (eqb-true b 92 f)) (on (Backslash quote at) low)
  in_by quote at false false low e f = kept b text (bytes_of (given_by (Quoted quote at) (place + 1) text)) (on (Quoted quote at) low)

  after_by : (quote at : ℕ) (o : Option ℕ) → quote < 128 → escaped b ≡ o → Thins (92 ∷ b ∷ text) (bytes_of (escape_given (place - 1) b o ++ given_by (Quoted quote at) (place + 1) text))
  after_by quote at (Some c) low e = let both = escaped_low b c e in dropped 92 (b ∷ text) (c ∷ bytes_of (given_by (Quoted quote at) (place + 1) text)) backslash_low (swapped b c text (bytes_of (given_by (Quoted quote at) (place + 1) text)) both.0 both.1 (on (Quoted quote at) low))
  after_by quote at None low e = kept 92 (b ∷ text) (b ∷ bytes_of (given_by (Quoted quote at) (place + 1) text)) (kept b text (bytes_of (given_by (Quoted quote at) (place + 1) text)) (on (Quoted quote at) low))

thinner : (text : List ℕ) (mode : Mode) (place : ℕ) → IsLow mode → Thinner mode place text
thinner [] Outside place low = ended
thinner [] (Quoted quote at) place low = ended
thinner [] (Backslash quote at) place low = dropped 92 [] [] backslash_low ended
thinner (b ∷ text) Outside place low = out_by place b text (λ mode low. thinner text mode (place + 1) low) (is_bare b) (is_quote b) refl refl
thinner (b ∷ text) (Quoted quote at) place low = in_by place b text (λ mode low. thinner text mode (place + 1) low) quote at (eqb b quote) (eqb b 92) low refl refl
thinner (b ∷ text) (Backslash quote at) place low = after_by place b text (λ mode low. thinner text mode (place + 1) low) quote at (escaped b) low refl

-- ---- the strings of a directive

abbrev is_high : ℕ → Bool
is_high b = not (nat_lt b 128)

-- some rest of the text, which begins with a byte of ASCII and isn't shorter than what it gives
record Kept (text out : List ℕ) : Type 0 where
  before : List ℕ
  rest : List ℕ
  text_is : text ≡ before ++ rest
  low : stops is_high rest ≡ true
  thins : Thins rest out

parts_kept : (text before : List ℕ) (parts : List (List ℕ)) (tail : List ℕ) (place : ℕ) (given : List Placed) → text ≡ before ++ (joined parts ++ tail) → Each (Is part) parts → Is syntax.tail tail → PartsGive place parts given → Kept text (bytes_of given)
parts_kept text before parts tail place given is are end h =
    let read = joins Outside Outside Outside place (joined parts) tail given [] (reads_parts place parts given h) (reads_white syntax.tail (place + length (joined parts)) tail refl end) in
    record {
      before = before;
      rest = joined parts ++ tail;
      text_is = is;
      low = parts_stop is_high parts tail refl are (tail_stops is_high tail refl end);
      thins = subst (λ (g : List Placed). Thins (joined parts ++ tail) (bytes_of g)) (read.gives_so ∙ append-nil given) (thinner (joined parts ++ tail) Outside place tt);
    }

strings_kept : (text head : List ℕ) (n : Bool) (parts : List (List ℕ)) (tail : List ℕ) (given : List Placed) → text ≡ head ++ (joined parts ++ tail) → Each (Is part) parts → Is syntax.tail tail → StringsGive n (length head) parts given → Kept text (bytes_of given)
strings_kept text head false parts tail given is are end h = parts_kept text head parts tail (length head) given is are end h
strings_kept text head true [] tail given is are end h = absurd h
strings_kept text head true (one ∷ parts) tail given is are end h =
    parts_kept text (head ++ one) parts tail (length head + length one) given (is ∙ ap (λ (t : List ℕ). head ++ t) (append_assoc one (joined parts) tail) ∙ sym (append_assoc head one (joined parts ++ tail))) are.1 end h

directive_kept : (text : List ℕ) (e : Escape) (given : List Placed) → IsSpelled text e given → Kept text (bytes_of given)
directive_kept text e given is = strings_kept text is.head (names_escape (past is_white (joined is.parts ++ is.tail))) is.parts is.tail given is.text_is is.parts_are is.tail_is is.given_is

low_back : (before rest : List ℕ) → stops is_high rest ≡ true → IsUtf8 (before ++ rest) → IsUtf8 rest
low_back before [] low whole = IsUtf8-nil
low_back before (b ∷ rest) low whole = (let less : b < 128 = ltb-true b 128 (not-false (nat_lt b 128) (not-true (is_high b) low)) in back_ascii before b rest less whole)

pub joined_text : (text : List ℕ) (e : Escape) (given : List Placed) (bytes : List ℕ) → IsSpelled text e given → bytes ≡ bytes_of given → IsUtf8 text → IsUtf8 bytes
joined_text text e given bytes is are whole =
    let k = directive_kept text e given is in
    subst IsUtf8 (sym are) (k.thins.keeps [] (low_back k.before k.rest k.low (subst IsUtf8 k.text_is whole)))

pub joined_len : (text : List ℕ) (e : Escape) (given : List Placed) (bytes : List ℕ) → IsSpelled text e given → bytes ≡ bytes_of given → length bytes ≤ length text
joined_len text e given bytes is are =
    let k = directive_kept text e given is in
    omega (arith, ap length are, ap length k.text_is, length-append k.before k.rest, k.thins.fits)
