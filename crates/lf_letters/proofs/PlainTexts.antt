-- Texts of plain letters.
use Rattle.std.proofs.Common.{◌≡◌, ℕ, zero, suc, ◌-◌, ◌<◌, Bool, true, false, List, [], ◌∷◌, ◌++◌, length, take, drop, get_or, refl, sym, ap, ◌∙◌, arith}
use Rattle.std.specs.Prelude.{All, cond}
use Rattle.std.specs.List.{flat_map}
use Rattle.std.proofs.lemmas.List.{length-append, take-append-drop}
use Rattle.std.proofs.lemmas.List.Elements.{All-nil, All-cons}
use Rattle.std.proofs.lemmas.Str.{IsUtf8-from_ascii, is_utf8-from_IsUtf8}
use Rattle.std.proofs.lemmas.Str.Ascii.{IsAscii-from_all}
use Rattle.lf_core.specs.Class.{is_letter}
use Rattle.lf_core.specs.declared.class.Class.{Class}
use Rattle.lf_escape.specs.Codes.{coded}
use Rattle.lf_escape.specs.Codings.{coding_word}
use Rattle.lf_escape.specs.declared.coding.Coding.{Coding}
use Rattle.lf_json.specs.Text.{json_letter, json_string, hex_object, text_json}
use Rattle.lf_json.proofs.StringLaws.{json_letter-bare}
use Rattle.lf_letters.specs.Decodes.{Decodes}
use Rattle.lf_letters.specs.Plain.{AreBare, ArePlain, IsPlain}
use Rattle.lf_letters.specs.Reads.{ReadsLetters}

-- Marked letters at the front are plain.
pub front-plain : (set : Class) (code : Coding) (marks : List Bool) (n : ℕ) (text : List ℕ)
    → ((b : ℕ) → get_or marks b false ≡ true → IsPlain set code b) → ((k : ℕ) → k < n → get_or marks (get_or text k 0) false ≡ true) → ArePlain set code (take n text)
front-plain set code marks zero text plain marked = tt
front-plain set code marks (suc n) [] plain marked = tt
front-plain set code marks (suc n) (b ∷ bs) plain marked =
    (plain b (marked 0 (omega arith)), front-plain set code marks n bs plain (λ k l. marked (suc k) (omega (arith, l))))

pub plain-in : (set : Class) (code : Coding) (text : List ℕ) → ArePlain set code text → All (λ letter. is_letter set letter ≡ true) text
plain-in set code [] h = All-nil (λ letter. is_letter set letter ≡ true)
plain-in set code (b ∷ bs) h = All-cons (λ letter. is_letter set letter ≡ true) b bs h.0.member (plain-in set code bs h.1)

plain-bare : (set : Class) (code : Coding) (text : List ℕ) → ArePlain set code text → AreBare text
plain-bare set code [] h = tt
plain-bare set code (b ∷ bs) h = (h.0.ascii, h.0.bare, plain-bare set code bs h.1)

bare-append : (xs ys : List ℕ) → AreBare xs → AreBare ys → AreBare (xs ++ ys)
bare-append [] ys h k = k
bare-append (x ∷ xs) ys h k = (h.0, h.1, bare-append xs ys h.2 k)

bare-ascii : (text : List ℕ) → AreBare text → All (λ b. b < 128) text
bare-ascii [] h = All-nil (λ b. b < 128)
bare-ascii (b ∷ bs) h = All-cons (λ b. b < 128) b bs h.0 (bare-ascii bs h.2)

bare-letters : (text : List ℕ) → AreBare text → flat_map json_letter text ≡ text
bare-letters [] h = refl
bare-letters (b ∷ bs) h =
    ap (λ (w : List ℕ). w ++ flat_map json_letter bs) (json_letter-bare b h.1) ∙ ap (λ (t : List ℕ). b ∷ t) (bare-letters bs h.2)

-- The JSON of bare letters is themselves between quotes.
pub bare-json : (text : List ℕ) → AreBare text → text_json text ≡ 34 ∷ (text ++ 34 ∷ [])
bare-json text h =
    let utf8 = is_utf8-from_IsUtf8 text (IsUtf8-from_ascii text (IsAscii-from_all text (bare-ascii text h))) in
    ap (λ (b : Bool). cond b (json_string text) (hex_object text)) utf8 ∙ ap (λ (t : List ℕ). 34 ∷ (t ++ 34 ∷ [])) (bare-letters text h)

pub plain-coded : (set : Class) (code : Coding) (text : List ℕ) → ArePlain set code text → coded (coding_word code) text ≡ text
plain-coded set code [] h = refl
plain-coded set code (b ∷ bs) h =
    ap (λ (w : List ℕ). w ++ coded (coding_word code) bs) h.0.alone ∙ ap (λ (t : List ℕ). b ∷ t) (plain-coded set code bs h.1)

-- Plain letters are read.
pub reads-plain : (set : Class) (code : Coding) (lead text span left old new : List ℕ) → AreBare lead → ArePlain set code span → text ≡ span ++ left
    → new ≡ old ++ 34 ∷ ((lead ++ span) ++ 34 ∷ []) → ReadsLetters set code lead (length span) text left old new
reads-plain set code lead text span left old new bare plain parts added = record {
  letters = span;
  members = plain-in set code span plain;
  many = refl;
  written = parts ∙ ap (λ (s : List ℕ). s ++ left) (sym (plain-coded set code span plain));
  added = added ∙ ap (λ (s : List ℕ). old ++ s) (sym (bare-json (lead ++ span) (bare-append lead span bare (plain-bare set code span plain))));
}

-- Letters are read by their words.
pub reads-words : (set : Class) (code : Coding) (lead buffer text left old new : List ℕ) → Decodes set code text left lead buffer → new ≡ old ++ text_json buffer
    → ReadsLetters set code lead (length buffer - length lead) text left old new
reads-words set code lead buffer text left old new d added = record {
  letters = d.letters;
  members = d.members;
  many = let e = ap (λ (t : List ℕ). length t) d.added ∙ length-append lead d.letters in omega (arith, e);
  written = d.parts;
  added = added ∙ ap (λ (t : List ℕ). old ++ text_json t) d.added;
}

-- A text is cut in two.
pub cut-parts : (n : ℕ) (text front back : List ℕ) → front ≡ take n text → back ≡ drop n text → text ≡ front ++ back
cut-parts n text front back f b =
    sym (take-append-drop n text) ∙ ap (λ (s : List ℕ). s ++ drop n text) (sym f) ∙ ap (λ (s : List ℕ). front ++ s) (sym b)
