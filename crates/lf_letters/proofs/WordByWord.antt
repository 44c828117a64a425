-- Letters that are read one by one.
use Rattle.std.proofs.Common.{◌≡◌, ℕ, true, List, [], ◌∷◌, ◌++◌, refl, sym, ap, ◌∙◌, append_assoc, append-nil}
use Rattle.std.proofs.lemmas.List.Elements.{All-nil, All-cons, All-append}
use Rattle.lf_core.specs.Class.{is_letter}
use Rattle.lf_core.specs.declared.class.Class.{Class}
use Rattle.lf_escape.specs.Codes.{coded}
use Rattle.lf_escape.specs.Codings.{coding_word}
use Rattle.lf_escape.specs.declared.coding.Coding.{Coding}
use Rattle.lf_format.proofs.Adding.{coded-append}
use Rattle.lf_letters.specs.Decodes.{Decodes}
use Rattle.lf_letters.specs.Plain.{ArePlain}
use Rattle.lf_letters.proofs.PlainTexts.{plain-coded, plain-in}

-- No letter is read yet.
pub decodes-none : (set : Class) (code : Coding) (text letters : List ℕ) → Decodes set code text text letters letters
decodes-none set code text letters = record {
  letters = [];
  members = All-nil (λ letter. is_letter set letter ≡ true);
  parts = refl;
  added = sym (append-nil letters);
}

-- One letter more.
pub decodes-more : (set : Class) (code : Coding) (text left more old mid new : List ℕ) (letter : ℕ) → Decodes set code text left old mid → is_letter set letter ≡ true
    → left ≡ coding_word code letter ++ more → new ≡ mid ++ letter ∷ [] → Decodes set code text more old new
decodes-more set code text left more old mid new letter d member word pushed =
    let P : ℕ → Type 0 = λ (l : ℕ). is_letter set l ≡ true in
    let letters = d.letters in
    let front = coded (coding_word code) d.letters in
    record {
      letters = d.letters ++ letter ∷ [];
      members = All-append P letters (letter ∷ []) d.members (All-cons P letter [] member (All-nil P));
      parts = d.parts ∙ ap (λ (s : List ℕ). front ++ s) word ∙ sym (append_assoc front (coding_word code letter) more)
          ∙ ap (λ (s : List ℕ). (front ++ s) ++ more) (sym (append-nil (coding_word code letter)))
          ∙ ap (λ (s : List ℕ). s ++ more) (sym (coded-append (coding_word code) letters (letter ∷ [])));
      added = pushed ∙ ap (λ (s : List ℕ). s ++ letter ∷ []) d.added ∙ append_assoc old letters (letter ∷ []);
    }

-- Plain letters more.
pub decodes-plain : (set : Class) (code : Coding) (text left span more old mid new : List ℕ) → Decodes set code text left old mid → ArePlain set code span → left ≡ span ++ more → new ≡ mid ++ span
    → Decodes set code text more old new
decodes-plain set code text left span more old mid new d plain parts pushed =
    let front = coded (coding_word code) d.letters in
    record {
      letters = d.letters ++ span;
      members = All-append (λ (l : ℕ). is_letter set l ≡ true) d.letters span d.members (plain-in set code span plain);
      parts = d.parts ∙ ap (λ (s : List ℕ). front ++ s) parts ∙ sym (append_assoc front span more)
          ∙ ap (λ (s : List ℕ). (front ++ s) ++ more) (sym (plain-coded set code span plain))
          ∙ ap (λ (s : List ℕ). s ++ more) (sym (coded-append (coding_word code) d.letters span));
      added = pushed ∙ ap (λ (s : List ℕ). s ++ span) d.added ∙ append_assoc old d.letters span;
    }
