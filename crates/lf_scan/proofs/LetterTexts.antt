-- Texts and queries that are read by their letters.
use Rattle.std.proofs.Common.{◌≡◌, ◌≤◌, ℕ, List, [], ◌∷◌, ◌++◌, refl, sym, ap, subst, ◌∙◌}
use Rattle.std.specs.Prelude.{IfSome}
use Rattle.lf_core.specs.declared.values.Value.TheVariants as value
use Rattle.lf_domain.specs.declared.query_text.QueryText.{QueryText}
use Rattle.lf_domain.specs.declared.text_set.TextSet.{TextSet}
use Rattle.lf_escape.specs.Codes.{coded}
use Rattle.lf_escape.specs.Codings.{coding_word}
use Rattle.lf_escape.specs.declared.coding.Coding.{Coding}
use Rattle.lf_escape.specs.declared.coding.Coding.TheVariants.{Raw, ApacheHex, NginxHex, NginxJson, HaHash, HaCapture, HaEscape, PlusSpace, Doubled}
use Rattle.lf_format.specs.declared.kind.Kind.TheVariants as kind
use Rattle.lf_letters.specs.Reads.{ReadsLetters}
use Rattle.lf_letters.proofs.PlainTexts.{bare-json}
use Rattle.lf_scan.specs.Reads.{ReadsKind}

-- A text of so many letters is read.
pub reads-text : (set : TextSet) (code : Coding) (count : ℕ) (text left old new : List ℕ) → ReadsLetters set.class code [] count text left old new → set.min ≤ count → IfSome set.max (λ top. count ≤ top)
    → ReadsKind (kind.Text set) code text left old new
reads-text set code count text left old new r least most = record {
  value = value.Text r.letters;
  held = (r.members, subst (λ (n : ℕ). set.min ≤ n) (sym r.many) least, subst (λ (n : ℕ). IfSome set.max (λ top. n ≤ top)) (sym r.many) most);
  written = r.written;
  added = r.added;
}

-- The question mark is written as itself.
mark-word : (code : Coding) → coding_word code 63 ≡ 63 ∷ []
mark-word Raw = refl
mark-word ApacheHex = refl
mark-word NginxHex = refl
mark-word NginxJson = refl
mark-word HaHash = refl
mark-word HaCapture = refl
mark-word HaEscape = refl
mark-word PlusSpace = refl
mark-word Doubled = refl

-- A query of a mark and letters is read.
pub reads-query : (domain : QueryText) (code : Coding) (count : ℕ) (text more left old new : List ℕ) → text ≡ 63 ∷ more → ReadsLetters domain.class code (63 ∷ []) count more left old new
    → ReadsKind (kind.Query domain) code text left old new
reads-query domain code count text more left old new mark r = record {
  value = value.Text (63 ∷ r.letters);
  held = (refl, r.members);
  written = mark ∙ ap (λ (t : List ℕ). 63 ∷ t) r.written ∙ ap (λ (w : List ℕ). (w ++ coded (coding_word code) r.letters) ++ left) (sym (mark-word code));
  added = r.added;
}

-- A query of no letters is read.
pub reads-no-query : (domain : QueryText) (code : Coding) (text old new : List ℕ) → new ≡ old ++ 34 ∷ 34 ∷ [] → ReadsKind (kind.Query domain) code text text old new
reads-no-query domain code text old new added = record {
  value = value.Text [];
  held = tt;
  written = refl;
  added = added ∙ ap (λ (t : List ℕ). old ++ t) (sym (bare-json [] tt));
}
