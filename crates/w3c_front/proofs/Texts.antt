-- An identifier that stands for a field is text.
use Rattle.std.proofs.Common.{◌≡◌, ℕ, ◌<◌, Bool, true, false, cond, not, ◌&&◌, eqb, ltb, List, [], ◌∷◌, ◌++◌, length, take, drop, Option, Some, None, Ok, refl, sym, ap, subst, ◌∙◌, length-append, append-nil, arith, inl, inr}
use Rattle.std.specs.Prelude.{nat_eq, codes}
use Rattle.std.specs.List.{list_all, prefix_len, starts_with}
use Rattle.std.specs.Str.{IsUtf8, IsCharBoundary, bytes_eq}
use Rattle.std.proofs.lemmas.Bool.{eqb-true, ltb-true, cond_both, cases_Bool, and_parts, or_cases, not-false}
use Rattle.std.proofs.lemmas.List.{take_at, drop_at}
use Rattle.std.proofs.lemmas.Slice.Eq.{bytes_eq-Decides}
use Rattle.std.proofs.lemmas.Str.{IsUtf8-take, IsUtf8-drop, IsCharBoundary-before_ascii}
use Rattle.std.proofs.Math.Seq.{get_or-append_seam}
use Rattle.lf_spelling.specs.Cuts.{EndsText}
use Rattle.lf_spelling.specs.Runs.{run, past}
use Rattle.lf_spelling.specs.Enclosed.{is_not}
use Rattle.lf_spelling.specs.RunLaws.{run_join, past_stop, run_taken}
use Rattle.w3c_front.specs.declared.table.Language.{Language}
use Rattle.w3c_front.specs.declared.table.Language.TheVariants.{Draft, Iis}
use Rattle.w3c_front.specs.declared.table.Sort.{Sort}
use Rattle.w3c_front.specs.declared.table.Sort.TheVariants.{Word}
use Rattle.w3c_front.specs.Table.{Entry, prefixes, is_listed, sort_in, draft_fields, iis_fields}
use Rattle.w3c_front.specs.Identifier.{past_first, past_prefix, is_own, is_own_byte, is_some_byte, after_dash, prefixed_sort, or_else, sort_of, known, field_by, field_of}
use Rattle.w3c_front.specs.Items.{is_blank, is_inner}
use Rattle.w3c_front.specs.FrontLaws.{begins}

-- ---- a known identifier begins with a byte of ASCII

unfoldable starts_low : List ℕ → Bool
starts_low [] = false
starts_low (b ∷ text) = ltb b 128

listed_low : (names : List (List ℕ)) (name : List ℕ) → list_all starts_low names ≡ true → is_listed names name ≡ true → starts_low name ≡ true
listed_low [] name all is = absurd cc
listed_low (n ∷ names) name all is =
    let both = and_parts (starts_low n) (list_all starts_low names) all in
    elim (or_cases (bytes_eq name n) (is_listed names name) is) [
      | inl e ↦ ap starts_low ((bytes_eq-Decides name n).0 e) ∙ both.0
      | inr more ↦ listed_low names name both.1 more
    ]

entries_low : (entries : List Entry) (name : List ℕ) (sort : Sort) → list_all (λ e. list_all starts_low e.names) entries ≡ true → sort_in entries name ≡ Some sort → starts_low name ≡ true
entries_low [] name sort all is = absurd cc
entries_low (e ∷ entries) name sort all is =
    let both = and_parts (list_all starts_low e.names) (list_all (λ e. list_all starts_low e.names) entries) all in
    elim (cases_Bool (is_listed e.names name)) [
      | inl any ↦ listed_low e.names name both.0 any
      | inr none ↦ entries_low entries name sort both.1 (sym (ap (λ v. cond v (Some e.sort) (sort_in entries name)) none) ∙ is)
    ]

run_low : (p : ℕ → Bool) (text : List ℕ) → starts_low (run p text) ≡ true → starts_low text ≡ true
unfolding starts_low
run_low p [] h = h
run_low p (b ∷ text) h = cond_both (p b) (b ∷ run p text) [] (λ (t : List ℕ). starts_low t ≡ true → ltb b 128 ≡ true) (λ e k. k) (λ e k. absurd cc) h

prefixes_low : (language : Language) → list_all starts_low (prefixes language) ≡ true
unfolding starts_low
prefixes_low Draft = refl
prefixes_low Iis = refl

prefix_low : (language : Language) (mark : ℕ) (name rest : List ℕ) → past_prefix language mark name ≡ Some rest → starts_low name ≡ true
prefix_low language mark name rest is = elim (cases_Bool (is_listed (prefixes language) (run (is_not mark) name))) [
  | inl e ↦ run_low (is_not mark) name (listed_low (prefixes language) (run (is_not mark) name) (prefixes_low language) e)
  | inr e ↦ let none : None ≡ Some rest = sym (ap (λ v. cond v (past_first (past (is_not mark) name)) None) e) ∙ is in absurd cc
]

own_low : (name : List ℕ) → is_own name ≡ true → starts_low name ≡ true
unfolding starts_low
own_low name is =
    let both = and_parts (starts_with nat_eq name (codes "x-")) (is_some_byte (drop 2 name) && list_all is_own_byte (drop 2 name)) is in
    ap starts_low (begins name (codes "x-") both.0)

draft_low : list_all (λ e. list_all starts_low e.names) draft_fields ≡ true
unfolding starts_low
draft_low = refl

iis_low : list_all (λ e. list_all starts_low e.names) iis_fields ≡ true
unfolding starts_low
iis_low = refl

dash_low : (name : List ℕ) (found : Option (List ℕ)) (sort : Sort) → past_prefix Draft 45 name ≡ found → after_dash found ≡ Some sort → starts_low name ≡ true
dash_low name None sort is e = absurd cc
dash_low name (Some rest) sort is e = prefix_low Draft 45 name rest is

else_low : (name : List ℕ) (first : Option Sort) (sort : Sort) → sort_in draft_fields name ≡ first → or_else first (prefixed_sort name) ≡ Some sort → starts_low name ≡ true
else_low name None sort is e = dash_low name (past_prefix Draft 45 name) sort refl e
else_low name (Some found) sort is e = entries_low draft_fields name found draft_low is

sort_low : (language : Language) (name : List ℕ) (sort : Sort) → sort_of language name ≡ Some sort → starts_low name ≡ true
sort_low Draft name sort is = elim (cases_Bool (is_own name)) [
  | inl e ↦ own_low name e
  | inr e ↦ else_low name (sort_in draft_fields name) sort refl (sym (ap (λ v. cond v (Some Word) (or_else (sort_in draft_fields name) (prefixed_sort name))) e) ∙ is)
]
sort_low Iis name sort is = entries_low iis_fields name sort iis_low is

known_low : (language : Language) (name : List ℕ) (found : Option Sort) (sort : Sort) → sort_of language name ≡ found → known found ≡ Ok sort → starts_low name ≡ true
known_low language name None sort is e = absurd cc
known_low language name (Some found) sort is e = sort_low language name found is

by_low : (language : Language) (name : List ℕ) (inside : Option (List ℕ)) (sort : Sort) → past_prefix language 40 name ≡ inside → field_by language name inside ≡ Ok sort → starts_low name ≡ true
by_low language name None sort is e = known_low language name (sort_of language name) sort refl e
by_low language name (Some inside) sort is e = prefix_low language 40 name inside is

field_low : (language : Language) (name : List ℕ) (sort : Sort) → field_of language name ≡ Ok sort → starts_low name ≡ true
field_low language name sort is = by_low language name (past_prefix language 40 name) sort refl is

-- ---- what stands from a byte of ASCII up to another is text

text_from : (before : List ℕ) (b : ℕ) (text : List ℕ) → IsUtf8 (before ++ b ∷ text) → b < 128 → IsUtf8 (b ∷ text)
text_from before b text whole low =
    let start : IsCharBoundary (before ++ b ∷ text) (length before) = IsCharBoundary-before_ascii (before ++ b ∷ text) (length before) (omega (arith, length-append before (b ∷ text))) (rw (get_or-append_seam before b text 0) low) in
    subst IsUtf8 (drop_at before (b ∷ text) (length before) refl) (IsUtf8-drop (before ++ b ∷ text) (length before) whole start)

-- whether the text is empty, or begins with a byte of ASCII
unfoldable ends_low : List ℕ → Bool
ends_low [] = true
ends_low (c ∷ more) = ltb c 128

text_until : (text after : List ℕ) → IsUtf8 (text ++ after) → ends_low after ≡ true → IsUtf8 text
unfolding ends_low
text_until text [] whole low = subst IsUtf8 (append-nil text) whole
text_until text (c ∷ more) whole low =
    let end : IsCharBoundary (text ++ c ∷ more) (length text) = IsCharBoundary-before_ascii (text ++ c ∷ more) (length text) (omega (arith, length-append text (c ∷ more))) (rw (get_or-append_seam text c more 0) (ltb-true c 128 low)) in
    subst IsUtf8 (take_at text (c ∷ more) (length text) refl) (IsUtf8-take (text ++ c ∷ more) (length text) whole end)

inner_low : (c : ℕ) → is_inner c ≡ false → ltb c 128 ≡ true
inner_low c h = elim (cases_Bool (is_blank c)) [
  | inl blank ↦ elim (or_cases (eqb c 32) (eqb c 9) blank) [
    | inl e ↦ ap (λ (n : ℕ). ltb n 128) (eqb-true c 32 e)
    | inr e ↦ ap (λ (n : ℕ). ltb n 128) (eqb-true c 9 e)
  ]
  | inr other ↦ ap (λ (n : ℕ). ltb n 128) (eqb-true c 10 (not-false (eqb c 10) (sym (ap (λ v. not v && not (eqb c 10)) other) ∙ h)))
]

past_low : (text after : List ℕ) → past is_inner text ≡ after → ends_low after ≡ true
unfolding ends_low
past_low text [] is = refl
past_low text (c ∷ more) is = inner_low c (past_stop is_inner text c more is)

identifier_here : (before name after : List ℕ) → IsUtf8 (before ++ (name ++ after)) → starts_low name ≡ true → ends_low after ≡ true → IsUtf8 name
unfolding starts_low
identifier_here before [] after whole low end = absurd cc
identifier_here before (b ∷ name) after whole low end = text_until (b ∷ name) after (text_from before b (name ++ after) whole (ltb-true b 128 low)) end

pub identifier_text : (language : Language) (rest name : List ℕ) (n : ℕ) → EndsText rest → n ≡ prefix_len is_inner rest → name ≡ take n rest → (sort : Sort) → field_of language name ≡ Ok sort → IsUtf8 name
identifier_text language rest name n ends len is sort known =
    let cut = run_taken is_inner rest n len in
    let name_is : name ≡ run is_inner rest = is ∙ cut.0 in
    let parts : rest ≡ name ++ past is_inner rest = sym (run_join is_inner rest) ∙ ap (λ (t : List ℕ). t ++ past is_inner rest) (sym name_is) in
    let whole : IsUtf8 (ends.0 ++ (name ++ past is_inner rest)) = subst (λ (t : List ℕ). IsUtf8 (ends.0 ++ t)) parts ends.1 in
    identifier_here ends.0 name (past is_inner rest) whole (field_low language name sort known) (past_low rest (past is_inner rest) refl)
