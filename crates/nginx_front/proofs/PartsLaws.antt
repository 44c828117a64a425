-- A directive says one thing, or its parts have one first fault.
use Rattle.std.proofs.Common.{◌≡◌, ℕ, ◌+◌, ◌≤◌, ◌⊎◌, true, List, length, take, drop, Option, Some, None, refl, sym, ap, subst, ◌∙◌, length-drop, arith, inl, inr}
use Rattle.std.specs.List.{prefix_len}
use Rattle.std.specs.Option.{unwrap_or}
use Rattle.std.proofs.lemmas.Bool.{cases_order, cond_both}
use Rattle.std.proofs.lemmas.List.{take-append-drop, length-take-le}
use Rattle.lf_spelling.specs.declared.fault.Cause.{Cause}
use Rattle.lf_spelling.specs.declared.fault.Cause.TheVariants.{Unclosed, BadName, BadFlags}
use Rattle.lf_syntax.specs.Grammar.{Grammar, sequence, is_sound}
use Rattle.lf_syntax.specs.Places.{FaultPlace}
use Rattle.lf_syntax.specs.PlaceLaws.{one_place}
use Rattle.lf_syntax.proofs.Reading.{sentence_or_place}
use Rattle.nginx_front.specs.declared.table.Escape.{Escape}
use Rattle.nginx_front.specs.declared.table.Escape.TheVariants.{Default}
use Rattle.nginx_front.specs.declared.strings.Placed.{Placed}
use Rattle.nginx_front.specs.declared.strings.Mode.{Mode}
use Rattle.nginx_front.specs.declared.strings.Mode.TheVariants.{Outside}
use Rattle.lf_spelling.specs.RunLaws.{run_fits}
use Rattle.nginx_front.specs.Bytes.{is_bare}
use Rattle.nginx_front.specs.Syntax.{Is, PlaceIs, byte, directive, before_escape, before_string, half_string}
use Rattle.nginx_front.specs.Escapes.{names_escape, escape_at}
use Rattle.nginx_front.specs.Passes.{name_end, word_place, strings_place, mode_after, open_place, given_by, given_in}
use Rattle.nginx_front.specs.Parts.{IsSpelled, IsBadEscape, IsOpenQuote, LeavesAt, bad_byte, open_quote, early_end, FaultyParts, bad_escape, no_directive}
use Rattle.nginx_front.proofs.DirectiveRead.{given_so, escape_so, spelled_is, bad_at, sentence_says, open_so}

by_grammar : (g : Grammar) (text : List ℕ) → is_sound g ≡ true → Is g text ⊎ ((p : ℕ) × FaultPlace (Is g) text p)
by_grammar g text sound = sentence_or_place (byte 0) refl 0 g text sound

-- ---- one fault

leaves_same : (text : List ℕ) (at p q : ℕ) (a b : Cause) → LeavesAt text at p a → LeavesAt text at q b → (p ≡ q) × (a ≡ b)
leaves_same text at p q a b (bad_byte less x e) (bad_byte more y f) = (x ∙ sym y, e ∙ sym f)
leaves_same text at p q a b (bad_byte less x e) (open_quote end y f) = absurd (omega (arith, less, end))
leaves_same text at p q a b (bad_byte less x e) (early_end end none y f) = absurd (omega (arith, less, end))
leaves_same text at p q a b (open_quote end x e) (bad_byte less y f) = absurd (omega (arith, less, end))
leaves_same text at p q a b (open_quote end x e) (open_quote other y f) = (sym (open_so text p x) ∙ open_so text q y, e ∙ sym f)
leaves_same text at p q a b (open_quote end x e) (early_end other none y f) = absurd (none p x)
leaves_same text at p q a b (early_end end none x e) (bad_byte less y f) = absurd (omega (arith, less, end))
leaves_same text at p q a b (early_end end none x e) (open_quote other y f) = absurd (none q y)
leaves_same text at p q a b (early_end end none x e) (early_end other no_quote y f) = (x ∙ sym y, e ∙ sym f)

pub parts_same : (text : List ℕ) (p q : ℕ) (a b : Cause) → FaultyParts text p a → FaultyParts text q b → (p ≡ q) × (a ≡ b)
parts_same text p q a b (bad_escape x e) (bad_escape y f) = ((bad_at text p x).0 ∙ sym (bad_at text q y).0, e ∙ sym f)
parts_same text p q a b (bad_escape x e) (no_directive at none fault leaves) = absurd (none p x)
parts_same text p q a b (no_directive at none fault leaves) (bad_escape y f) = absurd (none q y)
parts_same text p q a b (no_directive at none fault leaves) (no_directive other no_escape again there) =
    leaves_same text at p q a b leaves (subst (λ (n : ℕ). LeavesAt text n q b) (one_place (Is directive) text other at again fault) there)

pub never_broken : (text : List ℕ) (e : Escape) (given : List Placed) (p : ℕ) (c : Cause) → IsSpelled text e given → FaultyParts text p c → ⊥
never_broken text e given p c is (bad_escape x f) =
    let wrong : Some e ≡ None = sym (escape_so text e given is) ∙ (bad_at text p x).1 in absurd (cc)
never_broken text e given p c is (no_directive at none fault leaves) = fault.fault (spelled_is text e given is)

-- ---- some answer

pub bad_here : (text : List ℕ) (at : ℕ) → at ≤ length text → escape_at (drop at text) ≡ None → Is before_escape (take at text) → IsBadEscape text at
bad_here text at inside bad is = record { before = take at text; rest = drop at text; text_is = sym (take-append-drop at text); before_is = is; bad = bad; place_is = sym (length-take-le at text inside) }

word_inside : (text : List ℕ) → word_place text ≤ length text
word_inside text = omega arith

bad_or_none : (text : List ℕ) → ((p : ℕ) × IsBadEscape text p) ⊎ ((p : ℕ) → IsBadEscape text p → ⊥)
bad_or_none text = by_escape (escape_at (drop (word_place text) text)) refl
  where
    by_escape : (o : Option Escape) → escape_at (drop (word_place text) text) ≡ o → ((p : ℕ) × IsBadEscape text p) ⊎ ((p : ℕ) → IsBadEscape text p → ⊥)
    by_escape (Some e) is = inr (λ p x. let wrong : Some e ≡ None = sym is ∙ (bad_at text p x).1 in absurd (cc))
    by_escape None is = elim (by_grammar before_escape (take (word_place text) text) refl) [
      | inl here ↦ inl (word_place text, bad_here text (word_place text) (word_inside text) is here)
      | inr other ↦ inr (λ p x. other.1.fault (bad_at text p x).2)
    ]

pub open_parts : (text : List ℕ) → Is (sequence before_string half_string) text → (p : ℕ) × IsOpenQuote text p
open_parts text s = (length s.0, record { before = s.0; rest = s.1; text_is = s.2; before_is = s.3; rest_is = s.4; place_is = refl })

pub open_whole : (text : List ℕ) (p : ℕ) → IsOpenQuote text p → Is (sequence before_string half_string) text
open_whole text p is = (is.before, is.rest, is.text_is, is.before_is, is.rest_is)

leaves_some : (text : List ℕ) (at : ℕ) → at ≤ length text → (p : ℕ) × (c : Cause) × LeavesAt text at p c
leaves_some text at inside = elim (cases_order at (length text)) [
  | inl end ↦ elim (by_grammar (sequence before_string half_string) text refl) [
    | inl here ↦ (let quote = open_parts text here in (quote.0, Unclosed, open_quote end quote.1 refl))
    | inr other ↦ (at, Unclosed, early_end end (λ q x. other.1.fault (open_whole text q x)) refl refl)
  ]
  | inr apart ↦ elim apart [ inl less ↦ (at, BadName, bad_byte less refl refl) | inr more ↦ absurd (omega (arith, more, inside)) ]
]

pub parts_answer : (text : List ℕ) → ((escape : Escape) × (given : List Placed) × IsSpelled text escape given) ⊎ ((p : ℕ) × (c : Cause) × FaultyParts text p c)
parts_answer text = elim (bad_or_none text) [
  | inl bad ↦ inr (bad.0, BadFlags, bad_escape bad.1 refl)
  | inr none ↦ elim (by_grammar directive text refl) [
    | inl is ↦ elim (sentence_says text is) [ inl says ↦ inl says | inr bad ↦ absurd (none bad.0 bad.1) ]
    | inr fault ↦ (let leaves = leaves_some text fault.0 fault.1.at.within in inr (leaves.0, leaves.1, no_directive fault.0 none fault.1 leaves.2))
  ]
]

-- ---- what is read is what is spelled

pub parts_read : (text : List ℕ) (escape : Escape) (given : List Placed) → IsSpelled text escape given → Is directive text × (escape_at (drop (word_place text) text) ≡ Some escape) × (given_in text ≡ given)
parts_read text escape given is = (spelled_is text escape given is, escape_so text escape given is, given_so text escape given is)

pub read_spelled : (text : List ℕ) (escape : Escape) (given : List Placed) → Is directive text × (escape_at (drop (word_place text) text) ≡ Some escape) × (given_in text ≡ given) → IsSpelled text escape given
read_spelled text escape given h = elim (sentence_says text h.0) [
  | inl x ↦ (let same : Some x.0 ≡ Some escape = sym (escape_so text x.0 x.1 x.2) ∙ h.1 in
      let one : x.0 ≡ escape = cc in
      subst (λ (e : Escape). IsSpelled text e given) one (subst (λ (g : List Placed). IsSpelled text x.0 g) (sym (given_so text x.0 x.1 x.2) ∙ h.2) x.2))
  | inr bad ↦ (let wrong : Some escape ≡ None = sym h.1 ∙ (bad_at text bad.0 bad.1).1 in absurd (cc))
]

-- ---- what the code finds

pub no_bad : (text rest : List ℕ) (at : ℕ) (o : Option Escape) (e : Escape) → at ≡ word_place text → rest ≡ drop at text → o ≡ escape_at rest → o ≡ Some e → (p : ℕ) → IsBadEscape text p → ⊥
no_bad text rest at o e at_is rest_is o_is some p bad =
    let wrong : Some e ≡ None = sym some ∙ o_is ∙ ap escape_at (rest_is ∙ ap (λ (n : ℕ). drop n text) at_is) ∙ (bad_at text p bad).1 in absurd (cc)

-- what stands before the word is no beginning of a directive
pub no_bad_there : (text before : List ℕ) (at : ℕ) (g : Grammar) (o : Option ℕ) (q : ℕ) → at ≡ word_place text → before ≡ take at text → g ≡ before_escape → PlaceIs (Is g) before o → o ≡ Some q → (p : ℕ) → IsBadEscape text p → ⊥
no_bad_there text before at g o q at_is before_is g_is place some p bad =
    let there : FaultPlace (Is before_escape) (take (word_place text) text) q = subst (λ (o : Option ℕ). PlaceIs (Is before_escape) (take (word_place text) text) o) some
    (subst (λ (t : List ℕ). PlaceIs (Is before_escape) t o) (before_is ∙ ap (λ (n : ℕ). take n text) at_is) (subst (λ (g : Grammar). PlaceIs (Is g) before o) g_is place)) in
    there.fault (bad_at text p bad).2

place_by_directive : (text : List ℕ) (g : Grammar) (o p : Option ℕ) → g ≡ directive → PlaceIs (Is g) text o → o ≡ p → PlaceIs (Is directive) text p
place_by_directive text g o p g_is place same = subst (λ (o : Option ℕ). PlaceIs (Is directive) text o) same (subst (λ (g : Grammar). PlaceIs (Is g) text o) g_is place)

pub spelled_some : (text : List ℕ) (g : Grammar) (o : Option ℕ) → ((p : ℕ) → IsBadEscape text p → ⊥) → g ≡ directive → PlaceIs (Is g) text o → o ≡ None → (escape : Escape) × (given : List Placed) × IsSpelled text escape given
spelled_some text g o good g_is place none = elim (sentence_says text (place_by_directive text g o None g_is place none)) [ inl says ↦ says | inr bad ↦ absurd (good bad.0 bad.1) ]

pub fault_some : (text : List ℕ) (g : Grammar) (o : Option ℕ) (at p : ℕ) (c : Cause) → ((p : ℕ) → IsBadEscape text p → ⊥) → g ≡ directive → PlaceIs (Is g) text o → o ≡ Some at → LeavesAt text at p c → FaultyParts text p c
fault_some text g o at p c good g_is place some leaves = no_directive at good (place_by_directive text g o (Some at) g_is place some) leaves

pub strings_inside : (text : List ℕ) → strings_place text ≤ length text
strings_inside text = cond_both (names_escape (drop (word_place text) text)) (word_place text + prefix_len is_bare (drop (word_place text) text)) (name_end text) (λ n. n ≤ length text)
    (λ e. omega (arith, run_fits is_bare (drop (word_place text) text), length-drop (word_place text) text, word_inside text))
    (λ e. omega arith)

pub same_spelled : (text word rest : List ℕ) (at n : ℕ) (o : Option Escape) (e f : Escape) (a b : List Placed) → at ≡ word_place text → word ≡ drop at text → o ≡ escape_at word → f ≡ unwrap_or o Default → n ≡ strings_place text → rest ≡ drop n text → a ≡ given_by Outside n rest → IsSpelled text e b → IsSpelled text f a
same_spelled text word rest at n o e f a b at_is word_is o_is f_is n_is rest_is a_is is =
    let escape_is : o ≡ Some e = o_is ∙ ap escape_at (word_is ∙ ap (λ (n : ℕ). drop n text) at_is) ∙ escape_so text e b is in
    let given_is : a ≡ given_in text = a_is ∙ ap (given_by Outside n) rest_is ∙ ap (λ (n : ℕ). given_by Outside n (drop n text)) n_is in
    let one : f ≡ e = f_is ∙ ap (λ (o : Option Escape). unwrap_or o Default) escape_is in
    subst (λ (x : Escape). IsSpelled text x a) (sym one) (subst (λ (g : List Placed). IsSpelled text e g) (sym (given_is ∙ given_so text e b is)) is)

pub quote_found : (text rest : List ℕ) (n : ℕ) (mode : Mode) (found : ℕ) → n ≡ name_end text → rest ≡ drop n text → mode ≡ mode_after Outside n rest → found ≡ open_place mode → (quote : ℕ) → IsOpenQuote text quote → found ≡ quote
quote_found text rest n mode found n_is rest_is mode_is found_is quote is =
    found_is ∙ ap open_place (mode_is ∙ ap (mode_after Outside n) rest_is ∙ ap (λ (n : ℕ). mode_after Outside n (drop n text)) n_is) ∙ open_so text quote is

pub quote_leaves : (text : List ℕ) (g : Grammar) (o : Option ℕ) (found : ℕ) → g ≡ sequence before_string half_string → PlaceIs (Is g) text o → o ≡ None → ((quote : ℕ) → IsOpenQuote text quote → found ≡ quote) → LeavesAt text (length text) found Unclosed
quote_leaves text g o found g_is place none same =
    let here : PlaceIs (Is (sequence before_string half_string)) text None = subst (λ (o : Option ℕ). PlaceIs (Is (sequence before_string half_string)) text o) none (subst (λ (g : Grammar). PlaceIs (Is g) text o) g_is place) in
    let quote = open_parts text here in
    open_quote refl (subst (λ (n : ℕ). IsOpenQuote text n) (sym (same quote.0 quote.1)) quote.1) refl
