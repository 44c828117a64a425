-- A code that passes the test takes the letters of each plain text of the kind.
use Rattle.std.proofs.Common.{◌≡◌, ℕ, zero, suc, ◌-◌, ◌/◌, ◌%◌, ◌<◌, ◌≤◌, Bool, true, false, cond, ltb, ◌==◌, List, [], ◌∷◌, refl, sym, subst, arith, inl, inr}
use Rattle.std.specs.Prelude.{ℤ, pos, negsuc, Option, Some, All, replicate, ◌||◌, not}
use Rattle.std.specs.List.{list_all}
use Rattle.std.proofs.lemmas.Bool.{and_parts, ltb-true, cases_eq}
use Rattle.std.proofs.lemmas.Bool.Decides.{nat_tests}
use Rattle.std.proofs.lemmas.List.Elements.{All-nil, All-cons, All-head, All-tail, All-append, All-replicate, All-weaker, All-contains}
use Rattle.lf_core.specs.Class.{is_letter, is_member}
use Rattle.lf_core.specs.Domain.{accepts}
use Rattle.lf_core.specs.AcceptsLaws.{accepts-first}
use Rattle.lf_core.specs.declared.class.Class.{Class}
use Rattle.lf_core.specs.declared.values.Value.{Value}
use Rattle.lf_core.specs.declared.values.Value.TheVariants.{Num, Text}
use Rattle.lf_domain.specs.declared.text_set.TextSet.{TextSet}
use Rattle.lf_domain.specs.declared.query_text.QueryText.{QueryText}
use Rattle.lf_domain.specs.declared.words.Words.{Words}
use Rattle.lf_number.specs.Numbers.{IsRadix, digit_letter, digits, width, last_digits, magnitude, number_text, dash_text, thousandths_text, padded_text, num_text}
use Rattle.lf_core.specs.Choices.{below}
use Rattle.lf_number.specs.Digits.{ten, rest-below, quotient-less, digits-one, digits-more}
use Rattle.lf_number.specs.Radix.{radix_of}
use Rattle.lf_number.specs.RadixLaws.{radix_is}
use Rattle.lf_escape.specs.Codes.{line_takes}
use Rattle.lf_format.specs.declared.kind.Kind.{Kind}
use Rattle.lf_format.specs.declared.kind.Kind.TheVariants as kind
use Rattle.lf_escape.specs.declared.coding.Coding.{Coding}
use Rattle.lf_escape.specs.declared.coding.Coding.TheVariants.{Raw}
use Rattle.lf_format.specs.Kinds.{HoldsKind, plain_text, kind_machine, kind_laws}
use Rattle.lf_escape.specs.Codings.{coding_takes}
use Rattle.lf_format.specs.Keeps.{is_no_feed, FitsCode, TakesPlain}
use Rattle.lf_format.specs.TimeTextLaws.{AllClear}
use Rattle.lf_format.specs.TimeValueLaws.{IsTime, time-clear}
use Rattle.lf_format.specs.KeptSlots.{all_below, all_bytes, is_raw, takes_class, takes_kind}

-- ---- bytes

below_passes : (test : ℕ → Bool) (n b : ℕ) → b < n → all_below test n ≡ true → test b ≡ true
below_passes test zero b less h = absurd (omega arith)
below_passes test (suc n) b less h =
    let parts = and_parts (test n) (all_below test n) h in
    elim (cases_eq b n) [
      | inl same ↦ subst (λ (k : ℕ). test k ≡ true) (sym same) parts.0
      | inr other ↦ below_passes test n b (omega (arith, less, other)) parts.1
    ]

byte_passes : (test : ℕ → Bool) (b : ℕ) → b < 256 → all_bytes test ≡ true → test b ≡ true
unfolding all_bytes
byte_passes test b less h = below_passes test 256 b less h

-- ---- texts

-- the code takes each letter
abbrev TakesAll : Coding → List ℕ → Type 0
TakesAll code text = All (λ letter. coding_takes code letter ≡ true) text

-- the code takes each letter of the class
abbrev pub TakesClass : Coding → Class → Type 0
TakesClass code set = (letter : ℕ) → is_letter set letter ≡ true → coding_takes code letter ≡ true

class_taken : (code : Coding) (set : Class) → takes_class code set ≡ true → TakesClass code set
class_taken code set h letter is =
    let low = ltb-true letter 256 (and_parts (ltb letter 256) (is_member set letter) is).0 in
    let either = byte_passes (λ b. not (is_letter set b) || coding_takes code b) letter low h in
    subst (λ v. (not v || coding_takes code letter) ≡ true) is either

letters_taken : (code : Coding) (set : Class) → TakesClass code set → (text : List ℕ) → All (λ letter. is_letter set letter ≡ true) text → TakesAll code text
letters_taken code set within text h = All-weaker (λ letter. is_letter set letter ≡ true) (λ letter. coding_takes code letter ≡ true) within text h

pub text_taken : (code : Coding) (d : TextSet) → TakesClass code d.class → TakesPlain (kind.Text d) code
text_taken code d within (Text text) h = letters_taken code d.class within text h.0
text_taken code d within v h = absurd h

pub query_taken : (code : Coding) (d : QueryText) → coding_takes code 63 ≡ true → TakesClass code d.class → TakesPlain (kind.Query d) code
query_taken code d mark within (Text []) h = All-nil (λ letter. coding_takes code letter ≡ true)
query_taken code d mark within (Text (first ∷ letters)) h =
    All-cons (λ letter. coding_takes code letter ≡ true) first letters (subst (λ (letter : ℕ). coding_takes code letter ≡ true) (sym h.0) mark) (letters_taken code d.class within letters h.1)
query_taken code d mark within v h = absurd h

-- ---- words

pub all_from : (p : ℕ → Bool) (text : List ℕ) → list_all p text ≡ true → All (λ letter. p letter ≡ true) text
all_from p [] h = All-nil (λ letter. p letter ≡ true)
all_from p (letter ∷ text) h =
    let parts = and_parts (p letter) (list_all p text) h in
    All-cons (λ letter. p letter ≡ true) letter text parts.0 (all_from p text parts.1)

all_words_from : (p : ℕ → Bool) (words : List (List ℕ)) → list_all (λ word. list_all p word) words ≡ true → All (λ word. All (λ letter. p letter ≡ true) word) words
all_words_from p [] h = All-nil (λ word. All (λ letter. p letter ≡ true) word)
all_words_from p (word ∷ words) h =
    let parts = and_parts (list_all p word) (list_all (λ word. list_all p word) words) h in
    All-cons (λ word. All (λ letter. p letter ≡ true) word) word words (all_from p word parts.0) (all_words_from p words parts.1)

pub words_taken : (code : Coding) (d : Words) → list_all (λ word. list_all (coding_takes code) word) d.list ≡ true → TakesPlain (kind.Words d) code
words_taken code d all (Text text) h = All-contains (λ word. All (λ letter. coding_takes code letter ≡ true) word) d.list text (all_words_from (coding_takes code) d.list all) h.0
words_taken code d all v h = absurd h

-- ---- numbers

abbrev IsTaken : ℕ → Type 0
IsTaken letter = line_takes letter ≡ true

abbrev AllTaken : List ℕ → Type 0
AllTaken text = All (λ letter. line_takes letter ≡ true) text

digit_taken : (d : ℕ) → d < 16 → line_takes (digit_letter d) ≡ true
unfolding digit_letter
digit_taken d h = grind (arith, nat_tests)

one_taken : (letter : ℕ) → line_takes letter ≡ true → AllTaken (letter ∷ [])
one_taken letter h = All-cons IsTaken letter [] h (All-nil IsTaken)

module _ (r : ℕ) (is : IsRadix r) where
  digits_within_taken : (k n : ℕ) → n ≤ k → AllTaken (digits r n)
  digits_within_taken zero n h = rw (digits-one r is n (omega (arith, is.least))) (one_taken (digit_letter n) (digit_taken n (omega (arith, h))))
  digits_within_taken (suc k) n h = elim (below n r) [
    | inl t ↦ rw (digits-one r is n t.1) (one_taken (digit_letter n) (digit_taken n (omega (arith, t.1, is.most))))
    | inr t ↦
        rw (digits-more r is n t.1)
        (All-append IsTaken (digits r (n / r)) (digit_letter (n % r) ∷ []) (digits_within_taken k (n / r) (quotient-less r is k n h)) (one_taken (digit_letter (n % r)) (digit_taken (n % r) (omega (arith, rest-below r is n, is.most)))))
  ]

  digits_taken : (n : ℕ) → AllTaken (digits r n)
  digits_taken n = digits_within_taken n n (omega arith)

  last_taken : (j n : ℕ) → AllTaken (last_digits r j n)
  last_taken zero n = All-nil IsTaken
  last_taken (suc j) n = All-append IsTaken (last_digits r j (n / r)) (digit_letter (n % r) ∷ []) (last_taken j (n / r)) (one_taken (digit_letter (n % r)) (digit_taken (n % r) (omega (arith, rest-below r is n, is.most))))

  padded_text_taken : (least : ℕ) (n : ℤ) → AllTaken (padded_text r least n)
  padded_text_taken least n = All-append IsTaken (replicate (least - width r (magnitude n)) 48) (digits r (magnitude n)) (All-replicate IsTaken (least - width r (magnitude n)) 48 refl) (digits_taken (magnitude n))

number_taken : (n : ℤ) → AllTaken (number_text n)
number_taken (pos n) = digits_taken 10 ten n
number_taken (negsuc n) = All-cons IsTaken 45 (digits 10 (suc n)) refl (digits_taken 10 ten (suc n))

dash_taken : (n : ℤ) → AllTaken (dash_text n)
dash_taken n = elim (magnitude n == 0) as (λ v. AllTaken (cond v (45 ∷ []) (number_text n))) [ true ↦ one_taken 45 refl | false ↦ number_taken n ]

thousandths_taken : (n : ℤ) → AllTaken (thousandths_text n)
thousandths_taken n = All-append IsTaken (digits 10 (magnitude n / 1000)) (46 ∷ last_digits 10 3 (magnitude n)) (digits_taken 10 ten (magnitude n / 1000)) (All-cons IsTaken 46 (last_digits 10 3 (magnitude n)) refl (last_taken 10 ten 3 (magnitude n)))

num_taken : (f : ℤ → List ℕ) → ((n : ℤ) → AllTaken (f n)) → (v : Value) → AllTaken (num_text f v)
num_taken f all (Num n) = all n
num_taken f all v = All-nil IsTaken

-- ---- times

accepted_bytes : (next : ℕ → ℕ → Option ℕ) (ends : ℕ → Bool) (count : ℕ) → ((point letter after : ℕ) → point < count → next point letter ≡ Some after → (letter < 256) × (after < count)) → (point : ℕ) (text : List ℕ) → point < count → accepts next ends point text ≡ true → All (λ letter. letter < 256) text
accepted_bytes next ends count stays point [] low h = All-nil (λ letter. letter < 256)
accepted_bytes next ends count stays point (letter ∷ text) low h =
    let first = accepts-first next ends point letter text h in
    let after = stays point letter first.0 low first.1 in
    All-cons (λ letter. letter < 256) letter text after.0 (accepted_bytes next ends count stays first.0 text after.1 first.2)

domain_byte : (k : Kind) (v : Value) → HoldsKind k v → All (λ letter. letter < 256) (plain_text k v)
domain_byte k v h =
    let m = kind_machine k in
    let laws = kind_laws k in
    accepted_bytes (m.next) (m.is_end) (m.count) laws.stays m.first (plain_text k v) laws.begins (laws.complete v h)

line_taken : (letter : ℕ) → letter < 256 → is_no_feed letter ≡ true → line_takes letter ≡ true
line_taken letter low clear = grind (arith, nat_tests)

lines_taken : (text : List ℕ) → All (λ letter. letter < 256) text → AllClear text → AllTaken text
lines_taken [] low clear = All-nil IsTaken
lines_taken (letter ∷ text) low clear =
    All-cons IsTaken letter text
    (line_taken letter (All-head (λ letter. letter < 256) letter text low) (All-head (λ letter. is_no_feed letter ≡ true) letter text clear))
    (lines_taken text (All-tail (λ letter. letter < 256) letter text low) (All-tail (λ letter. is_no_feed letter ≡ true) letter text clear))

-- Times as they are.
pub time_taken : (k : Kind) → IsTime k → TakesPlain k Raw
time_taken k is v h = lines_taken (plain_text k v) (domain_byte k v h) (time-clear k is v)

-- ---- the code

pub raw_is : (code : Coding) → is_raw code ≡ true → code ≡ Raw
raw_is Raw h = refl
raw_is code h = absurd (cc)

-- The code fits the kind and takes the letters of its plain texts.
pub record Takes (code : Coding) (k : Kind) : Type 0 where
  pub fits : FitsCode k code
  pub takes : TakesPlain k code

raw_takes : (code : Coding) (k : Kind) → is_raw code ≡ true → FitsCode k Raw → TakesPlain k Raw → Takes code k
raw_takes code k h fits takes = let is = raw_is code h in record {
  fits = subst (λ (c : Coding). FitsCode k c) (sym is) fits;
  takes = subst (λ (c : Coding). TakesPlain k c) (sym is) takes;
}

pub kind_taken : (code : Coding) (k : Kind) → takes_kind code k ≡ true → Takes code k
kind_taken code (kind.Text d) h = record { fits = tt; takes = text_taken code d (class_taken code d.class h) }
kind_taken code (kind.Query d) h =
    let parts = and_parts (coding_takes code 63) (takes_class code d.class) h in
    record { fits = tt; takes = query_taken code d parts.0 (class_taken code d.class parts.1) }
kind_taken code (kind.Words d) h =
    let parts = and_parts (is_raw code) (list_all (λ word. list_all (coding_takes code) word) d.list) h in
    record { fits = raw_is code parts.0; takes = words_taken code d parts.1 }
kind_taken code (kind.Num d) h = raw_takes code (kind.Num d) h refl (λ v held. num_taken number_text number_taken v)
kind_taken code (kind.DashZero d) h = raw_takes code (kind.DashZero d) h refl (λ v held. num_taken dash_text dash_taken v)
kind_taken code (kind.Fixed3 d) h = raw_takes code (kind.Fixed3 d) h refl (λ v held. num_taken thousandths_text thousandths_taken v)
kind_taken code (kind.Padded d) h =
    raw_takes code (kind.Padded d) h refl (λ v held. num_taken (padded_text (radix_of d.radix) d.width) (padded_text_taken (radix_of d.radix) (radix_is d.radix) d.width) v)
kind_taken code (kind.Clf d) h = raw_takes code (kind.Clf d) h refl (time_taken (kind.Clf d) tt)
kind_taken code (kind.Iso d) h = raw_takes code (kind.Iso d) h refl (time_taken (kind.Iso d) tt)
kind_taken code (kind.IsoMillis d) h = raw_takes code (kind.IsoMillis d) h refl (time_taken (kind.IsoMillis d) tt)
kind_taken code (kind.Ha d) h = raw_takes code (kind.Ha d) h refl (time_taken (kind.Ha d) tt)
kind_taken code (kind.Date d) h = raw_takes code (kind.Date d) h refl (time_taken (kind.Date d) tt)
kind_taken code (kind.Clock d) h = raw_takes code (kind.Clock d) h refl (time_taken (kind.Clock d) tt)
