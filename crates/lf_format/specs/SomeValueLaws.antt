-- A domain that passes the test has a value that isn't taken for absence.
use Rattle.std.proofs.Common.{◌≡◌, ℕ, zero, suc, ◌<◌, ◌≤◌, Bool, true, false, ◌==◌, List, [], ◌∷◌, refl, sym, subst, arith, inl, inr, ap}
use Rattle.std.specs.Prelude.{ℤ, pos, Option, None, Some, All, replicate, ◌≢◌, ◌&&◌, ◌||◌, not, int_le, nat_lt, max, length, IfSome, Contains, T}
use Rattle.std.specs.List.{list_all, list_any}
use Rattle.std.proofs.lemmas.Bool.{and_parts, eqb-true, and_cases, or_cases, not-true, not-false, ltb-true, leb-true}
use Rattle.std.proofs.lemmas.List.Elements.{All-nil, All-head, All-replicate, All-weaker, Contains-append_right}
use Rattle.lf_core.specs.Class.{is_letter}
use Rattle.lf_core.specs.declared.class.Class.{Class}
use Rattle.lf_core.specs.declared.values.Value.TheVariants.{Num, Text}
use Rattle.lf_number.specs.declared.dash_zero.DashZero.{DashZero}
use Rattle.lf_number.specs.Numbers.{HoldsNumber}
use Rattle.lf_format.specs.declared.kind.Kind.{Kind}
use Rattle.lf_format.specs.declared.kind.Kind.TheVariants as kind
use Rattle.lf_format.specs.declared.slot.Absent.{Absent}
use Rattle.lf_format.specs.declared.slot.Absent.TheVariants.{No, Dash, DashTwo, Blank}
use Rattle.lf_format.specs.Kinds.{HoldsKind, plain_text}
use Rattle.lf_format.specs.Slots.{IsNotAbsence, HasPresent}
use Rattle.lf_format.specs.HeldLaws.{query_present}
use Rattle.lf_format.specs.TimeValueLaws.{time-some}
use Rattle.lf_format.specs.KeptSlots.{all_below, all_bytes, some_byte, takes_dash, is_absence, is_within, has_text, has_present_text, has_present}
use Rattle.lf_format.specs.TakenLaws.{all_from}
use Rattle.lf_format.specs.PlainTextLaws.{number-some, number-dash, no-dash}
use Rattle.lf_domain.specs.Texts.{IsSized}
use Rattle.std.specs.Str.{bytes_eq}
use lib.Signed.{le_z_yes}
use Rattle.std.specs.Int.Signed.{≤ℤ_refl}
use Rattle.std.proofs.lemmas.List.{length-replicate}

-- ---- bytes

record Passing (test : ℕ → Bool) : Type 0 where
  byte : ℕ
  passes : test byte ≡ true

below_passing : (test : ℕ → Bool) (n : ℕ) → all_below (λ b. not (test b)) n ≡ false → Passing test
below_passing test zero h = absurd (cc)
below_passing test (suc n) h = elim (and_cases (not (test n)) (all_below (λ b. not (test b)) n) h) [
  | inl here ↦ record { byte = n; passes = not-false (test n) here }
  | inr more ↦ below_passing test n more
]

passing_byte : (test : ℕ → Bool) → some_byte test ≡ true → Passing test
unfolding all_bytes
passing_byte test h = below_passing test 256 (not-true (all_below (λ b. not (test b)) 256) h)

-- ---- some number

number_present : (k : Kind) (a : Absent) (quoted : Bool) (z : ℤ) → HoldsKind k (Num z) → (takes_dash a quoted ≡ true → plain_text k (Num z) ≢ 45 ∷ []) → HasPresent k a quoted
number_present k No quoted z h other = (Num z, h, tt)
number_present k DashTwo quoted z h other = (Num z, h, tt)
number_present k Dash true z h other = (Num z, h, tt)
number_present k Dash false z h other = (Num z, h, other refl)
number_present k Blank quoted z h other = (Num z, h, number-some k z h)

most_held : (lo hi : ℤ) → int_le lo hi ≡ true → HoldsNumber lo hi (Num hi)
most_held lo hi h = (le_z_yes (subst T (sym h) tt), ≤ℤ_refl hi)

-- A number that isn't zero isn't printed as `-`.
zero_apart : (d : DashZero) (a : Absent) (quoted : Bool) → HoldsKind (kind.DashZero d) (Num d.hi) → (not (takes_dash a quoted) || int_le (pos 1) d.hi) ≡ true → takes_dash a quoted ≡ true → plain_text (kind.DashZero d) (Num d.hi) ≢ 45 ∷ []
zero_apart d a quoted held h dash = λ text.
    let zero : d.hi ≡ pos 0 = (number-dash (kind.DashZero d) d.hi held text).1 in
    let some : int_le (pos 1) d.hi ≡ true = subst (λ v. (not v || int_le (pos 1) d.hi) ≡ true) dash h in
    let none : int_le (pos 1) (pos 0) ≡ true = subst (λ (z : ℤ). int_le (pos 1) z ≡ true) zero some in
    absurd (cc)

-- ---- some text

-- a text of so many letters that pass the test
record TextOf (test : ℕ → Bool) (least : ℕ) (most : Option ℕ) : Type 0 where
  text : List ℕ
  all : All (λ letter. test letter ≡ true) text
  more : least ≤ length text
  fewer : IfSome most (λ top. length text ≤ top)

within : (least : ℕ) (most : Option ℕ) → is_within least most ≡ true → IfSome most (λ top. least ≤ top)
within least None h = tt
within least (Some most) h = leb-true least most h

text_exists : (test : ℕ → Bool) (least : ℕ) (most : Option ℕ) → has_text test least most ≡ true → TextOf test least most
text_exists test least most h =
    let parts = and_parts (is_within least most) ((least == 0) || some_byte test) h in
    let fits = within least most parts.0 in
    elim (or_cases (least == 0) (some_byte test) parts.1) [
      | inl none ↦
          let zero : least ≡ 0 = eqb-true least 0 none in
          record { text = []; all = All-nil (λ letter. test letter ≡ true); more = omega arith; fewer = subst (λ (n : ℕ). IfSome most (λ top. n ≤ top)) zero fits }
      | inr some ↦
          let one = passing_byte test some in
          let len : length (replicate least one.byte) ≡ least = length-replicate least one.byte in
          record {
            text = replicate least one.byte;
            all = All-replicate (λ letter. test letter ≡ true) least one.byte one.passes;
            more = omega (arith, len);
            fewer = subst (λ (n : ℕ). IfSome most (λ top. n ≤ top)) (sym len) fits;
          }
    ]

-- a text that the domain holds and that isn't taken for absence
record PresentText (set : Class) (least : ℕ) (most : Option ℕ) (a : Absent) (quoted : Bool) : Type 0 where
  text : List ℕ
  sized : IsSized set least most text
  present : IsNotAbsence a quoted text

plain_present : (set : Class) (least : ℕ) (most : Option ℕ) (a : Absent) (quoted : Bool) → ((text : List ℕ) → IsNotAbsence a quoted text) → has_text (is_letter set) least most ≡ true → PresentText set least most a quoted
plain_present set least most a quoted other h = let t = text_exists (is_letter set) least most h in record { text = t.text; sized = (t.all, t.more, t.fewer); present = other t.text }

not_dash : (set : Class) (text : List ℕ) → All (λ b. (is_letter set b && not (b == 45)) ≡ true) text → text ≢ 45 ∷ []
not_dash set text all is =
    let one = All-head (λ b. (is_letter set b && not (b == 45)) ≡ true) 45 [] (subst (λ (t : List ℕ). All (λ b. (is_letter set b && not (b == 45)) ≡ true) t) is all) in
    let never : false ≡ true = (and_parts (is_letter set 45) (not (45 == 45)) one).1 in
    cc

text_present : (set : Class) (least : ℕ) (most : Option ℕ) (a : Absent) (quoted : Bool) → has_present_text set least most a quoted ≡ true → PresentText set least most a quoted
text_present set least most No quoted h = plain_present set least most No quoted (λ text. tt) h
text_present set least most DashTwo quoted h = plain_present set least most DashTwo quoted (λ text. tt) h
text_present set least most Dash true h = plain_present set least most Dash true (λ text. tt) h
text_present set least most Dash false h = elim (or_cases (has_text (λ b. is_letter set b && not (b == 45)) least most) (has_text (is_letter set) (max least 2) most) h) [
  | inl other ↦
      let t = text_exists (λ b. is_letter set b && not (b == 45)) least most other in
      let all = All-weaker (λ b. (is_letter set b && not (b == 45)) ≡ true) (λ b. is_letter set b ≡ true) (λ b both. (and_parts (is_letter set b) (not (b == 45)) both).0) t.text t.all in
      record { text = t.text; sized = (all, t.more, t.fewer); present = not_dash set t.text t.all }
  | inr long ↦
      let t = text_exists (is_letter set) (max least 2) most long in
      let more : max least 2 ≤ length t.text = t.more in
      record { text = t.text; sized = (t.all, omega arith, t.fewer); present = λ is. let len : length t.text ≡ 1 = ap length is in absurd (omega arith) }
]
text_present set least most Blank quoted h =
    let t = text_exists (is_letter set) (max least 1) most h in
    let more : max least 1 ≤ length t.text = t.more in
    record { text = t.text; sized = (t.all, omega arith, t.fewer); present = λ is. let len : length t.text ≡ 0 = ap length is in absurd (omega arith) }

-- ---- some word

word_present : (a : Absent) (quoted : Bool) (word : List ℕ) → is_absence a quoted word ≡ false → IsNotAbsence a quoted word
word_present No quoted word h = tt
word_present DashTwo quoted word h = tt
word_present Dash true word h = tt
word_present Dash false word h = λ is. let same : bytes_eq word (45 ∷ []) ≡ true = ap (λ (w : List ℕ). bytes_eq w (45 ∷ [])) is in cc
word_present Blank quoted word h = λ is. let same : bytes_eq word [] ≡ true = ap (λ (w : List ℕ). bytes_eq w []) is in cc

-- a word that passes the test
record WordOf (test : List ℕ → Bool) (words : List (List ℕ)) : Type 0 where
  word : List ℕ
  listed : Contains words word
  passes : test word ≡ true

word_exists : (test : List ℕ → Bool) (words : List (List ℕ)) → list_any test words ≡ true → WordOf test words
word_exists test [] h = absurd (cc)
word_exists test (word ∷ words) h = elim (or_cases (test word) (list_any test words) h) [
  | inl here ↦ record { word = word; listed = (0, omega arith, refl); passes = here }
  | inr more ↦ let w = word_exists test words more in record { word = w.word; listed = Contains-append_right (word ∷ []) words w.word w.listed; passes = w.passes }
]

bytes_low : (word : List ℕ) → list_all (λ b. nat_lt b 256) word ≡ true → All (λ b. b < 256) word
bytes_low word h = All-weaker (λ b. nat_lt b 256 ≡ true) (λ b. b < 256) (λ b low. ltb-true b 256 low) word (all_from (λ b. nat_lt b 256) word h)

-- ---- some value

pub kind_present : (k : Kind) (a : Absent) (quoted : Bool) → has_present k a quoted ≡ true → HasPresent k a quoted
kind_present (kind.Num d) a quoted h = let held = most_held d.lo d.hi h in number_present (kind.Num d) a quoted d.hi held (λ dash. no-dash (kind.Num d) d.hi held refl)
kind_present (kind.DashZero d) a quoted h =
    let parts = and_parts (int_le d.lo d.hi) (not (takes_dash a quoted) || int_le (pos 1) d.hi) h in
    let held = most_held d.lo d.hi parts.0 in
    number_present (kind.DashZero d) a quoted d.hi held (zero_apart d a quoted held parts.1)
kind_present (kind.Fixed3 d) a quoted h = let held = most_held d.lo d.hi h in number_present (kind.Fixed3 d) a quoted d.hi held (λ dash. no-dash (kind.Fixed3 d) d.hi held refl)
kind_present (kind.Padded d) a quoted h = let held = most_held d.lo d.hi h in number_present (kind.Padded d) a quoted d.hi held (λ dash. no-dash (kind.Padded d) d.hi held refl)
kind_present (kind.Words d) a quoted h =
    let w = word_exists (λ word. list_all (λ b. nat_lt b 256) word && not (is_absence a quoted word)) d.list h in
    let parts = and_parts (list_all (λ b. nat_lt b 256) w.word) (not (is_absence a quoted w.word)) w.passes in
    (Text w.word, (w.listed, bytes_low w.word parts.0), word_present a quoted w.word (not-true (is_absence a quoted w.word) parts.1))
kind_present (kind.Text d) a quoted h = let t = text_present d.class d.min d.max a quoted h in (Text t.text, t.sized, t.present)
kind_present (kind.Query d) a quoted h = query_present d a quoted
kind_present (kind.Clf d) a quoted h = time-some (kind.Clf d) a quoted tt
kind_present (kind.Iso d) a quoted h = time-some (kind.Iso d) a quoted tt
kind_present (kind.IsoMillis d) a quoted h = time-some (kind.IsoMillis d) a quoted tt
kind_present (kind.Ha d) a quoted h = time-some (kind.Ha d) a quoted tt
kind_present (kind.Date d) a quoted h = time-some (kind.Date d) a quoted tt
kind_present (kind.Clock d) a quoted h = time-some (kind.Clock d) a quoted tt
