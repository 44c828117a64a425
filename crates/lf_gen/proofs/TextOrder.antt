-- Which text of a set is printed first.
use Rattle.std.proofs.Common.{◌≡◌, ◌≢◌, ℕ, ◌<◌, ◌≤◌, ◌⊎◌, inl, inr, List, [], ◌∷◌, length, Option, None, Some, Bool, true, false, ◌==◌, ◌&&◌, ltb, not, Ordering, Less, Equal, Greater, nat_cmp, refl, sym, ap, subst, ◌∙◌, arith, max, map, get_or, All, Contains}
use Rattle.std.specs.Prelude.{IfSome}
use Rattle.std.specs.Ordering.{ordering_then, is_gt}
use Rattle.std.proofs.lemmas.Bool.{and_parts, ltb-true, cases_eq}
use Rattle.std.proofs.lemmas.Bool.Decides.{nat_tests}
use Rattle.std.proofs.lemmas.List.{length-replicate, length-map, get_or-map}
use Rattle.std.proofs.lemmas.List.Elements.{All-nil, All-cons, All-head, All-replicate}
use Rattle.lf_core.specs.Class.{is_letter, is_member}
use Rattle.lf_core.specs.declared.class.Class.{Class}
use Rattle.lf_core.specs.declared.values.Value.{Value}
use Rattle.lf_core.specs.declared.values.Value.TheVariants.{Text}
use Rattle.lf_domain.specs.Texts.{AllIn, IsSized, text_of}
use Rattle.lf_domain.specs.declared.text_set.TextSet.{TextSet}
use Rattle.lf_domain.specs.declared.query_text.QueryText.{QueryText}
use Rattle.lf_domain.specs.declared.words.Words.{Words}
use Rattle.lf_escape.specs.Codings.{coding_takes, coding_word}
use Rattle.lf_escape.specs.declared.coding.Coding.{Coding}
use Rattle.lf_format.specs.Keeps.{TakesPlain}
use Rattle.lf_format.specs.Slots.{IsNotAbsence}
use Rattle.lf_format.specs.declared.kind.Kind.TheVariants as kind
use Rattle.lf_format.specs.declared.slot.Absent.{Absent}
use Rattle.lf_format.specs.declared.slot.Absent.TheVariants as absent
use Rattle.lf_gen.specs.Compared.{line_cmp}
use Rattle.lf_gen.specs.First.{bytes_cmp, LineLt, Before, IsHeld, AreFirst}
use Rattle.lf_gen.specs.Letters.{IsCoded, IsLeastLetter, repeated}
use Rattle.lf_gen.proofs.Orders.{nat-same}
use Rattle.lf_gen.proofs.Cases.{nat-cases, bytes-equal}
use Rattle.lf_gen.proofs.Before.{LetterBefore, before-same, none-before, before-cons, repeated-before}
use Rattle.lf_gen.proofs.Lifted.{absence_cases}

-- ---- the least letter

by_bytes : (a b : List ℕ) (q o : Ordering) → length a ≡ length b → bytes_cmp a b ≡ o → is_gt (ordering_then o q) ≡ false → LineLt a b ⊎ ((a ≡ b) × (is_gt q ≡ false))
by_bytes a b q Less e is h = inl (inr (e, is))
by_bytes a b q Equal e is h = inr (bytes-equal a b is, h)
by_bytes a b q Greater e is h = absurd (cc)

line-cases : (a b : List ℕ) (q : Ordering) → is_gt (ordering_then (line_cmp a b) q) ≡ false → LineLt a b ⊎ ((a ≡ b) × (is_gt q ≡ false))
line-cases a b q h = elim (nat-cases (length a) (length b)) [
  | inl below ↦ inl (inl below.less)
  | inr (inl same) ↦ by_bytes a b q (bytes_cmp a b) same.same refl (sym (ap (λ (o : Ordering). is_gt (ordering_then (ordering_then o (bytes_cmp a b)) q)) same.is) ∙ h)
  | inr (inr above) ↦ absurd (let bad = sym (ap (λ (o : Ordering). is_gt (ordering_then (ordering_then o (bytes_cmp a b)) q)) above.is) ∙ h in cc)
]

letter-small : (set : Class) (c : ℕ) → is_letter set c ≡ true → c < 256
letter-small set c h = ltb-true c 256 (and_parts (ltb c 256) (is_member set c) h).0

least-before : (code : Coding) (set : Class) (b : ℕ) → IsLeastLetter code set 256 (Some b) → (c : ℕ) → IsCoded code set c → LetterBefore (coding_word code) b c
least-before code set b least c is =
    line-cases (coding_word code b) (coding_word code c) (nat_cmp b c) (least.1 c (letter-small set c is.0) is)

-- ---- a text of the least letter

-- The letters are in the class, and the code takes them.
abbrev AllCoded : Coding → Class → List ℕ → Type 0
AllCoded code set t = All (IsCoded code set) t

all-coded : (code : Coding) (set : Class) (t : List ℕ) → AllIn set t → All (λ letter. coding_takes code letter ≡ true) t → AllCoded code set t
all-coded code set t a b = λ k d less. (a k d less, b k d less)

-- So many of the least letter: in the class, and printed before each text that isn't shorter.
record IsFirst (code : Coding) (set : Class) (text : List ℕ) (count : ℕ) (t : List ℕ) : Type 0 where
  all : AllIn set text
  long : length text ≡ count
  before : Before (coding_word code) text t

first-of : (code : Coding) (set : Class) (least : Option ℕ) (count : ℕ) (c : ℕ) (t : List ℕ) → IsLeastLetter code set 256 least → AllCoded code set (c ∷ t) → count ≤ length (c ∷ t) → IsFirst code set (repeated least count) count (c ∷ t)
first-of code set None count c t least all h =
    let is = All-head (IsCoded code set) c t all in
    absurd (least c (letter-small set c is.0) is)
first-of code set (Some b) count c t least all h = record {
  all = All-replicate (λ letter. is_letter set letter ≡ true) count b least.0.0;
  long = length-replicate count b;
  before = repeated-before (coding_word code) b count (c ∷ t) (λ k d less. least-before code set b least _ (all k d less)) h;
}

-- ---- the class without the dash

-- The class has the letters of the other but the dash.
abbrev pub IsWithout : Class → Class → Type 0
IsWithout w set = (x : ℕ) → x < 256 → is_member w x ≡ (is_member set x && not (x == 45))

in-without : (w set : Class) → IsWithout w set → (c : ℕ) → is_letter set c ≡ true → c ≢ 45 → is_letter w c ≡ true
in-without w set is c h other =
    let low = letter-small set c h in
    let parts = and_parts (ltb c 256) (is_member set c) h in
    let miss : (c == 45) ≡ false = grind (arith, nat_tests, other) in
    rw (parts.0, is c low, parts.1, miss) refl

flipped : (b : Bool) → not b ≡ true → b ≡ false
flipped true h = absurd (cc)
flipped false h = refl

out-without : (w set : Class) → IsWithout w set → (c : ℕ) → is_letter w c ≡ true → (is_letter set c ≡ true) × ((c == 45) ≡ false)
out-without w set is c h =
    let low = letter-small w c h in
    let parts = and_parts (ltb c 256) (is_member w c) h in
    let both = and_parts (is_member set c) (not (c == 45)) (sym (is c low) ∙ parts.1) in
    (rw (parts.0, both.0) refl, flipped (c == 45) both.1)

all-without : (w set : Class) → IsWithout w set → (t : List ℕ) → AllIn w t → AllIn set t
all-without w set is t all = λ k d less. (out-without w set is (get_or t k d) (all k d less)).0

-- ---- the texts of a set

within : (most : Option ℕ) (n k : ℕ) → n ≤ k → IfSome most (λ top. k ≤ top) → IfSome most (λ top. n ≤ top)
within None n k h g = tt
within (Some top) n k h g = omega (arith, h, g)

module _ (code : Coding) (d : TextSet) (takes : TakesPlain (kind.Text d) code) where
  held-within : (absent : Absent) (quoted : Bool) (count : ℕ) (text : List ℕ) (c : ℕ) (t : List ℕ) → d.min ≤ count → count ≤ length (c ∷ t) →
      IsSized d.class d.min d.max (c ∷ t) → IsFirst code d.class text count (c ∷ t) → IsNotAbsence absent quoted text → IsHeld (kind.Text d) absent quoted (Text text)
  held-within absent quoted count text c t least most sized first n =
      ((first.all, omega (arith, least, first.long), within d.max (length text) (length (c ∷ t)) (omega (arith, most, first.long)) sized.2), n)

-- the candidates
abbrev pub text_values : Option ℕ → Option ℕ → ℕ → List Value
text_values least other count =
    Text [] ∷ Text (repeated other (max count 1)) ∷ Text (repeated least (max count 1)) ∷ Text (repeated least (max count 2)) ∷ []

long-present : (absent : Absent) (quoted : Bool) (p : List ℕ) → 2 ≤ length p → IsNotAbsence absent quoted p
long-present absent quoted p h = elim (absence_cases absent quoted p) [
  | inl fine ↦ fine
  | inr (inl dash) ↦ absurd (omega (arith, h, ap length dash))
  | inr (inr none) ↦ absurd (omega (arith, h, ap length none))
]

one-or-more : (n : ℕ) → (n ≤ max n 1) × (1 ≤ max n 1) × (n ≤ max n 2) × (2 ≤ max n 2)
one-or-more n = (omega arith, omega arith, omega arith, omega arith)

at-most : (n k m : ℕ) → n ≤ k → m ≤ k → max n m ≤ k
at-most n k m h g = omega (arith, h, g)

module _ (code : Coding) (d : TextSet) (takes : TakesPlain (kind.Text d) code) (w : Class) (is : IsWithout w d.class)
    (least other : Option ℕ) (first : IsLeastLetter code d.class 256 least) (second : IsLeastLetter code w 256 other) where
  abbrev values : List Value
  values = text_values least other d.min

  abbrev Found : Absent → Bool → List ℕ → Type 0
  Found absent quoted t = (v : Value) × Contains values v × IsHeld (kind.Text d) absent quoted v × Before (coding_word code) (text_of v) t

  choose : (absent : Absent) (quoted : Bool) (count : ℕ) (text : List ℕ) (c : ℕ) (t : List ℕ) → Contains values (Text text) → d.min ≤ count → count ≤ length (c ∷ t) →
      IsSized d.class d.min d.max (c ∷ t) → IsFirst code d.class text count (c ∷ t) → IsNotAbsence absent quoted text → Found absent quoted (c ∷ t)
  choose absent quoted count text c t at low high sized is_first n =
      (Text text, at, held-within code d takes absent quoted count text c t low high sized is_first n, is_first.before)

  letters-coded : (c : ℕ) (t : List ℕ) → IsSized d.class d.min d.max (c ∷ t) → AllCoded code d.class (c ∷ t)
  letters-coded c t sized = all-coded code d.class (c ∷ t) sized.0 (takes (Text (c ∷ t)) sized)

  -- the least letter once, or as often as the set asks
  few : (c : ℕ) (t : List ℕ) → IsSized d.class d.min d.max (c ∷ t) → IsFirst code d.class (repeated least (max d.min 1)) (max d.min 1) (c ∷ t)
  few c t sized = first-of code d.class least (max d.min 1) c t first (letters-coded c t sized) (at-most d.min (length (c ∷ t)) 1 sized.1 (omega arith))

  -- the same, twice or more
  twice : (c e : ℕ) (t : List ℕ) → IsSized d.class d.min d.max (c ∷ e ∷ t) → IsFirst code d.class (repeated least (max d.min 2)) (max d.min 2) (c ∷ e ∷ t)
  twice c e t sized = first-of code d.class least (max d.min 2) c (e ∷ t) first (letters-coded c (e ∷ t) sized) (at-most d.min (length (c ∷ e ∷ t)) 2 sized.1 (omega arith))

  -- the same of the other letters, where the text is one of them
  others : (c : ℕ) → c ≢ 45 → IsSized d.class d.min d.max (c ∷ []) → IsFirst code w (repeated other (max d.min 1)) (max d.min 1) (c ∷ [])
  others c differ sized =
      let letter = All-head (IsCoded code d.class) c [] (letters-coded c [] sized) in
      first-of code w other (max d.min 1) c [] second
      (All-cons (IsCoded code w) c [] (in-without w d.class is c letter.0 differ, letter.1) (All-nil (IsCoded code w)))
      (at-most d.min 1 1 sized.1 (omega arith))

  no-dash : (text : List ℕ) → AllIn w text → text ≡ 45 ∷ [] → ⊥
  no-dash text all e =
      let head = All-head (λ letter. is_letter w letter ≡ true) 45 [] (subst (AllIn w) e all) in
      let bad = (out-without w d.class is 45 head).1 in cc

  others-present : (absent : Absent) (quoted : Bool) (c : ℕ) (text : List ℕ) → IsFirst code w text (max d.min 1) (c ∷ []) → IsNotAbsence absent quoted text
  others-present absent quoted c text f = elim (absence_cases absent quoted text) [
    | inl fine ↦ fine
    | inr (inl dash) ↦ absurd (no-dash text f.all dash)
    | inr (inr none) ↦ absurd (let some = (one-or-more d.min).1 in omega (arith, ap length none, f.long, some))
  ]

  on-dash : (absent : Absent) (quoted : Bool) (c : ℕ) (t : List ℕ) → IsSized d.class d.min d.max (c ∷ t) → IsNotAbsence absent quoted (c ∷ t) → repeated least (max d.min 1) ≡ 45 ∷ [] → Found absent quoted (c ∷ t)
  on-dash absent quoted c [] sized n dash = elim (cases_eq c 45) [
    | inl same ↦
        choose absent quoted (max d.min 1) (repeated least (max d.min 1)) c [] (2, omega arith, refl) (one-or-more d.min).0 (at-most d.min 1 1 sized.1 (omega arith)) sized (few c [] sized)
        (subst (IsNotAbsence absent quoted) (ap (λ (x : ℕ). x ∷ []) same ∙ sym dash) n)
    | inr differ ↦
        let f = others c differ sized in
        choose absent quoted (max d.min 1) (repeated other (max d.min 1)) c [] (1, omega arith, refl) (one-or-more d.min).0 (at-most d.min 1 1 sized.1 (omega arith)) sized
        (record { all = all-without w d.class is (repeated other (max d.min 1)) f.all; long = f.long; before = f.before })
        (others-present absent quoted c (repeated other (max d.min 1)) f)
  ]
  on-dash absent quoted c (e ∷ t) sized n dash =
      let f = twice c e t sized in
      let two = (one-or-more d.min).3 in
      choose absent quoted (max d.min 2) (repeated least (max d.min 2)) c (e ∷ t) (3, omega arith, refl) (one-or-more d.min).2 (at-most d.min (length (c ∷ e ∷ t)) 2 sized.1 (omega arith)) sized f
      (long-present absent quoted (repeated least (max d.min 2)) (omega (arith, f.long, two)))

  text-found : (absent : Absent) (quoted : Bool) (c : ℕ) (t : List ℕ) → IsSized d.class d.min d.max (c ∷ t) → IsNotAbsence absent quoted (c ∷ t) → Found absent quoted (c ∷ t)
  text-found absent quoted c t sized n =
      let f = few c t sized in
      elim (absence_cases absent quoted (repeated least (max d.min 1))) [
        | inl fine ↦
            choose absent quoted (max d.min 1) (repeated least (max d.min 1)) c t (2, omega arith, refl) (one-or-more d.min).0 (at-most d.min (length (c ∷ t)) 1 sized.1 (omega arith)) sized f fine
        | inr (inl dash) ↦ on-dash absent quoted c t sized n dash
        | inr (inr none) ↦ absurd (let some = (one-or-more d.min).1 in omega (arith, ap length none, f.long, some))
      ]

  pub text-first : AreFirst (kind.Text d) code values
  text-first absent quoted (Text []) h = (Text [], (0, omega arith, refl), h, before-same (coding_word code) [])
  text-first absent quoted (Text (c ∷ t)) h = text-found absent quoted c t h.0 h.1
  text-first absent quoted v h = absurd h.0

-- ---- queries and words

query-present : (absent : Absent) (quoted : Bool) → IsNotAbsence absent quoted (63 ∷ [])
query-present absent.No quoted = tt
query-present absent.DashTwo quoted = tt
query-present absent.Dash true = tt
query-present absent.Dash false = λ e. (let bad : ◌≡◌ {A = ℕ} 63 45 = ap (λ (t : List ℕ). get_or t 0 0) e in omega (arith, bad))
query-present absent.Blank quoted = λ e. cc

pub query-first : (code : Coding) (d : QueryText) → AreFirst (kind.Query d) code (Text [] ∷ Text (63 ∷ []) ∷ [])
query-first code d absent quoted (Text []) h = (Text [], (0, omega arith, refl), h, before-same (coding_word code) [])
query-first code d absent quoted (Text (c ∷ t)) h = (
  Text (63 ∷ []),
  (1, omega arith, refl),
  ((refl, All-nil (λ letter. is_letter d.class letter ≡ true)), query-present absent quoted),
  subst (λ (x : ℕ). Before (coding_word code) (63 ∷ []) (x ∷ t)) (sym h.0.0)
      (before-cons (coding_word code) 63 63 [] t (inr (refl, ap is_gt (nat-same 63))) (none-before (coding_word code) t)),
)
query-first code d absent quoted v h = absurd h.0

contains-map : (words : List (List ℕ)) (t : List ℕ) → Contains words t → Contains (map Text words) (Text t)
contains-map words t h =
    (h.0, subst (λ (n : ℕ). h.0 < n) (sym (length-map words Text)) h.1, get_or-map Text words h.0 t (Text t) h.1 ∙ ap Text h.2)

pub words-first : (code : Coding) (d : Words) → AreFirst (kind.Words d) code (map Text d.list)
words-first code d absent quoted (Text t) h = (Text t, contains-map d.list t h.0.0, h, before-same (coding_word code) t)
words-first code d absent quoted v h = absurd h.0
