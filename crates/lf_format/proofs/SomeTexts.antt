-- Texts of a set that aren't taken for absence.
use Rattle.std.proofs.Common.{◌≡◌, ◌≢◌, ℕ, zero, suc, ◌+◌, ◌<◌, ◌≤◌, List, [], ◌∷◌, ◌++◌, length, Bool, true, false, refl, sym, ap, subst, ◌∙◌, arith, ◌⊎◌, inl, inr, ◌-◌}
use Rattle.std.specs.Prelude.{Option, IfSome, replicate, max, ◌&&◌, not, ◌==◌, ltb}
use Rattle.std.proofs.lemmas.Bool.{cases_Bool, eqb-true, and_parts}
use Rattle.std.proofs.lemmas.List.{length-replicate}
use Rattle.std.proofs.lemmas.List.Elements.{All-replicate, All-nil, All-cons, All-head, All-tail}
use Rattle.std.proofs.lemmas.Bool.Decides.{nat_tests}
use Rattle.lf_core.specs.Class.{is_member, is_letter, members, members_below}
use Rattle.lf_core.specs.declared.class.Class.{Class}
use Rattle.lf_core.proofs.Members.{members_below-none, members_below-in, members_below-out}
use Rattle.lf_domain.specs.Texts.{AllIn, IsSized}

append-some : (xs : List ℕ) (b : ℕ) → xs ++ b ∷ [] ≡ [] → ⊥
append-some [] b e = cc
append-some (x ∷ xs) b e = cc

pub letter-parts : (set : Class) (b : ℕ) → is_letter set b ≡ true → (b < 256) × (is_member set b ≡ true)
letter-parts set b h =
    let parts = and_parts (ltb b 256) (is_member set b) h in
    (grind (arith, nat_tests, parts.0), parts.1)

letter-is : (set : Class) (b : ℕ) → b < 256 → is_member set b ≡ true → is_letter set b ≡ true
letter-is set b h m = let byte : ltb b 256 ≡ true = grind (arith, nat_tests, h) in rw byte m

not-true : (b : Bool) → not b ≡ true → b ≡ false
not-true true e = cc
not-true false e = refl

-- A letter of a set that isn't empty.
pub record HasLetter (set : Class) : Type 0 where
  pub letter : ℕ
  pub is : is_letter set letter ≡ true

below-letter : (set : Class) (b : ℕ) → b ≤ 256 → (members_below set b ≡ []) ⊎ HasLetter set
below-letter set zero h = inl (members_below-none set)
below-letter set (suc b) h = elim (below-letter set b (omega (arith, h))) [
  | inr found ↦ inr found
  | inl none ↦ elim (cases_Bool (is_member set b)) [
    | inl t ↦ inr (record { letter = b; is = letter-is set b (omega (arith, h)) t })
    | inr f ↦ let same : suc b ≡ b + 1 = omega arith in inl (ap (members_below set) same ∙ members_below-out set b f ∙ none)
  ]
]

-- A set that isn't empty has a letter.
pub some-letter : (set : Class) → members set ≢ [] → HasLetter set
some-letter set some = elim (below-letter set 256 (omega arith)) [
  | inl none ↦ absurd (some none)
  | inr found ↦ found
]

grows : (set : Class) (b k : ℕ) → members_below set (b + k) ≡ [] → members_below set b ≡ []
grows set b zero e = let same : b ≡ b + 0 = omega arith in ap (members_below set) same ∙ e
grows set b (suc k) e =
    let same : b + suc k ≡ b + k + 1 = omega arith in
    grows set b k (elim (cases_Bool (is_member set (b + k))) [
      | inl t ↦ absurd (append-some (members_below set (b + k)) (b + k) (sym (members_below-in set (b + k) t) ∙ ap (members_below set) (sym same) ∙ e))
      | inr f ↦ sym (members_below-out set (b + k) f) ∙ ap (members_below set) (sym same) ∙ e
    ])

-- An empty set has no letter.
pub no-letter : (set : Class) (b : ℕ) → members set ≡ [] → is_letter set b ≡ true → ⊥
no-letter set b none h =
    let parts = letter-parts set b h in
    let same : 256 ≡ b + 1 + (255 - b) = omega (arith, parts.0) in
    let low : members_below set (b + 1) ≡ [] = grows set (b + 1) (255 - b) (ap (members_below set) (sym same) ∙ none) in
    append-some (members_below set b) b (sym (members_below-in set b parts.1) ∙ low)

-- There is a text of so many letters of a set that isn't empty.
pub text-exists : (set : Class) (n : ℕ) (most : Option ℕ) → IfSome most (λ top. n ≤ top) → members set ≢ [] → (text : List ℕ) × IsSized set n most text
text-exists set n most fits some =
    let one = some-letter set some in
    let len : length (replicate n one.letter) ≡ n = length-replicate n one.letter in
    let least : n ≤ length (replicate n one.letter) = omega (arith, len) in
    (replicate n one.letter, (All-replicate (λ letter. is_letter set letter ≡ true) n one.letter one.is, least, subst (λ (k : ℕ). IfSome most (λ top. k ≤ top)) (sym len) fits))

pub text-none : (set : Class) (n : ℕ) (most : Option ℕ) (text : List ℕ) → 0 < n → members set ≡ [] → IsSized set n most text → ⊥
text-none set n most [] p none h = absurd (omega (arith, p, h.1))
text-none set n most (b ∷ text) p none h = no-letter set b none (All-head (λ letter. is_letter set letter ≡ true) b text h.0)

-- The other set is this one without the dash.
abbrev pub IsWithoutDash : Class → Class → Type 0
IsWithoutDash other set = (b : ℕ) → b < 256 → is_member other b ≡ (is_member set b && not (b == 45))

without-letter : (other set : Class) (b : ℕ) → IsWithoutDash other set → is_letter other b ≡ true → (is_letter set b ≡ true) × ((b == 45) ≡ false)
without-letter other set b w h =
    let parts = letter-parts other b h in
    let both = and_parts (is_member set b) (not (b == 45)) (sym (w b parts.0) ∙ parts.1) in
    (letter-is set b parts.0 both.0, not-true (b == 45) both.1)

with-letter : (other set : Class) (b : ℕ) → IsWithoutDash other set → is_letter set b ≡ true → (b == 45) ≡ false → is_letter other b ≡ true
with-letter other set b w h miss =
    let parts = letter-parts set b h in
    letter-is other b parts.0 (w b parts.0 ∙ rw (parts.1, miss) refl)

all-without : (other set : Class) (text : List ℕ) → IsWithoutDash other set → AllIn other text → AllIn set text
all-without other set [] w h = All-nil (λ letter. is_letter set letter ≡ true)
all-without other set (b ∷ text) w h =
    All-cons (λ letter. is_letter set letter ≡ true) b text
    (without-letter other set b w (All-head (λ letter. is_letter other letter ≡ true) b text h)).0
    (all-without other set text w (All-tail (λ letter. is_letter other letter ≡ true) b text h))

dash-out : (other set : Class) (text : List ℕ) → IsWithoutDash other set → AllIn other text → text ≢ 45 ∷ []
dash-out other set text w h e =
    let all : AllIn other (45 ∷ []) = subst (AllIn other) e h in
    let miss = (without-letter other set 45 w (All-head (λ letter. is_letter other letter ≡ true) 45 [] all)).1 in
    cc

-- A text without dashes isn't the dash, and a text of two letters or more isn't either.
pub other-text : (other set : Class) (min : ℕ) (most : Option ℕ) (text : List ℕ) → IsWithoutDash other set → IsSized other min most text → IsSized set min most text × (text ≢ 45 ∷ [])
other-text other set min most text w h = ((all-without other set text w h.0, h.1, h.2), dash-out other set text w h.0)

pub long-text : (set : Class) (min : ℕ) (most : Option ℕ) (text : List ℕ) → IsSized set (max min 2) most text → IsSized set min most text × (text ≢ 45 ∷ [])
long-text set min most text h = ((h.0, omega (arith, h.1), h.2), λ e. let len : length text ≡ 1 = ap length e in absurd (omega (arith, len, h.1)))

-- A text that isn't the dash is one of these two.
pub either-text : (other set : Class) (min : ℕ) (most : Option ℕ) (text : List ℕ) → IsWithoutDash other set → IsSized set min most text → text ≢ 45 ∷ [] → IsSized other min most text ⊎ IsSized set (max min 2) most text
either-text other set min most [] w h d = inl (All-nil (λ letter. is_letter other letter ≡ true), h.1, h.2)
either-text other set min most (b ∷ []) w h d = elim (cases_Bool (b == 45)) [
  | inl hit ↦ absurd (d (ap (λ (x : ℕ). x ∷ []) (eqb-true b 45 hit)))
  | inr miss ↦
      let one = with-letter other set b w (All-head (λ letter. is_letter set letter ≡ true) b [] h.0) miss in
      inl (All-cons (λ letter. is_letter other letter ≡ true) b [] one (All-nil (λ letter. is_letter other letter ≡ true)), h.1, h.2)
]
either-text other set min most (b ∷ c ∷ text) w h d = let len : max min 2 ≤ suc (suc (length text)) = omega (arith, h.1) in inr (h.0, len, h.2)
