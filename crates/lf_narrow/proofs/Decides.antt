-- Whether a slot holds some value can be decided.
use Rattle.std.proofs.Common.{◌≡◌, ◌≢◌, ℕ, zero, suc, ◌<◌, ◌≤◌, ◌⊎◌, inl, inr, Bool, true, false, ◌==◌, ◌&&◌, ◌||◌, not, max, Option, None, Some, List, [], ◌∷◌, length, refl, sym, ap, subst, ◌∙◌, arith}
use Rattle.std.specs.Prelude.{All, ℤ, pos, negsuc, ◌≤ℤ◌, IfSome, nat_le, nat_lt, int_le}
use Rattle.std.specs.List.{list_all}
use Rattle.std.specs.Str.{bytes_eq}
use Rattle.std.proofs.lemmas.Slice.Eq.{bytes_eq-Decides}
use Rattle.std.proofs.lemmas.Bool.{and_parts, or_cases, cases_Bool, cases_eq, false≢true}
use Rattle.std.proofs.lemmas.Bool.Decides.{nat_tests}
use Rattle.std.proofs.lemmas.Int.{ints}
use Rattle.std.proofs.lemmas.List.Elements.{All-head, All-tail}
use Rattle.std.proofs.lemmas.List.Folds.{list_any_at}
use Rattle.lf_core.specs.Class.{is_letter, is_member}
use Rattle.lf_core.specs.declared.class.Class.{Class}
use Rattle.lf_core.specs.declared.values.Value.{Value}
use Rattle.lf_core.specs.declared.values.Value.TheVariants as value
use Rattle.lf_domain.specs.Texts.{AllIn, IsSized}
use Rattle.lf_number.specs.Numbers.{dash_text}
use Rattle.lf_number.specs.declared.dash_zero.DashZero.{DashZero}
use Rattle.lf_format.specs.declared.kind.Kind.{Kind}
use Rattle.lf_format.specs.declared.kind.Kind.TheVariants as kind
use Rattle.lf_format.specs.declared.slot.Absent.{Absent}
use Rattle.lf_format.specs.declared.slot.Absent.TheVariants.{No, Dash, DashTwo, Blank}
use Rattle.lf_format.specs.declared.slot.Slot.{Slot}
use Rattle.lf_format.specs.Kinds.{HoldsKind, plain_text}
use Rattle.lf_format.specs.Slots.{Holds, IsNotAbsence, holds_missing}
use Rattle.lf_format.specs.Keeps.{HoldsSome}
use Rattle.lf_format.specs.HeldLaws.{held-present, parts-hold}
use Rattle.lf_format.specs.KeptSlots.{all_below, all_bytes, some_byte, takes_dash, is_absence, is_within, has_text, has_present_text, has_present, has_value}
use Rattle.lf_format.specs.SomeValueLaws.{kind_present}

both : (s t : Bool) → s ≡ true → t ≡ true → (s && t) ≡ true
both true t h k = k
both false t h k = cc

left : (s t : Bool) → s ≡ true → (s || t) ≡ true
left true t h = refl
left false t h = cc

right : (s t : Bool) → t ≡ true → (s || t) ≡ true
right true t h = refl
right false t h = h

-- a byte that passes
below_passes : (test : ℕ → Bool) (n b : ℕ) → b < n → all_below test n ≡ true → test b ≡ true
below_passes test zero b less h = absurd (omega arith)
below_passes test (suc n) b less h =
    let parts = and_parts (test n) (all_below test n) h in
    elim (cases_eq b n) [
      | inl same ↦ subst (λ (k : ℕ). test k ≡ true) (sym same) parts.0
      | inr other ↦ below_passes test n b (omega (arith, less, other)) parts.1
    ]

one_passes : (test : ℕ → Bool) (b : ℕ) → b < 256 → test b ≡ true → some_byte test ≡ true
unfolding all_bytes
one_passes test b low h = elim (cases_Bool (all_below (λ x. not (test x)) 256)) [
  | inr none ↦ ap not none
  | inl all ↦ absurd (false≢true (sym (ap not h) ∙ below_passes (λ x. not (test x)) 256 b low all))
]

letter_low : (set : Class) (b : ℕ) → is_letter set b ≡ true → b < 256
letter_low set b h = grind (arith, nat_tests, (and_parts (nat_lt b 256) (is_member set b) h).0)

fits_within : (n least : ℕ) (most : Option ℕ) → least ≤ n → IfSome most (λ top. n ≤ top) → is_within least most ≡ true
fits_within n least None h k = refl
fits_within n least (Some m) h k = within least m (omega (arith, h, k))
  where
    within : (a b : ℕ) → a ≤ b → nat_le a b ≡ true
    within a b h = grind (arith, nat_tests, h)

is_zero : (n : ℕ) → n ≤ 0 → (n == 0) ≡ true
is_zero n h = grind (arith, nat_tests, h)

module _ (set : Class) (least : ℕ) (most : Option ℕ) where
  letters_some : (n : ℕ) (text : List ℕ) → AllIn set text → n ≤ length text → IfSome most (λ top. length text ≤ top) → has_text (is_letter set) n most ≡ true
  letters_some n [] all h k = both (is_within n most) ((n == 0) || some_byte (is_letter set)) (fits_within 0 n most h k) (left (n == 0) (some_byte (is_letter set)) (is_zero n h))
  letters_some n (b ∷ text) all h k =
      let l = All-head (λ x. is_letter set x ≡ true) b text all in
      both (is_within n most) ((n == 0) || some_byte (is_letter set)) (fits_within (length (b ∷ text)) n most h k) (right (n == 0) (some_byte (is_letter set)) (one_passes (is_letter set) b (letter_low set b l) l))

  abbrev bare : ℕ → Bool
  bare = λ b. is_letter set b && not (b == 45)

  isnt_dash : (b : ℕ) → (b ≡ 45 → ⊥) → not (b == 45) ≡ true
  isnt_dash b h = grind (arith, nat_tests, h)

  bare_some : (text : List ℕ) → IsSized set least most text → text ≢ 45 ∷ [] → (has_text bare least most || has_text (is_letter set) (max least 2) most) ≡ true
  bare_some [] h d = left (has_text bare least most) (has_text (is_letter set) (max least 2) most)
      (both (is_within least most) ((least == 0) || some_byte bare) (fits_within 0 least most h.1 h.2) (left (least == 0) (some_byte bare) (is_zero least h.1)))
  bare_some (b ∷ []) h d =
      let l = All-head (λ x. is_letter set x ≡ true) b [] h.0 in
      let n = isnt_dash b (λ e. d (ap (λ (x : ℕ). x ∷ []) e)) in
      left (has_text bare least most) (has_text (is_letter set) (max least 2) most)
      (both (is_within least most) ((least == 0) || some_byte bare) (fits_within 1 least most h.1 h.2) (right (least == 0) (some_byte bare) (one_passes bare b (letter_low set b l) (both (is_letter set b) (not (b == 45)) l n))))
  bare_some (b ∷ c ∷ text) h d =
      let more : max least 2 ≤ length (b ∷ c ∷ text) = omega (arith, h.1) in
      right (has_text bare least most) (has_text (is_letter set) (max least 2) most) (letters_some (max least 2) (b ∷ c ∷ text) h.0 more h.2)

  filled : (text : List ℕ) → text ≢ [] → 1 ≤ length text
  filled [] h = absurd (h refl)
  filled (b ∷ text) h = omega arith

  text_some : (a : Absent) (quoted : Bool) (text : List ℕ) → IsSized set least most text → IsNotAbsence a quoted text → has_present_text set least most a quoted ≡ true
  text_some No quoted text h p = letters_some least text h.0 h.1 h.2
  text_some DashTwo quoted text h p = letters_some least text h.0 h.1 h.2
  text_some Dash true text h p = letters_some least text h.0 h.1 h.2
  text_some Dash false text h p = bare_some text h p
  text_some Blank quoted text h p = let one = filled text p in letters_some (max least 1) text h.0 (omega (arith, one, h.1)) h.2

in_order : (lo n hi : ℤ) → lo ≤ℤ n → n ≤ℤ hi → int_le lo hi ≡ true
in_order lo n hi h k = grind (arith, ints, h, k)

dash_some : (d : DashZero) (a : Absent) (quoted : Bool) (n : ℤ) → d.lo ≤ℤ n → n ≤ℤ d.hi → IsNotAbsence a quoted (dash_text n) → (not (takes_dash a quoted) || int_le (pos 1) d.hi) ≡ true
dash_some d No quoted n h k p = refl
dash_some d DashTwo quoted n h k p = refl
dash_some d Blank quoted n h k p = refl
dash_some d Dash true n h k p = refl
dash_some d Dash false (pos zero) h k p = absurd (p refl)
dash_some d Dash false (pos (suc m)) h k p = least_one m d.hi k
  where
    least_one : (m : ℕ) (hi : ℤ) → pos (suc m) ≤ℤ hi → int_le (pos 1) hi ≡ true
    least_one m hi k = grind (arith, ints, k)
dash_some d Dash false (negsuc m) h k p = absurd (below_zero d.lo m d.not_negative h)
  where
    below_zero : (lo : ℤ) (m : ℕ) → pos 0 ≤ℤ lo → lo ≤ℤ negsuc m → ⊥
    below_zero lo m z h = omega (arith, ints, z, h)

not_absence : (a : Absent) (quoted : Bool) (text : List ℕ) → IsNotAbsence a quoted text → not (is_absence a quoted text) ≡ true
not_absence No quoted text p = refl
not_absence DashTwo quoted text p = refl
not_absence Dash true text p = refl
not_absence Dash false text p = elim (cases_Bool (bytes_eq text (45 ∷ []))) [ inl t ↦ absurd (p ((bytes_eq-Decides text (45 ∷ [])).0 t)) | inr f ↦ ap not f ]
not_absence Blank quoted text p = elim (cases_Bool (bytes_eq text [])) [ inl t ↦ absurd (p ((bytes_eq-Decides text []).0 t)) | inr f ↦ ap not f ]

kind_some : (k : Kind) (a : Absent) (quoted : Bool) (v : Value) → HoldsKind k v → IsNotAbsence a quoted (plain_text k v) → has_present k a quoted ≡ true
kind_some (kind.Num d) a quoted (value.Num n) h p = in_order d.lo n d.hi h.0 h.1
kind_some (kind.Num d) a quoted v h p = absurd h
kind_some (kind.DashZero d) a quoted (value.Num n) h p = both (int_le d.lo d.hi) (not (takes_dash a quoted) || int_le (pos 1) d.hi) (in_order d.lo n d.hi h.0 h.1) (dash_some d a quoted n h.0 h.1 p)
kind_some (kind.DashZero d) a quoted v h p = absurd h
kind_some (kind.Fixed3 d) a quoted (value.Num n) h p = in_order d.lo n d.hi h.0 h.1
kind_some (kind.Fixed3 d) a quoted v h p = absurd h
kind_some (kind.Padded d) a quoted (value.Num n) h p = in_order d.lo n d.hi h.0 h.1
kind_some (kind.Padded d) a quoted v h p = absurd h
kind_some (kind.Words d) a quoted (value.Text text) h p =
    let test : List ℕ → Bool = λ word. list_all (λ b. nat_lt b 256) word && not (is_absence a quoted word) in
    list_any_at test d.list h.0.0 text h.0.1 (subst (λ (w : List ℕ). test w ≡ true) (sym h.0.2) (both (list_all (λ b. nat_lt b 256) text) (not (is_absence a quoted text)) (low text h.1) (not_absence a quoted text p)))
  where
    low : (text : List ℕ) → All (λ b. b < 256) text → list_all (λ b. nat_lt b 256) text ≡ true
    low [] h = refl
    low (b ∷ text) h = both (nat_lt b 256) (list_all (λ x. nat_lt x 256) text) (byte b (All-head (λ x. x < 256) b text h)) (low text (All-tail (λ x. x < 256) b text h))
      where
        byte : (b : ℕ) → b < 256 → nat_lt b 256 ≡ true
        byte b h = grind (arith, nat_tests, h)
kind_some (kind.Words d) a quoted v h p = absurd h
kind_some (kind.Text d) a quoted (value.Text text) h p = text_some d.class d.min d.max a quoted text h p
kind_some (kind.Text d) a quoted v h p = absurd h
kind_some k a quoted v h p = refl

slot_some : (slot : Slot) (v : Value) → Holds slot v → has_value slot ≡ true
slot_some slot value.Missing h = left (holds_missing slot.absent slot.present) (has_present slot.kind slot.absent slot.quoted) h
slot_some slot v h = right (holds_missing slot.absent slot.present) (has_present slot.kind slot.absent slot.quoted) (kind_some slot.kind slot.absent slot.quoted v h.0 h.1)

value_held : (slot : Slot) → has_value slot ≡ true → HoldsSome slot
value_held slot h = elim (or_cases (holds_missing slot.absent slot.present) (has_present slot.kind slot.absent slot.quoted) h) [
  | inl missing ↦ (value.Missing, missing)
  | inr present ↦ let some = kind_present slot.kind slot.absent slot.quoted present in (some.0, parts-hold slot some.0 (held-present slot.kind some.0 some.1) some.1 some.2)
]

pub some_decided : (slot : Slot) → HoldsSome slot ⊎ (HoldsSome slot → ⊥)
some_decided slot = elim (cases_Bool (has_value slot)) [
  | inl t ↦ inl (value_held slot t)
  | inr f ↦ inr (λ h. false≢true (sym f ∙ slot_some slot h.0 h.1))
]
