-- After a rule a slot holds exactly what it held before and what the rule allows.
use Rattle.std.proofs.Common.{◌≡◌, ℕ, ◌<◌, ◌≤◌, Bool, true, ltb, max, min, ◌&&◌, Option, None, Some, List, [], ◌∷◌, length, refl, sym, ap, subst, ◌∙◌, arith}
use Rattle.std.specs.Prelude.{ℤ, ◌≤ℤ◌, IfSome, ◌↔◌}
use Rattle.std.specs.Option.{ForSome}
use Rattle.std.specs.Int.{int_max, int_min}
use Rattle.std.proofs.lemmas.Int.{ints}
use Rattle.std.proofs.lemmas.Bool.{and_parts}
use Rattle.std.proofs.lemmas.Bool.Decides.{nat_tests}
use Rattle.std.proofs.lemmas.List.Elements.{All-nil, All-cons, All-head, All-tail, All-weaker}
use Rattle.lf_limits.specs.Limits.{most_length}
use Rattle.lf_core.specs.Class.{is_letter, is_member}
use Rattle.lf_core.specs.declared.class.Class.{Class}
use Rattle.lf_core.specs.declared.values.Value.{Value}
use Rattle.lf_core.specs.declared.values.Value.TheVariants as value
use Rattle.lf_domain.specs.declared.text_set.TextSet.{TextSet}
use Rattle.lf_domain.specs.declared.query_text.QueryText.{QueryText}
use Rattle.lf_domain.specs.Texts.{AllIn, HoldsQuery}
use Rattle.lf_number.specs.Numbers.{HoldsNumber}
use Rattle.lf_format.specs.declared.kind.Kind.{Kind}
use Rattle.lf_format.specs.declared.kind.Kind.TheVariants as kind
use Rattle.lf_format.specs.declared.slot.Absent.{Absent}
use Rattle.lf_format.specs.declared.slot.Absent.TheVariants.{No, Dash, DashTwo, Blank}
use Rattle.lf_format.specs.declared.slot.Slot.{Slot as OneSlot}
use Rattle.lf_format.specs.Kinds.{HoldsKind}
use Rattle.lf_format.specs.Slots.{Holds, HoldsPresent, IsNotAbsence, holds_missing}
use Rattle.lf_narrow.specs.Classes.{passing}
use Rattle.lf_narrow.specs.Bounds.{lesser, bounded, upper_bounded, met_letters, met_lengths, met_numbers, met_dashed, met_thousandths, met_padded}
use Rattle.lf_narrow.specs.Terms.{Rule, letters, lengths, range, present}
use Rattle.lf_narrow.specs.Fits.{IsUpper, FitsRule}
use Rattle.lf_narrow.specs.Effects.{AllPass, Allows, narrowed_kind, with_kind, narrowed_slot}
use Rattle.lf_narrow.proofs.ClassBits.{has_members}
use Rattle.lf_narrow.proofs.Kept.{Lesser, rule_lesser, letter_passed, some_same, none_some}

-- what is held before and allowed is held after, and what is held after is allowed
pub record IsMet (rule : Rule) (k after : Kind) : Type 0 where
  pub allowed : (v : Value) → HoldsKind after v → Allows rule k v
  pub held : (v : Value) → HoldsKind k v → Allows rule k v → HoldsKind after v

module _ (test : ℕ → Bool) (set : Class) where
  letter_met : (x : ℕ) → is_letter set x ≡ true → test x ≡ true → is_letter (passing test set) x ≡ true
  letter_met x h t =
      let p = and_parts (ltb x 256) (is_member set x) h in
      let low : x < 256 = grind (arith, nat_tests, p.0) in
      let m : is_member (passing test set) x ≡ true = has_members (λ b. is_member set b && test b) x low ∙ ap (λ (y : Bool). y && test x) p.1 ∙ t in
      let l = p.0 in rw (l, m) refl

  letters_met : (text : List ℕ) → AllIn set text → AllPass test text → AllIn (passing test set) text
  letters_met [] h t = All-nil (λ x. is_letter (passing test set) x ≡ true)
  letters_met (c ∷ text) h t =
      All-cons (λ x. is_letter (passing test set) x ≡ true) c text
      (letter_met c (All-head (λ x. is_letter set x ≡ true) c text h) (All-head (λ x. test x ≡ true) c text t))
      (letters_met text (All-tail (λ x. is_letter set x ≡ true) c text h) (All-tail (λ x. test x ≡ true) c text t))

  letters_pass : (text : List ℕ) → AllIn (passing test set) text → AllPass test text
  letters_pass text h = All-weaker (λ x. is_letter (passing test set) x ≡ true) (λ x. test x ≡ true) (λ x e. (letter_passed test set x e).1) text h

text_met : (test : ℕ → Bool) (d : TextSet) → IsMet (letters test) (kind.Text d) (kind.Text (met_letters test d))
text_met test d = record { allowed = allowed; held = held }
  where
    allowed : (v : Value) → HoldsKind (kind.Text (met_letters test d)) v → Allows (letters test) (kind.Text d) v
    allowed (value.Text text) h = letters_pass test d.class text h.0
    allowed v h = absurd h

    held : (v : Value) → HoldsKind (kind.Text d) v → Allows (letters test) (kind.Text d) v → HoldsKind (kind.Text (met_letters test d)) v
    held (value.Text text) h t = (letters_met test d.class text h.0 t, h.1, h.2)
    held v h t = absurd h

query_met : (test : ℕ → Bool) (d : QueryText) → IsMet (letters test) (kind.Query d) (kind.Query (record { class = passing test d.class }))
query_met test d = record { allowed = allowed; held = held }
  where
    allowed : (v : Value) → HoldsQuery (passing test d.class) v → Allows (letters test) (kind.Query d) v
    allowed (value.Text []) h = tt
    allowed (value.Text (mark ∷ text)) h = letters_pass test d.class text h.1
    allowed v h = absurd h

    held : (v : Value) → HoldsQuery d.class v → Allows (letters test) (kind.Query d) v → HoldsQuery (passing test d.class) v
    held (value.Text []) h t = tt
    held (value.Text (mark ∷ text)) h t = (h.0, letters_met test d.class text h.1 t)
    held v h t = absurd h

lower_met : (n min least : ℕ) → min ≤ n → least ≤ n → bounded (max min least) ≤ n
lower_met n min least h k = omega (arith, h, k)

lower_allowed : (n min least : ℕ) → least ≤ most_length → bounded (max min least) ≤ n → least ≤ n
lower_allowed n min least fits h = omega (arith, fits, h)

upper_met : (n : ℕ) (max most : Option ℕ) → IfSome max (λ top. n ≤ top) → IfSome most (λ top. n ≤ top) → ForSome {T = ℕ} max (λ top. top ≤ most_length) → IsUpper most → IfSome (upper_bounded (lesser max most)) (λ top. n ≤ top)
upper_met n None None h k f g = tt
upper_met n None (Some o) h k f g = let top = g o refl in omega (arith, k, top)
upper_met n (Some m) None h k f g = let top = f m refl in omega (arith, h, top)
upper_met n (Some m) (Some o) h k f g = let top = f m refl in omega (arith, h, k, top)

upper_allowed : (n : ℕ) (max most : Option ℕ) → IfSome (upper_bounded (lesser max most)) (λ top. n ≤ top) → IfSome most (λ top. n ≤ top)
upper_allowed n None None h = tt
upper_allowed n None (Some o) h = omega (arith, h)
upper_allowed n (Some m) None h = tt
upper_allowed n (Some m) (Some o) h = omega (arith, h)

lengths_met : (least : ℕ) (most : Option ℕ) (d : TextSet) → FitsRule (lengths least most) → IsMet (lengths least most) (kind.Text d) (kind.Text (met_lengths least most d))
lengths_met least most d fits = record { allowed = allowed; held = held }
  where
    allowed : (v : Value) → HoldsKind (kind.Text (met_lengths least most d)) v → Allows (lengths least most) (kind.Text d) v
    allowed (value.Text text) h = (lower_allowed (length text) d.min least fits.0 h.1, upper_allowed (length text) d.max most h.2)
    allowed v h = absurd h

    held : (v : Value) → HoldsKind (kind.Text d) v → Allows (lengths least most) (kind.Text d) v → HoldsKind (kind.Text (met_lengths least most d)) v
    held (value.Text text) h t = (h.0, lower_met (length text) d.min least h.1 t.0, upper_met (length text) d.max most h.2 t.1 d.max_bounded fits.1)
    held v h t = absurd h

range_allowed : (lo hi a b : ℤ) (k : Kind) (v : Value) → HoldsNumber (int_max lo a) (int_min hi b) v → Allows (range a b) k v
range_allowed lo hi a b k (value.Num n) h = (low lo a n h.0, high hi b n h.1)
  where
    low : (lo a n : ℤ) → int_max lo a ≤ℤ n → a ≤ℤ n
    low lo a n h = grind (arith, ints, h)

    high : (hi b n : ℤ) → n ≤ℤ int_min hi b → n ≤ℤ b
    high hi b n h = grind (arith, ints, h)
range_allowed lo hi a b k v h = absurd h

range_held : (lo hi a b : ℤ) (k : Kind) (v : Value) → HoldsNumber lo hi v → Allows (range a b) k v → HoldsNumber (int_max lo a) (int_min hi b) v
range_held lo hi a b k (value.Num n) h t = (low lo a n h.0 t.0, high hi b n h.1 t.1)
  where
    low : (lo a n : ℤ) → lo ≤ℤ n → a ≤ℤ n → int_max lo a ≤ℤ n
    low lo a n h t = grind (arith, ints, h, t)

    high : (hi b n : ℤ) → n ≤ℤ hi → n ≤ℤ b → n ≤ℤ int_min hi b
    high hi b n h t = grind (arith, ints, h, t)
range_held lo hi a b k v h t = absurd h

rule_met : (rule : Rule) (k after : Kind) → FitsRule rule → narrowed_kind rule k ≡ Some after → IsMet rule k after
rule_met (letters test) (kind.Text d) after fits e = subst (IsMet (letters test) (kind.Text d)) (some_same (kind.Text (met_letters test d)) after e) (text_met test d)
rule_met (letters test) (kind.Query d) after fits e = subst (IsMet (letters test) (kind.Query d)) (some_same (kind.Query (record { class = passing test d.class })) after e) (query_met test d)
rule_met (lengths least most) (kind.Text d) after fits e = subst (IsMet (lengths least most) (kind.Text d)) (some_same (kind.Text (met_lengths least most d)) after e) (lengths_met least most d fits)
rule_met (range a b) (kind.Num d) after fits e = subst (IsMet (range a b) (kind.Num d)) (some_same (kind.Num (met_numbers a b d)) after e) (record { allowed = range_allowed d.lo d.hi a b (kind.Num d); held = range_held d.lo d.hi a b (kind.Num d) })
rule_met (range a b) (kind.DashZero d) after fits e = subst (IsMet (range a b) (kind.DashZero d)) (some_same (kind.DashZero (met_dashed a b d)) after e) (record { allowed = range_allowed d.lo d.hi a b (kind.DashZero d); held = range_held d.lo d.hi a b (kind.DashZero d) })
rule_met (range a b) (kind.Fixed3 d) after fits e = subst (IsMet (range a b) (kind.Fixed3 d)) (some_same (kind.Fixed3 (met_thousandths a b d)) after e) (record { allowed = range_allowed d.lo d.hi a b (kind.Fixed3 d); held = range_held d.lo d.hi a b (kind.Fixed3 d) })
rule_met (range a b) (kind.Padded d) after fits e = subst (IsMet (range a b) (kind.Padded d)) (some_same (kind.Padded (met_padded a b d)) after e) (record { allowed = range_allowed d.lo d.hi a b (kind.Padded d); held = range_held d.lo d.hi a b (kind.Padded d) })
rule_met rule k after fits e = absurd (none_some after e)

-- a slot whose domain alone was narrowed
module _ (rule : Rule) (slot : OneSlot) (k : Kind) (l : Lesser slot.kind k) (m : IsMet rule slot.kind k) where
  abbrev made : OneSlot
  made = record slot { kind = k }

  present_to : (v : Value) → HoldsPresent made v → HoldsPresent slot v × Allows rule slot.kind v
  present_to v h = ((l.held v h.0, subst (λ (text : List ℕ). IsNotAbsence slot.absent slot.quoted text) (l.plain v) h.1), m.allowed v h.0)

  present_from : (v : Value) → HoldsPresent slot v → Allows rule slot.kind v → HoldsPresent made v
  present_from v h a = (m.held v h.0 a, subst (λ (text : List ℕ). IsNotAbsence slot.absent slot.quoted text) (sym (l.plain v)) h.1)

  kind_to : (Allows rule slot.kind value.Missing) → (v : Value) → Holds made v → Holds slot v × Allows rule slot.kind v
  kind_to a value.Missing h = (h, a)
  kind_to a v h = present_to v h

  kind_from : (v : Value) → Holds slot v → Allows rule slot.kind v → Holds made v
  kind_from value.Missing h a = h
  kind_from v h a = present_from v h a

by_kind : (rule : Rule) (slot : OneSlot) (o : Option Kind) (after : OneSlot) (v : Value) → Allows rule slot.kind value.Missing → ((k : Kind) → o ≡ Some k → Lesser slot.kind k × IsMet rule slot.kind k) → with_kind slot o ≡ Some after → Holds after v ↔ (Holds slot v × Allows rule slot.kind v)
by_kind rule slot None after v a is e = absurd (none_some after e)
by_kind rule slot (Some k) after v a is e =
    let both = is k refl in
    let one : OneSlot = record slot { kind = k } in
    subst (λ (s : OneSlot). Holds s v ↔ (Holds slot v × Allows rule slot.kind v)) (some_same one after e)
    (kind_to rule slot k both.0 both.1 a v, λ h. kind_from rule slot k both.0 both.1 v h.0 h.1)

never_missing : (a : Absent) → holds_missing a true ≡ true → ⊥
never_missing No e = cc
never_missing Dash e = cc
never_missing DashTwo e = cc
never_missing Blank e = cc

present_exact : (slot : OneSlot) (v : Value) → Holds (record slot { present = true }) v ↔ (Holds slot v × Allows present slot.kind v)
present_exact slot value.Missing = (λ h. absurd (never_missing slot.absent h), λ h. absurd h.1)
present_exact slot v = (λ h. (h, tt), λ h. h.0)

pub exact : (rule : Rule) (slot after : OneSlot) (v : Value) → FitsRule rule → narrowed_slot rule slot ≡ Some after → Holds after v ↔ (Holds slot v × Allows rule slot.kind v)
exact present slot after v fits e =
    let made : OneSlot = record slot { present = true } in
    subst (λ (s : OneSlot). Holds s v ↔ (Holds slot v × Allows present slot.kind v)) (some_same made after e) (present_exact slot v)
exact (letters test) slot after v fits e = by_kind (letters test) slot (narrowed_kind (letters test) slot.kind) after v (unmissed slot.kind) (λ k h. (rule_lesser (letters test) slot.kind k h, rule_met (letters test) slot.kind k fits h)) e
  where
    unmissed : (k : Kind) → Allows (letters test) k value.Missing
    unmissed (kind.Query d) = tt
    unmissed k = tt
exact (lengths least most) slot after v fits e = by_kind (lengths least most) slot (narrowed_kind (lengths least most) slot.kind) after v tt (λ k h. (rule_lesser (lengths least most) slot.kind k h, rule_met (lengths least most) slot.kind k fits h)) e
exact (range lo hi) slot after v fits e = by_kind (range lo hi) slot (narrowed_kind (range lo hi) slot.kind) after v tt (λ k h. (rule_lesser (range lo hi) slot.kind k h, rule_met (range lo hi) slot.kind k fits h)) e
