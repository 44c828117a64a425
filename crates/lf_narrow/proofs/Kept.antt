-- A narrowed format keeps what a format keeps.
use Rattle.std.proofs.Common.{◌≡◌, ◌≢◌, ℕ, ◌+◌, ◌<◌, ◌≤◌, Bool, true, false, cond, ltb, max, ◌&&◌, Option, None, Some, List, [], ◌∷◌, length, refl, sym, ap, subst, ◌∙◌, arith}
use Rattle.std.specs.Prelude.{All, ℤ, ◌≤ℤ◌, IfSome}
use Rattle.std.specs.Option.{unwrap_or}
use Rattle.std.specs.Int.{int_max, int_min}
use Rattle.std.proofs.lemmas.Int.{ints}
use Rattle.std.proofs.lemmas.Bool.{and_parts}
use Rattle.std.proofs.lemmas.Bool.Decides.{nat_tests}
use Rattle.std.proofs.lemmas.List.Elements.{All-weaker}
use Rattle.lf_core.specs.Class.{is_letter, is_member}
use Rattle.lf_core.specs.declared.class.Class.{Class}
use Rattle.lf_core.specs.declared.values.Value.{Value}
use Rattle.lf_core.specs.declared.values.Value.TheVariants as value
use Rattle.lf_domain.specs.Texts.{AllIn, IsText, IsSized, IsQuery}
use Rattle.lf_number.specs.Numbers.{HoldsNumber}
use Rattle.lf_limits.specs.Limits.{most_length}
use Rattle.lf_escape.specs.Codings.{coding_takes}
use Rattle.lf_narrow.specs.Bounds.{lesser, bounded, upper_bounded, met_letters, met_lengths, met_numbers, met_dashed, met_thousandths, met_padded}
use Rattle.lf_format.specs.declared.kind.Kind.{Kind}
use Rattle.lf_format.specs.declared.kind.Kind.TheVariants as kind
use Rattle.lf_format.specs.declared.slot.Slot.{Slot as OneSlot}
use Rattle.lf_format.specs.declared.format.Piece.{Piece}
use Rattle.lf_format.specs.declared.format.Piece.TheVariants.{Literal, Slot}
use Rattle.lf_escape.specs.declared.coding.Coding.{Coding}
use Rattle.lf_format.specs.Kinds.{HoldsKind, plain_text}
use Rattle.lf_format.specs.Keeps.{FitsCode, TakesPlain, EachKept, AreJoined, slots_in, literal_bytes, KeepsFormat}
use Rattle.lf_narrow.specs.Classes.{passing}
use Rattle.lf_narrow.specs.Terms.{Rule, letters, lengths, range, present}
use Rattle.lf_narrow.specs.Effects.{narrowed_kind, with_kind, narrowed_slot}
use Rattle.lf_narrow.specs.Narrowed.{Effect, is_named, slot_after, pieces_after, EachStands}
use Rattle.lf_narrow.proofs.ClassBits.{has_members}

-- a slot that takes the other's place in a format, if it holds some value
pub record Follows (slot after : OneSlot) : Type 0 where
  pub fits : FitsCode slot.kind slot.code → FitsCode after.kind after.code
  pub takes : TakesPlain slot.kind slot.code → TakesPlain after.kind after.code

module _ (named : Option ℕ) (effect : Effect) (follows : (slot after : OneSlot) → effect slot ≡ Some after → Follows slot after) where
  follows_or : (slot : OneSlot) → Follows slot (unwrap_or (effect slot) slot)
  follows_or slot = elim (effect slot) as (λ o. effect slot ≡ o → Follows slot (unwrap_or o slot)) [
    | None ↦ λ e. record { fits = λ h. h; takes = λ h. h }
    | Some after ↦ λ e. follows slot after e
  ] refl

  follows_after : (k : ℕ) (slot : OneSlot) → Follows slot (slot_after named effect k slot)
  follows_after k slot = elim (is_named named k) as (λ t. Follows slot (cond t (unwrap_or (effect slot) slot) slot)) [
    | true ↦ follows_or slot
    | false ↦ record { fits = λ h. h; takes = λ h. h }
  ]

  each_kept : (k : ℕ) (pieces : List Piece) → EachKept pieces → EachStands named effect k pieces → EachKept (pieces_after named effect k pieces)
  each_kept k [] h s = tt
  each_kept k (Literal text ∷ pieces) h s = (h.0, each_kept k pieces h.1 s)
  each_kept k (Slot slot ∷ pieces) h s =
      let f = follows_after k slot in
      (record { fits = f.fits h.0.fits; takes = f.takes h.0.takes; some = s.0.some }, each_kept (k + 1) pieces h.1 s.1)

  joined_after : (k : ℕ) (pieces : List Piece) → AreJoined pieces → AreJoined (pieces_after named effect k pieces)
  joined_after k [] h = tt
  joined_after k (Slot slot ∷ pieces) h = joined_after (k + 1) pieces h
  joined_after k (Literal text ∷ []) h = tt
  joined_after k (Literal text ∷ Literal more ∷ pieces) h = absurd h
  joined_after k (Literal text ∷ Slot slot ∷ pieces) h = joined_after (k + 1) pieces h

  some_after : (pieces : List Piece) → pieces ≢ [] → pieces_after named effect 1 pieces ≢ []
  some_after [] h e = h refl
  some_after (Literal text ∷ pieces) h e = cc
  some_after (Slot slot ∷ pieces) h e = cc

  slots_same : (k : ℕ) (pieces : List Piece) → length (slots_in (pieces_after named effect k pieces)) ≡ length (slots_in pieces)
  slots_same k [] = refl
  slots_same k (Literal text ∷ pieces) = slots_same k pieces
  slots_same k (Slot slot ∷ pieces) = let e = slots_same (k + 1) pieces in omega (arith, e)

  bytes_same : (k : ℕ) (pieces : List Piece) → literal_bytes (pieces_after named effect k pieces) ≡ literal_bytes pieces
  bytes_same k [] = refl
  bytes_same k (Literal text ∷ pieces) = ap (λ (n : ℕ). length text + n) (bytes_same k pieces)
  bytes_same k (Slot slot ∷ pieces) = bytes_same (k + 1) pieces

  pub keeps_after : (pieces : List Piece) → KeepsFormat pieces → EachStands named effect 1 pieces → KeepsFormat (pieces_after named effect 1 pieces)
  keeps_after pieces h s = record {
    each = each_kept 1 pieces h.each s;
    joined = joined_after 1 pieces h.joined;
    some = some_after pieces h.some;
    few = let e = slots_same 1 pieces in let f = h.few in omega (arith, e, f);
    short = let e = bytes_same 1 pieces in let f = h.short in omega (arith, e, f);
  }

-- what a rule leaves is held before, and prints the same
pub record Lesser (k after : Kind) : Type 0 where
  pub held : (v : Value) → HoldsKind after v → HoldsKind k v
  pub plain : (v : Value) → plain_text after v ≡ plain_text k v
  pub fits : (code : Coding) → FitsCode k code → FitsCode after code

module _ (test : ℕ → Bool) (set : Class) where
  pub letter_passed : (x : ℕ) → is_letter (passing test set) x ≡ true → (is_letter set x ≡ true) × (test x ≡ true)
  letter_passed x h =
      let p = and_parts (ltb x 256) (is_member (passing test set) x) h in
      let low : x < 256 = grind (arith, nat_tests, p.0) in
      let q = and_parts (is_member set x) (test x) (sym (has_members (λ b. is_member set b && test b) x low) ∙ p.1) in
      (let t = p.0 in let m = q.0 in rw (t, m) refl, q.1)

  pub letters_passed : (text : List ℕ) → AllIn (passing test set) text → AllIn set text
  letters_passed text h = All-weaker (λ x. is_letter (passing test set) x ≡ true) (λ x. is_letter set x ≡ true) (λ x e. (letter_passed x e).0) text h

pub some_same : {A : Type 0} (a b : A) → Some a ≡ Some b → a ≡ b
some_same a b e = cc

pub none_some : {A : Type 0} (a : A) → None ≡ Some a → ⊥
none_some a e = cc

lesser_letters : (test : ℕ → Bool) (set : Class) (v : Value) (P : List ℕ → Type 0) (Q : List ℕ → Type 0) → ((text : List ℕ) → P text → Q text) → IsText P v → IsText Q v
lesser_letters test set (value.Text text) P Q more h = more text h
lesser_letters test set v P Q more h = absurd h

query_passed : (test : ℕ → Bool) (set : Class) (text : List ℕ) → IsQuery (passing test set) text → IsQuery set text
query_passed test set [] h = tt
query_passed test set (mark ∷ text) h = (h.0, letters_passed test set text h.1)

upper_passed : (n : ℕ) (max most : Option ℕ) → IfSome (upper_bounded (lesser max most)) (λ top. n ≤ top) → IfSome max (λ top. n ≤ top)
upper_passed n None most h = tt
upper_passed n (Some m) None h = omega (arith, h)
upper_passed n (Some m) (Some o) h = omega (arith, h)

lower_passed : (n min least : ℕ) → min ≤ most_length → bounded (max min least) ≤ n → min ≤ n
lower_passed n min least fits h = omega (arith, fits, h)

range_passed : (lo hi a b : ℤ) (v : Value) → HoldsNumber (int_max lo a) (int_min hi b) v → HoldsNumber lo hi v
range_passed lo hi a b (value.Num n) h = (low lo a n h.0, high hi b n h.1)
  where
    low : (lo a n : ℤ) → int_max lo a ≤ℤ n → lo ≤ℤ n
    low lo a n h = grind (arith, ints, h)

    high : (hi b n : ℤ) → n ≤ℤ int_min hi b → n ≤ℤ hi
    high hi b n h = grind (arith, ints, h)
range_passed lo hi a b v h = absurd h

pub rule_lesser : (rule : Rule) (k after : Kind) → narrowed_kind rule k ≡ Some after → Lesser k after
rule_lesser (letters test) (kind.Text d) after e = subst (Lesser (kind.Text d)) (some_same (kind.Text (met_letters test d)) after e) (record {
  held = λ v. lesser_letters test d.class v (IsSized (passing test d.class) d.min d.max) (IsSized d.class d.min d.max) (λ text h. (letters_passed test d.class text h.0, h.1, h.2));
  plain = λ v. refl;
  fits = λ code h. h;
})
rule_lesser (letters test) (kind.Query d) after e = subst (Lesser (kind.Query d)) (some_same (kind.Query (record { class = passing test d.class })) after e) (record {
  held = λ v. lesser_letters test d.class v (IsQuery (passing test d.class)) (IsQuery d.class) (query_passed test d.class);
  plain = λ v. refl;
  fits = λ code h. h;
})
rule_lesser (lengths least most) (kind.Text d) after e = subst (Lesser (kind.Text d)) (some_same (kind.Text (met_lengths least most d)) after e) (record {
  held = λ v. lesser_letters (λ x. true) d.class v (IsSized d.class (bounded (max d.min least)) (upper_bounded (lesser d.max most))) (IsSized d.class d.min d.max) (λ text h. (h.0, lower_passed (length text) d.min least d.min_bounded h.1, upper_passed (length text) d.max most h.2));
  plain = λ v. refl;
  fits = λ code h. h;
})
rule_lesser (range a b) (kind.Num d) after e = subst (Lesser (kind.Num d)) (some_same (kind.Num (met_numbers a b d)) after e) (record { held = range_passed d.lo d.hi a b; plain = λ v. refl; fits = λ code h. h })
rule_lesser (range a b) (kind.DashZero d) after e = subst (Lesser (kind.DashZero d)) (some_same (kind.DashZero (met_dashed a b d)) after e) (record { held = range_passed d.lo d.hi a b; plain = λ v. refl; fits = λ code h. h })
rule_lesser (range a b) (kind.Fixed3 d) after e = subst (Lesser (kind.Fixed3 d)) (some_same (kind.Fixed3 (met_thousandths a b d)) after e) (record { held = range_passed d.lo d.hi a b; plain = λ v. refl; fits = λ code h. h })
rule_lesser (range a b) (kind.Padded d) after e = subst (Lesser (kind.Padded d)) (some_same (kind.Padded (met_padded a b d)) after e) (record { held = range_passed d.lo d.hi a b; plain = λ v. refl; fits = λ code h. h })
rule_lesser rule k after e = absurd (none_some after e)

by_kind : (slot : OneSlot) (o : Option Kind) (after : OneSlot) → ((k : Kind) → o ≡ Some k → Lesser slot.kind k) → with_kind slot o ≡ Some after → Follows slot after
by_kind slot None after lesser_is e = absurd (none_some after e)
by_kind slot (Some k) after lesser_is e =
    let l = lesser_is k refl in
    let made : OneSlot = record slot { kind = k } in
    subst (Follows slot) (some_same made after e) (record {
      fits = l.fits slot.code;
      takes = λ h v hv. subst (λ (text : List ℕ). All (λ letter. coding_takes slot.code letter ≡ true) text) (sym (l.plain v)) (h v (l.held v hv));
    })

pub rule_follows : (rule : Rule) (slot after : OneSlot) → narrowed_slot rule slot ≡ Some after → Follows slot after
rule_follows present slot after e =
    let made : OneSlot = record slot { present = true } in
    subst (Follows slot) (some_same made after e) (record { fits = λ h. h; takes = λ h. h })
rule_follows (letters test) slot after e = by_kind slot (narrowed_kind (letters test) slot.kind) after (rule_lesser (letters test) slot.kind) e
rule_follows (lengths least most) slot after e = by_kind slot (narrowed_kind (lengths least most) slot.kind) after (rule_lesser (lengths least most) slot.kind) e
rule_follows (range lo hi) slot after e = by_kind slot (narrowed_kind (range lo hi) slot.kind) after (rule_lesser (range lo hi) slot.kind) e
