-- The expressions of a map have their slots' kinds, and a map is the one answer of its text.
use Rattle.std.proofs.Common.{◌≡◌, ℕ, zero, suc, ◌+◌, ◌-◌, inl, inr, Bool, true, false, cond, List, [], ◌∷◌, length, refl, sym, ap, subst, ◌∙◌, arith}
use Rattle.std.specs.Prelude.{Option, None, Some, Ok, Err, slice_get}
use Rattle.lf_format.specs.declared.slot.Slot.{Slot as OneSlot}
use Rattle.lf_format.specs.Kinds.{value_kind}
use Rattle.lf_format.specs.Keeps.{slots_in}
use Rattle.lf_format.specs.Shape.{Shape}
use Rattle.lf_expression.specs.Exprs.{Expr, exprs_said}
use Rattle.lf_expression.specs.Kinds.{has_kind}
use Rattle.lf_expression.specs.Values.{nth}
use Rattle.lf_map.specs.declared.fault.MapFault.{MapFault}
use Rattle.lf_map.specs.declared.fault.MapFault.TheVariants.{Syntax, NoSlot, Twice, Untyped, Unfilled, OutOfMemory}
use Rattle.lf_map.specs.Assigns.{target_of, expr_of}
use Rattle.lf_map.specs.Letters.{parts_of}
use Rattle.lf_map.specs.Shape.{MapShape, AreKinded}
use Rattle.lf_map.specs.Filling.{Answer, Form, IsSo, IsMapOf, Gives, ParsesMap, blank, put, is_given, first_stray, kind_fault, given_fault, stray_fault, target_fault, form_after, first_blank, all_given, finished, Reads}
use Rattle.lf_map.proofs.Answered.{answer_one}

module _ (source : List OneSlot) where
  -- each expression that is given has its slot's kind
  abbrev AreGiven : List OneSlot → Form → Type 0
  AreGiven [] [] = Unit {0}
  AreGiven [] (one ∷ form) = ⊥
  AreGiven (slot ∷ slots) [] = ⊥
  AreGiven (slot ∷ slots) (None ∷ form) = AreGiven slots form
  AreGiven (slot ∷ slots) (Some e ∷ form) = (has_kind source (value_kind slot.kind) e ≡ true) × AreGiven slots form

  none_given : (slots : List OneSlot) → AreGiven slots (blank (length slots))
  none_given [] = tt
  none_given (slot ∷ slots) = none_given slots

  rest_given : (slot : OneSlot) (slots : List OneSlot) (one : Option Expr) (form : Form) → AreGiven (slot ∷ slots) (one ∷ form) → AreGiven slots form
  rest_given slot slots None form h = h
  rest_given slot slots (Some e) form h = h.1

  put_given : (slots : List OneSlot) (form : Form) (n : ℕ) (e : Expr) (s : OneSlot) → slice_get slots n ≡ Some s → has_kind source (value_kind s.kind) e ≡ true → AreGiven slots form → AreGiven slots (put n e form)
  put_given [] [] n e s q h a = tt
  put_given [] (one ∷ form) n e s q h a = absurd a
  put_given (slot ∷ slots) [] n e s q h a = absurd a
  put_given (slot ∷ slots) (one ∷ form) zero e s q h a =
      let same : slot ≡ s = cc in
      (subst (λ (x : OneSlot). has_kind source (value_kind x.kind) e ≡ true) (sym same) h, rest_given slot slots one form a)
  put_given (slot ∷ slots) (None ∷ form) (suc n) e s q h a = put_given slots form n e s q h a
  put_given (slot ∷ slots) (Some one ∷ form) (suc n) e s q h a = (a.0, put_given slots form n e s q h a.1)

  given_kinded : (slots : List OneSlot) (form : Form) (k : ℕ) → first_blank k form ≡ None → AreGiven slots form → AreKinded source slots (all_given form)
  given_kinded [] [] k e a = tt
  given_kinded [] (one ∷ form) k e a = absurd a
  given_kinded (slot ∷ slots) [] k e a = absurd a
  given_kinded (slot ∷ slots) (None ∷ form) k e a = absurd (cc)
  given_kinded (slot ∷ slots) (Some one ∷ form) k e a = (a.0, given_kinded slots form (k + 1) e a.1)

  module _ (target : List OneSlot) (form : Form) (k : ℕ) (e : Expr) where
    by_kind : (s : OneSlot) (t : Bool) → has_kind source (value_kind s.kind) e ≡ t → cond t None (Some (Untyped k)) ≡ None → has_kind source (value_kind s.kind) e ≡ true
    by_kind s true q h = q
    by_kind s false q h = absurd (cc)

    by_given : (s : OneSlot) (t : Bool) → cond t (Some (Twice k)) (kind_fault source k s e) ≡ None → has_kind source (value_kind s.kind) e ≡ true
    by_given s true h = absurd (cc)
    by_given s false h = by_kind s (has_kind source (value_kind s.kind) e) refl h

    by_stray : (s : OneSlot) (o : Option ℕ) → stray_fault o (given_fault source form k s e) ≡ None → has_kind source (value_kind s.kind) e ≡ true
    by_stray s None h = by_given s (is_given (nth k form)) h
    by_stray s (Some n) h = absurd (cc)

    put_fine : (o : Option OneSlot) → nth k target ≡ o → target_fault source form k o e ≡ None → AreGiven target form → AreGiven target (put (k - 1) e form)
    put_fine None q h a = absurd (cc)
    put_fine (Some s) q h a = put_given target form (k - 1) e s (at_index k q) (by_stray s (first_stray (length source) e) h) a
      where
        at_index : (k : ℕ) → nth k target ≡ Some s → slice_get target (k - 1) ≡ Some s
        at_index zero q = absurd (cc)
        at_index (suc n) q = let i : suc n - 1 ≡ n = omega arith in ap (λ (j : ℕ). slice_get target j) i ∙ q

  exprs_or : List Expr → Answer → List Expr
  exprs_or other (Ok es) = es
  exprs_or other (Err f) = other

  ended_kinded : (target : List OneSlot) (form : Form) (o : Option ℕ) (es : List Expr) → first_blank 1 form ≡ o → Ok es ≡ finished form o → AreGiven target form → AreKinded source target es
  unfolding exprs_or
  ended_kinded target form None es q e a =
      subst (λ (x : List Expr). AreKinded source target x) (sym (ap (λ (r : Answer). exprs_or [] r) e)) (given_kinded target form 1 q a)
  ended_kinded target form (Some k) es q e a = absurd (cc)

  reads_kinded : (target : List OneSlot) (text : List ℕ) (parts : List (List ℕ)) (form : Form) (es : List Expr) → Reads source target text parts form (Ok es) → AreGiven target form → AreKinded source target es
  reads_kinded target text [] form es h a = ended_kinded target form (first_blank 1 form) es refl h a
  reads_kinded target text (part ∷ parts) form es (inl h) a = let e = h.is in absurd (cc)
  reads_kinded target text (part ∷ parts) form es (inr (inl h)) a = let e = h.is in absurd (cc)
  reads_kinded target text (part ∷ parts) form es (inr (inr h)) a =
      reads_kinded target text parts (form_after part form) es h.1 (put_fine target form (target_of part) (expr_of part) (nth (target_of part) target) refl h.0.fine a)

pub parsed_kinded : (text : List ℕ) (source target : Shape) (es : List Expr) → ParsesMap text source target (Ok es) → AreKinded (slots_in source.pieces) (slots_in target.pieces) es
parsed_kinded text source target es h =
    reads_kinded (slots_in source.pieces) (slots_in target.pieces) text (parts_of text) (blank (length (slots_in target.pieces))) es h (none_given (slots_in source.pieces) (slots_in target.pieces))

module _ (text : List ℕ) (source target : Shape) where
  one_parse : (one other : Answer) → ParsesMap text source target one → ParsesMap text source target other → one ≡ other
  one_parse one other h e =
      answer_one (slots_in source.pieces) (slots_in target.pieces) text (parts_of text) (blank (length (slots_in target.pieces))) one other h e

  pub only_map : (map : MapShape) (answer : Answer) → IsMapOf text source target map → ParsesMap text source target answer → Gives answer (Ok map)
  only_map map answer m h = one_parse answer (Ok (exprs_said map.exprs)) h m.parses

  pub only_fault : (f : MapFault) (answer : Answer) → IsSo (λ one. ParsesMap text source target (Err one)) f → ParsesMap text source target answer → Gives answer (Err f)
  only_fault OutOfMemory answer s h = inr refl
  only_fault (Syntax n) answer s h = inl (one_parse answer (Err (Syntax n)) h s)
  only_fault (NoSlot n) answer s h = inl (one_parse answer (Err (NoSlot n)) h s)
  only_fault (Twice n) answer s h = inl (one_parse answer (Err (Twice n)) h s)
  only_fault (Untyped n) answer s h = inl (one_parse answer (Err (Untyped n)) h s)
  only_fault (Unfilled n) answer s h = inl (one_parse answer (Err (Unfilled n)) h s)

  pub from_blank : (start : Form) (n : ℕ) (answer : Answer) → start ≡ blank n → n ≡ length (slots_in target.pieces)
      → Reads (slots_in source.pieces) (slots_in target.pieces) text (parts_of text) start answer → ParsesMap text source target answer
  from_blank start n answer e l h =
      subst (λ (f : Form). Reads (slots_in source.pieces) (slots_in target.pieces) text (parts_of text) f answer) (e ∙ ap (λ (k : ℕ). blank k) l) h

  pub unfilled : (f : Form) (k : ℕ) → first_blank 1 f ≡ Some k → ParsesMap text source target (finished f (first_blank 1 f)) → ParsesMap text source target (Err (Unfilled k))
  unfilled f k e h = subst (λ (o : Option ℕ). ParsesMap text source target (finished f o)) e h

  pub all_filled : (f : Form) (es : List Expr) → first_blank 1 f ≡ None → es ≡ all_given f → ParsesMap text source target (finished f (first_blank 1 f)) → ParsesMap text source target (Ok es)
  all_filled f es e g h =
      subst (λ (x : List Expr). ParsesMap text source target (Ok x)) (sym g) (subst (λ (o : Option ℕ). ParsesMap text source target (finished f o)) e h)

  pub kept_of : (from to : Shape) (es : List Expr) → from ≡ source → to ≡ target → ParsesMap text source target (Ok es) → AreKinded (slots_in from.pieces) (slots_in to.pieces) es
  kept_of from to es a b h =
      subst (λ (s : Shape). AreKinded (slots_in s.pieces) (slots_in to.pieces) es) (sym a)
      (subst (λ (t : Shape). AreKinded (slots_in source.pieces) (slots_in t.pieces) es) (sym b) (parsed_kinded text source target es h))
