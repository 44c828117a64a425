-- A part that is an assignment or none, as the scan of it says.
use Rattle.std.proofs.Common.{◌≡◌, ℕ, inl, inr, List, sym, subst}
use Rattle.std.specs.Prelude.{None, Some, Result, Ok, Err, OnOk, IfErr}
use Rattle.lf_limits.specs.Limits.{most_nesting}
use Rattle.lf_syntax.specs.Grammar.{Grammar, NestedSentence}
use Rattle.lf_syntax.specs.Places.{FaultPlace}
use Rattle.lf_syntax.specs.Cause.{IsCause}
use Rattle.lf_syntax.specs.declared.scan.ScanFault.{ScanFault}
use Rattle.lf_syntax.specs.declared.scan.ScanFault.TheVariants as scan
use Rattle.lf_format.specs.declared.slot.Slot.{Slot as OneSlot}
use Rattle.lf_map.specs.declared.fault.MapFault.{MapFault}
use Rattle.lf_map.specs.declared.fault.MapFault.TheVariants.{Syntax, NoSlot, Twice, Untyped, Unfilled, OutOfMemory}
use Rattle.lf_map.specs.Map.{call, assign, IsAssign}
use Rattle.lf_map.specs.Filling.{Form, IsSo, IsPlace, IsPartFault, IsFine, part_fault}

pub cause_at : (L : List ℕ → Type 0) (w : List ℕ) (fault : ScanFault) (p : ℕ) → fault ≡ scan.Syntax p → IsCause L w fault → FaultPlace L w p
cause_at L w fault p e h = subst (λ (f : ScanFault). IsCause L w f) e h

module _ (rule one : Grammar) (r : rule ≡ call) (o : one ≡ assign) (w : List ℕ) where
  pub as_assign : NestedSentence rule most_nesting one w → IsAssign w
  as_assign h =
      subst (λ (g : Grammar). NestedSentence call most_nesting g w) o (subst (λ (g : Grammar). NestedSentence g most_nesting one w) r h)

  pub no_assign : (p : ℕ) → FaultPlace (NestedSentence rule most_nesting one) w p → IsAssign w → ⊥
  no_assign p f h =
      f.fault (subst (λ (g : Grammar). NestedSentence g most_nesting one w) (sym r) (subst (λ (g : Grammar). NestedSentence call most_nesting g w) (sym o) h))

module _ (source target : List OneSlot) (text part : List ℕ) (form : Form) where
  pub place_fault : (f : MapFault) → (IsAssign part → ⊥) → IsPlace text f → IsPartFault source target text part form f
  place_fault (Syntax p) n h = inl (n, h)
  place_fault OutOfMemory n h = tt
  place_fault f n h = absurd h

  given_fault : (f : MapFault) → IsAssign part → IsSo (λ one. part_fault source target part form ≡ Some one) f → IsPartFault source target text part form f
  given_fault (Syntax p) a h = inr (a, h)
  given_fault (NoSlot n) a h = inr (a, h)
  given_fault (Twice n) a h = inr (a, h)
  given_fault (Untyped n) a h = inr (a, h)
  given_fault (Unfilled n) a h = inr (a, h)
  given_fault OutOfMemory a h = tt

  pub faults : (r : Result (Unit {0}) MapFault) → IsAssign part → IfErr r (λ f. IsSo (λ one. part_fault source target part form ≡ Some one) f) → IfErr r (IsPartFault source target text part form)
  faults (Ok x) a h = tt
  faults (Err f) a h = given_fault f a h

  pub fine : (r : Result (Unit {0}) MapFault) → IsAssign part → OnOk r (part_fault source target part form ≡ None) → OnOk r (IsFine source target part form)
  fine (Ok x) a h = record { assign = a; fine = h }
  fine (Err f) a h = tt

pub so_of : (P : MapFault → Type 0) (f : MapFault) → P f → IsSo P f
so_of P OutOfMemory h = tt
so_of P (Syntax n) h = h
so_of P (NoSlot n) h = h
so_of P (Twice n) h = h
so_of P (Untyped n) h = h
so_of P (Unfilled n) h = h
