-- What is not above any held value is the least value.
use Rattle.std.proofs.Common.{◌≡◌, ◌≢◌, ℕ, ◌⊎◌, inl, inr, List, length, None, Some, false, Ordering, Less, Equal, Greater, nat_cmp, refl, sym, ap, subst, ◌∙◌}
use Rattle.std.specs.Ordering.{ordering_then, is_gt}
use Rattle.std.specs.Cmp.{IsTotalOrder}
use Rattle.std.proofs.lemmas.Cmp.{then_total, on_total, nat_list_cmp_total, nat_cmp_total, upto, tied_itself}
use Rattle.lf_core.specs.declared.values.Value.{Value}
use Rattle.lf_core.specs.declared.values.Value.TheVariants.{Missing}
use Rattle.lf_format.specs.HeldLaws.{IsPresent}
use Rattle.lf_format.specs.Kinds.{HoldsKind, plain_text, kind_laws}
use Rattle.lf_format.specs.Slots.{Holds, slot_text}
use Rattle.lf_format.specs.declared.slot.Slot.{Slot}
use Rattle.lf_gen.specs.First.{bytes_cmp}
use Rattle.lf_gen.specs.Compared.{line_cmp, rank, Key, key_of, key_cmp, IsNotAbove, IsLeastOf, AreEnough}
use Rattle.lf_gen.specs.Least.{IsLeastValue}
use Rattle.lf_machine.specs.RecordOrder.{order_text, IsValueLess}
use Rattle.lf_gen.proofs.Orders.{line-same}
use Rattle.lf_gen.proofs.Cases.{then-first, then-second, bytes-less, bytes-equal, line-not_above}

pub line_total : IsTotalOrder line_cmp
line_total = then_total (on_total length nat_cmp_total) nat_list_cmp_total

pub key_total : IsTotalOrder key_cmp
key_total =
    then_total (on_total (λ (k : Key). k.line) line_total)
    (then_total (on_total (λ (k : Key). k.order) nat_list_cmp_total) (on_total (λ (k : Key). k.rank) nat_cmp_total))

pub above-none : (slot : Slot) (v : Value) → IsNotAbove slot v v
above-none slot v = ap is_gt (tied_itself key_total (key_of slot v))

pub not_above-trans : (slot : Slot) (u v w : Value) → IsNotAbove slot u v → IsNotAbove slot v w → IsNotAbove slot u w
not_above-trans slot u v w h g = upto key_total (key_of slot u) (key_of slot v) (key_of slot w) h g

-- ---- of two values that print one line

-- The held value isn't missing, or it is.
missing_cases : (v : Value) → (v ≡ Missing) ⊎ IsPresent v
missing_cases Missing = inl refl
missing_cases v = inr tt

kind-held : (slot : Slot) (v : Value) → IsPresent v → Holds slot v → HoldsKind slot.kind v
kind-held slot Missing p h = absurd p
kind-held slot v p h = h.0

plain-order : (slot : Slot) (v : Value) → IsPresent v → order_text slot v ≡ plain_text slot.kind v
plain-order slot Missing p = absurd p
plain-order slot v p = refl

present-rank : (v : Value) → IsPresent v → rank v ≡ 1
present-rank Missing p = absurd p
present-rank v p = refl

present-not_missing : (v : Value) → IsPresent v → v ≢ Missing
present-not_missing v p e = absurd (subst IsPresent e p)

one-value : (slot : Slot) (v u : Value) → IsPresent v → IsPresent u → Holds slot v → Holds slot u → order_text slot v ≡ order_text slot u → v ≡ u
one-value slot v u p q h g e =
    (kind_laws slot.kind).distinct v u (kind-held slot v p h) (kind-held slot u q g) (sym (plain-order slot v p) ∙ e ∙ plain-order slot u q)

missing-above : (v u : Value) → IsPresent v → u ≡ Missing → is_gt (nat_cmp (rank v) (rank u)) ≡ false → ⊥
missing-above v u p e h =
    let bad : is_gt (nat_cmp 1 0) ≡ false = sym (ap (λ (n : ℕ). is_gt (nat_cmp n 0)) (present-rank v p)) ∙ ap (λ (w : Value). is_gt (nat_cmp (rank v) (rank w))) (sym e) ∙ h in cc

tied : (slot : Slot) (v u : Value) → Holds slot v → Holds slot u → order_text slot v ≡ order_text slot u → is_gt (nat_cmp (rank v) (rank u)) ≡ false → (v ≡ u) ⊎ IsValueLess slot v u
tied slot v u h g e ranks = elim (missing_cases v) [
  | inl missing ↦ elim (missing_cases u) [
    | inl other ↦ inl (missing ∙ sym other)
    | inr present ↦ inr (inr (e, missing, present-not_missing u present))
  ]
  | inr present ↦ elim (missing_cases u) [
    | inl missing ↦ absurd (missing-above v u present missing ranks)
    | inr other ↦ inl (one-value slot v u present other h g e)
  ]
]

by_bytes : (slot : Slot) (v u : Value) (o : Ordering) → bytes_cmp (order_text slot v) (order_text slot u) ≡ o → Holds slot v → Holds slot u →
    is_gt (ordering_then (bytes_cmp (order_text slot v) (order_text slot u)) (nat_cmp (rank v) (rank u))) ≡ false → (v ≡ u) ⊎ IsValueLess slot v u
by_bytes slot v u Less is h g more = inr (inl (bytes-less (order_text slot v) (order_text slot u) is))
by_bytes slot v u Equal is h g more =
    tied slot v u h g (bytes-equal (order_text slot v) (order_text slot u) is)
    (then-second (bytes_cmp (order_text slot v) (order_text slot u)) (nat_cmp (rank v) (rank u)) more is)
by_bytes slot v u Greater is h g more =
    absurd (let bad = sym (ap (λ (o : Ordering). is_gt (ordering_then o (nat_cmp (rank v) (rank u)))) is) ∙ more in cc)

-- The values that are enough hold the least of all.
pub least-of_all : (slot : Slot) (values : List Value) (v : Value) → AreEnough slot values → IsLeastOf slot values (Some v) → IsLeastValue slot v
least-of_all slot values v enough least =
    let below : (u : Value) → Holds slot u → IsNotAbove slot v u = λ u held.
    (let other = enough u held in
    not_above-trans slot v other.0 u (least.1 other.0 other.1 other.2) other.3) in
    record {
      held = least.0;
      text = λ u held.
          line-not_above (slot_text slot v) (slot_text slot u)
          (then-first (line_cmp (slot_text slot v) (slot_text slot u)) (ordering_then (bytes_cmp (order_text slot v) (order_text slot u)) (nat_cmp (rank v) (rank u))) (below u held));
      ties = λ u held same.
          by_bytes slot v u (bytes_cmp (order_text slot v) (order_text slot u)) refl least.0 held
          (then-second (line_cmp (slot_text slot v) (slot_text slot u)) (ordering_then (bytes_cmp (order_text slot v) (order_text slot u)) (nat_cmp (rank v) (rank u))) (below u held) (line-same (slot_text slot v) (slot_text slot u) (sym same)));
    }

-- Where some value is held, the least is there.
pub least-there : (slot : Slot) (values : List Value) → AreEnough slot values → (v : Value) → Holds slot v → IsLeastOf slot values None → ⊥
least-there slot values enough v held none = let other = enough v held in none other.0 other.1 other.2
