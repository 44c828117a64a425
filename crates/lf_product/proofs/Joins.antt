-- Lists of departures, one changed or one more.
use Rattle.std.proofs.Common.{◌≡◌, ℕ, ◌<◌, ◌⊎◌, inl, inr, List, [], ◌∷◌, ◌++◌, length, get_or, set, sym, ap, ◌∙◌, subst, arith, length-set, get_or-set_same, get_or-set_other}
use Rattle.std.specs.List.{Contains}
use Rattle.std.proofs.lemmas.Bool.{cases_eq}
use Rattle.std.proofs.lemmas.List.{get_or_default}
use Rattle.std.proofs.lemmas.List.Elements.{Contains-push}
use Rattle.lf_core.specs.declared.marked.Move.{Move}
use Rattle.lf_product.specs.ByteSet.{HasByte}
use Rattle.lf_product.specs.declared.arrivals.Departure.{Departure}
use Rattle.lf_product.specs.Arcs.{Departs}

pub contains_set_new : {X : Type 0} (xs : List X) (i : ℕ) (v : X) → i < length xs → Contains (set xs i v) v
contains_set_new xs i v lt = (i, omega (arith, length-set xs i v, lt), get_or-set_same xs i v v lt)

pub contains_set_old : {X : Type 0} (xs : List X) (i : ℕ) (v d x : X) → Contains xs x → Contains (set xs i v) x ⊎ (get_or xs i d ≡ x)
contains_set_old xs i v d x (k, lt, is) =
    elim (cases_eq k i) [
      | inl e ↦ inr (ap (λ (j : ℕ). get_or xs j d) (sym e) ∙ get_or_default xs k d x lt ∙ is)
      | inr ne ↦ inl (k, omega (arith, length-set xs i v, lt), get_or-set_other xs i k v x ne ∙ is)
    ]

-- a departure that gets a byte keeps all others
pub departs_set_kept : (ds : List Departure) (i : ℕ) (d e : Departure) (x : Move) (b : ℕ) → i < length ds → get_or ds i d ≡ d → e.mark ≡ d.mark → e.to ≡ d.to → ((c : ℕ) → HasByte d.bytes c → HasByte e.bytes c) → Departs ds x b → Departs (set ds i e) x b
departs_set_kept ds i d e x b lt is mark to more h =
    elim (contains_set_old ds i e d h.by h.listed) [
      | inl k ↦ record { by = h.by; listed = k; mark_is = h.mark_is; to_is = h.to_is; on = h.on }
      | inr same ↦
          let q : d ≡ h.by = sym is ∙ same in
          record {
            by = e;
            listed = contains_set_new ds i e lt;
            mark_is = mark ∙ ap (λ (y : Departure). y.mark) q ∙ h.mark_is;
            to_is = to ∙ ap (λ (y : Departure). y.to) q ∙ h.to_is;
            on = more b (subst (λ (y : Departure). HasByte y.bytes b) (sym q) h.on);
          }
    ]

pub departs_set_new : (ds : List Departure) (i : ℕ) (e : Departure) (x : Move) (b : ℕ) → i < length ds → e.mark ≡ x.mark → e.to ≡ x.to → HasByte e.bytes b → Departs (set ds i e) x b
departs_set_new ds i e x b lt mark to on = record { by = e; listed = contains_set_new ds i e lt; mark_is = mark; to_is = to; on = on }

pub departs_push : (ds : List Departure) (e : Departure) (x : Move) (b : ℕ) → e.mark ≡ x.mark → e.to ≡ x.to → HasByte e.bytes b → Departs (ds ++ e ∷ []) x b
departs_push ds e x b mark to on = record { by = e; listed = Contains-push ds e; mark_is = mark; to_is = to; on = on }
