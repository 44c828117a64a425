-- The least shared line, by the least word from the start.
use Rattle.std.proofs.Common.{◌≡◌, ℕ, zero, suc, ◌<◌, List, [], ◌∷◌, length, false, refl, sym, subst, arith}
use Rattle.std.specs.Prelude.{Option, Some, None, unwrap_or}
use Rattle.std.specs.List.{Contains}
use Rattle.lf_core.specs.Marked.{Machine}
use Rattle.lf_product.specs.declared.pair.Pair.{Pair}
use Rattle.lf_product.specs.Distance.{Suffices, IsDistance, IsAmbiguous}
use Rattle.lf_product.specs.Walk.{SharesAt, SharesFrom, IsLeast, IsLevel, IsLeastWord}
use Rattle.lf_product.proofs.RunPairs.{shared_from_shares, shares_from_shared, steps_from_ambiguous}
use Rattle.lf_witness.specs.Shared.{IsLeastShared}

-- both runs begin at the start
abbrev pub at_start : Machine → Pair
at_start m = record { left = m.first; right = m.first; differed = false }

only_one : (x y : Pair) → Contains (x ∷ []) y → x ≡ y
only_one x y (zero, lt, is) = is
only_one x y (suc k, lt, is) = absurd (omega (arith, lt))

is_one : (x : Pair) → Contains (x ∷ []) x
is_one x = (0, omega arith, refl)

pub start_is_least : (m : Machine) (r : Option ℕ) → IsAmbiguous m → IsDistance m m.first m.first false r → IsLeast m (unwrap_or r 0) (at_start m)
start_is_least m (Some n) a h = h
start_is_least m None a h = let s = steps_from_ambiguous m a in absurd (h s.0 s.1)

pub start_level : (m : Machine) (k : ℕ) → m.first < m.count → IsLeast m k (at_start m) → IsLevel m k (at_start m ∷ [])
start_level m k low least = record {
  some = omega arith;
  below = record {
    left = λ p h. subst (λ (q : Pair). q.left < m.count) (only_one (at_start m) p h) low;
    right = λ p h. subst (λ (q : Pair). q.right < m.count) (only_one (at_start m) p h) low;
  };
  each_least = λ p h. subst (λ (q : Pair). IsLeast m k q) (only_one (at_start m) p h) least;
}

from_start : (m : Machine) (cs : List ℕ) → SharesFrom m (at_start m ∷ []) cs → SharesAt m cs (at_start m)
from_start m cs (p, h, s) = subst (λ (q : Pair). SharesAt m cs q) (sym (only_one (at_start m) p h)) s

pub least_shared_is : (m : Machine) (line : List ℕ) → IsLeastWord m (at_start m ∷ []) line → IsLeastShared m line
least_shared_is m line h = record {
  shared = shared_from_shares m line (from_start m line h.shared);
  least = λ other s. h.least other (at_start m, is_one (at_start m), shares_from_shared m other s);
}
