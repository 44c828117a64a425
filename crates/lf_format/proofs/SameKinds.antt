-- Kinds with equal bounds are equal: it doesn't matter how a bound was proved.
use Rattle.std.proofs.Common.{◌≡◌, ℕ, ◌≤◌, ap, subst, ◌∙◌}
use Rattle.std.specs.Prelude.{ℤ, pos, ◌≤ℤ◌, Option, None, Some}
use Rattle.std.specs.Option.{ForSome}
use Rattle.std.proofs.Math.Bridge.{le_prop}
use Rattle.std.proofs.Math.Dec.{T_prop}
use Rattle.lf_limits.specs.Limits.{most_length}
use Rattle.lf_core.specs.declared.class.Class.{Class}
use Rattle.lf_format.specs.declared.kind.Kind.{Kind}
use Rattle.lf_number.specs.declared.padded.Radix.{Radix}
use Rattle.lf_format.specs.declared.kind.Kind.TheVariants.{Text}
use Rattle.lf_format.specs.CommonKinds.{none_fits, some_fits, texts, bounded_texts, dashed, fixed3, padded}

fits_prop : (max : Option ℕ) → IsProp (ForSome {T = ℕ} max (λ most. most ≤ most_length))
fits_prop max = hlevel le_prop

not_negative_prop : (lo : ℤ) → IsProp (pos 0 ≤ℤ lo)
not_negative_prop lo = hlevel T_prop

pub texts-same : (set : Class) (min : ℕ) (p q : min ≤ most_length) (open_above : ForSome {T = ℕ} None (λ most. most ≤ most_length)) → Text (record { class = set; min = min; max = None; min_bounded = p; max_bounded = open_above }) ≡ texts set min q
texts-same set min p q open_above =
    ap (λ (p : min ≤ most_length). Text (record { class = set; min = min; max = None; min_bounded = p; max_bounded = open_above })) (le_prop p q)
    ∙ ap (λ (r : ForSome {T = ℕ} None (λ most. most ≤ most_length)). Text (record { class = set; min = min; max = None; min_bounded = q; max_bounded = r })) (fits_prop None open_above none_fits)

pub bounded_texts-same : (set : Class) (min max : ℕ) (p q : min ≤ most_length) (r : ForSome {T = ℕ} (Some max) (λ most. most ≤ most_length)) (most : max ≤ most_length) → Text (record { class = set; min = min; max = Some max; min_bounded = p; max_bounded = r }) ≡ bounded_texts set min max q most
bounded_texts-same set min max p q r most =
    ap (λ (p : min ≤ most_length). Text (record { class = set; min = min; max = Some max; min_bounded = p; max_bounded = r })) (le_prop p q)
    ∙ ap (λ (r : ForSome {T = ℕ} (Some max) (λ most. most ≤ most_length)). Text (record { class = set; min = min; max = Some max; min_bounded = q; max_bounded = r })) (fits_prop (Some max) r (some_fits max most))

-- A kind of numbers that aren't negative is one, whatever proves the bound.
bounds-same : (kind_of : (lo hi : ℤ) → pos 0 ≤ℤ lo → Kind) (lo hi a b : ℤ) (p : pos 0 ≤ℤ lo) (q : pos 0 ≤ℤ a) → lo ≡ a → hi ≡ b → kind_of lo hi p ≡ kind_of a b q
bounds-same kind_of lo hi a b p q e f =
    let P : ℤ → Type 0 = λ a. (q : pos 0 ≤ℤ a) → kind_of lo hi p ≡ kind_of a hi q in
    let low = subst P e (λ q. ap (kind_of lo hi) (not_negative_prop lo p q)) in
    low q ∙ ap (λ (hi : ℤ). kind_of a hi q) f

pub dashed-same : (lo hi a b : ℤ) (p : pos 0 ≤ℤ lo) (q : pos 0 ≤ℤ a) → lo ≡ a → hi ≡ b → dashed lo hi p ≡ dashed a b q
dashed-same lo hi a b p q e f = bounds-same (λ lo hi p. dashed lo hi p) lo hi a b p q e f

pub fixed3-same : (lo hi a b : ℤ) (p : pos 0 ≤ℤ lo) (q : pos 0 ≤ℤ a) → lo ≡ a → hi ≡ b → fixed3 lo hi p ≡ fixed3 a b q
fixed3-same lo hi a b p q e f = bounds-same (λ lo hi p. fixed3 lo hi p) lo hi a b p q e f

pub padded-same : (radix : Radix) (width : ℕ) (lo hi a b : ℤ) (p : pos 0 ≤ℤ lo) (q : pos 0 ≤ℤ a) → lo ≡ a → hi ≡ b → padded radix width lo hi p ≡ padded radix width a b q
padded-same radix width lo hi a b p q e f = bounds-same (λ lo hi p. padded radix width lo hi p) lo hi a b p q e f
