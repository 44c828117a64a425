-- A rule of the code that says what another says does the same.
use Rattle.std.proofs.Common.{◌≡◌, ℕ, ◌<◌, Bool, ◌&&◌, Option, Some, refl, ap, ◌∙◌}
use Rattle.std.proofs.Math.Path.{fun_ext}
use Rattle.std.specs.Prelude.{ℤ}
use Rattle.lf_core.specs.Class.{is_member}
use Rattle.lf_core.specs.declared.class.Class.{Class}
use Rattle.lf_format.specs.declared.kind.Kind.{Kind}
use Rattle.lf_format.specs.declared.kind.Kind.TheVariants as kind
use Rattle.lf_narrow.specs.declared.rules.Rule as code
use Rattle.lf_narrow.specs.declared.rules.Rule.TheVariants.{Letters, Lengths, Range, Present}
use Rattle.lf_narrow.specs.Terms.{Rule, letters, lengths, range, present}
use Rattle.lf_narrow.specs.Classes.{passing}
use Rattle.lf_narrow.specs.Effects.{narrowed_kind, with_kind, narrowed_slot}
use Rattle.lf_narrow.specs.Said.{rule_said, SaysRule}
use Rattle.lf_narrow.proofs.ClassBits.{class-same}

module _ (f g : ℕ → Bool) (h : (x : ℕ) → x < 256 → f x ≡ g x) where
  passing-same : (set : Class) → passing f set ≡ passing g set
  passing-same set = class-same (λ b. is_member set b && f b) (λ b. is_member set b && g b) (λ x l. ap (λ (t : Bool). is_member set x && t) (h x l))

  letters-same : (k : Kind) → narrowed_kind (letters f) k ≡ narrowed_kind (letters g) k
  letters-same (kind.Text d) = ap (λ (set : Class). Some (kind.Text (record { class = set; min = d.min; max = d.max; min_bounded = d.min_bounded; max_bounded = d.max_bounded }))) (passing-same d.class)
  letters-same (kind.Query d) = ap (λ (set : Class). Some (kind.Query (record { class = set }))) (passing-same d.class)
  letters-same k = refl

pub effect_same : (r : code.Rule) (rule : Rule) → SaysRule r rule → narrowed_slot (rule_said r) ≡ narrowed_slot rule
effect_same (Letters set) (letters test) h = fun_ext (λ slot. ap (with_kind slot) (letters-same (is_member set) test h slot.kind))
effect_same (Lengths least most) (lengths m n) h = ap (λ (a : ℕ). narrowed_slot (lengths a most)) h.0 ∙ ap (λ (b : Option ℕ). narrowed_slot (lengths m b)) h.1
effect_same (Range lo hi) (range a b) h = ap (λ (x : ℤ). narrowed_slot (range x hi)) h.0 ∙ ap (λ (y : ℤ). narrowed_slot (range a y)) h.1
effect_same Present present h = refl
effect_same r rule h = absurd h
