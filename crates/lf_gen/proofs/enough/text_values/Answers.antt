use Rattle.std.proofs.Common.{◌≡◌, ℕ, List, [], ◌∷◌, ◌++◌, sym, subst, ap, ◌∙◌}
use Rattle.lf_core.specs.declared.values.Value.{Value}
use Rattle.lf_core.specs.declared.values.Value.TheVariants.{Text}
use Rattle.lf_format.specs.declared.kind.Kind.TheVariants as kind
use Rattle.lf_gen.specs.First.{AreFirst}
use Rattle.lf_gen.specs.Letters.{repeated}
use Rattle.lf_gen.proofs.TextOrder.{text-first}
use Rattle.lf_gen.proofs.enough.text_values.Goals as goal

pushed : (u v w x : List Value) (a b c d : Value) → u ≡ a ∷ [] → v ≡ u ++ b ∷ [] → w ≡ v ++ c ∷ [] → x ≡ w ++ d ∷ [] → x ≡ a ∷ b ∷ c ∷ d ∷ []
pushed u v w x a b c d e f g h =
    h ∙ ap (λ (t : List Value). t ++ d ∷ []) (g ∙ ap (λ (t : List Value). t ++ c ∷ []) (f ∙ ap (λ (t : List Value). t ++ b ∷ []) e))

four : (a b c d a' b' c' d' : Value) → a ≡ a' → b ≡ b' → c ≡ c' → d ≡ d' → (a ∷ b ∷ c ∷ d ∷ []) ≡ (a' ∷ b' ∷ c' ∷ d' ∷ [])
four a b c d a' b' c' d' p q r s = λ i. p i ∷ q i ∷ r i ∷ s i ∷ []

pub returns : goal.returns
returns c =
    let set = c.args.set in
    let least = c.least_letter-least.result in
    let other = c.least_letter-other.result in
    let one = c.in_ok-repeated.ensures ∙ ap (λ (n : ℕ). Text (repeated other n)) c.max.ensures in
    let two = c.in_ok-repeated-2.ensures ∙ ap (λ (n : ℕ). Text (repeated least n)) c.max-2.ensures in
    let three = c.in_ok-repeated-3.ensures ∙ ap (λ (n : ℕ). Text (repeated least n)) c.max-3.ensures in
    let all = pushed _ _ _ _ _ _ _ _ c.in_ok-values.ensures c.in_ok-push.ensures.items c.in_ok-push-2.ensures.items c.in_ok-push-3.ensures.items in
    subst (AreFirst (kind.Text set) c.args.code) (sym (all ∙ four _ _ _ _ _ _ _ _ (ap Text c.new.ensures) one two three))
    (text-first c.args.code set c.requires c.without.result c.without.ensures least other c.least_letter-least.ensures c.least_letter-other.ensures)
