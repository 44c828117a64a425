use Rattle.std.specs.Prelude.{◌↔◌}
use Rattle.std.proofs.Common.{◌≡◌, ◌≢◌, ℕ, ◌≤◌, length, List, [], ◌∷◌, false, sym, ◌∙◌, subst, Bool, inl, inr}
use Rattle.std.proofs.lemmas.Bool.{false≢true}
use Rattle.lf_format.specs.declared.slot.Absent.{Absent}
use Rattle.lf_format.specs.declared.slot.Absent.TheVariants.{Dash}
use Rattle.lf_format.specs.Slots.{IsNotAbsence}
use Rattle.lf_format.proofs.SomeTexts.{other-text, long-text, either-text}
use Rattle.lf_format.proofs.some.has_present_text.Goals as goal

bare-is : (a : Absent) (quoted : Bool) (text : List ℕ) → a ≡ Dash → quoted ≡ false → IsNotAbsence a quoted text ↔ (text ≢ 45 ∷ [])
bare-is a quoted text is f = (
  (λ p. subst (λ (q : Bool). IsNotAbsence Dash q text) f (subst (λ (x : Absent). IsNotAbsence x quoted text) is p)),
  (λ p. subst (λ (x : Absent). IsNotAbsence x quoted text) (sym is) (subst (λ (q : Bool). IsNotAbsence Dash q text) (sym f) p)),
)

pub returns-then-has_text : goal.returns-then-has_text
returns-then-has_text c =
    let set = c.args.set in (
      (λ t.
          let found = c.has_text-in-Dash.ensures.0 t in
          let good = other-text c.without.result set.class set.min set.max found.0 c.without.ensures found.1 in
          (found.0, good.0, (bare-is c.args.absent c.args.quoted found.0 c.in-Dash.is c.if-quoted.false).1 good.1)),
      (λ _. c.if-has_text.true),
    )

pub returns-else-has_text : goal.returns-else-has_text
returns-else-has_text c =
    let set = c.args.set in
    let e = c.max-else-has_text.ensures in (
      (λ t.
          let found = c.has_text-else-has_text.ensures.0 t in
          let good = long-text set.class set.min set.max found.0 (found.1.0, subst (λ (n : ℕ). n ≤ length found.0) e found.1.1, found.1.2) in
          (found.0, good.0, (bare-is c.args.absent c.args.quoted found.0 c.in-Dash.is c.if-quoted.false).1 good.1)),
      (λ h.
          let d = (bare-is c.args.absent c.args.quoted h.0 c.in-Dash.is c.if-quoted.false).0 h.2 in
          elim (either-text c.without.result set.class set.min set.max h.0 c.without.ensures h.1 d) [
            | inl other ↦ absurd (false≢true (sym c.if-has_text.false ∙ c.has_text-in-Dash.ensures.1 (h.0, other)))
            | inr long ↦ c.has_text-else-has_text.ensures.1 (h.0, (long.0, subst (λ (n : ℕ). n ≤ length h.0) (sym e) long.1, long.2))
          ]),
    )
