use Rattle.std.proofs.Common.{◌<◌, not, sym, ◌∙◌, ap, arith, inl, inr}
use Rattle.std.proofs.lemmas.Bool.{cases_Bool, false≢true}
use Rattle.lf_format.proofs.SomeTexts.{text-exists, text-none}
use Rattle.lf_format.proofs.some.has_text.Goals as goal

pub returns-else-min-eq0 : goal.returns-else-min-eq0
returns-else-min-eq0 c =
    let fits = c.is_within.ensures.0 c.if-not-is_within.false in
    let some : 0 < c.args.min = omega (arith, c.if-min-eq0.false) in (
      (λ t. text-exists c.args.class c.args.min c.args.max fits (λ none. false≢true (sym (ap not (c.is_empty.ensures.1 none)) ∙ t))),
      (λ h. elim (cases_Bool c.is_empty.result) [
        | inl e ↦ absurd (text-none c.args.class c.args.min c.args.max h.0 some (c.is_empty.ensures.0 e) h.1)
        | inr e ↦ ap not e
      ]),
    )
