use Rattle.std.proofs.Common.{◌∷◌, [], ◌++◌, Some, subst, sym, ap, ◌∙◌}
use Rattle.lf_core.specs.declared.values.Value.{Value}
use Rattle.lf_gen.specs.Compared.{Key, key_of, key_cmp, IsLeastOf}
use Rattle.lf_gen.proofs.Choosing.{first-value, take-value, keep-value}
use Rattle.lf_gen.proofs.least.lesser.Goals as goal

pub returns-in_default : goal.returns-in_default
returns-in_default c = λ values h.
    let slot = c.args.slot.now in
    let value = c.args.value.now in
    subst (λ (v : Value). IsLeastOf slot (values ++ value ∷ []) (Some v)) (sym c.in_ok-copy.ensures)
    (first-value slot value values (c.holds.ensures.0 c.if-not-holds.false) (subst (IsLeastOf slot values) c.in_default.is h))

pub returns-in_ok-copy-in-Less : goal.returns-in_ok-copy-in-Less
returns-in_ok-copy-in-Less c = λ values h.
    let slot = c.args.slot.now in
    let value = c.args.value.now in
    let keys = ap (λ (k : Key). key_cmp k c.in_ok-of.field-0) c.in_ok-key.ensures ∙ ap (key_cmp (key_of slot value)) c.in_ok-of.ensures in
    subst (λ (v : Value). IsLeastOf slot (values ++ value ∷ []) (Some v)) (sym c.in_ok-copy-in-Less.ensures)
    (take-value slot value values c.in-Some.other (c.holds.ensures.0 c.if-not-holds.false) (sym keys ∙ sym c.compare-2.ensures ∙ c.in-Less.is) (subst (IsLeastOf slot values) c.in-Some.is h))

pub returns-in_default-compare : goal.returns-in_default-compare
returns-in_default-compare c = λ values h.
    let slot = c.args.slot.now in
    let value = c.args.value.now in
    let keys = ap (λ (k : Key). key_cmp k c.in_ok-of.field-0) c.in_ok-key.ensures ∙ ap (key_cmp (key_of slot value)) c.in_ok-of.ensures in
    keep-value slot value values c.in-Some.other (λ e. c.in_default-compare.not-Less (c.compare-2.ensures ∙ keys ∙ e)) (subst (IsLeastOf slot values) c.in-Some.is h)
