use Rattle.std.proofs.Common.{List, sym, ap, ◌∙◌}
use Rattle.std.specs.Prelude.{Option}
use Rattle.lf_expression.specs.declared.expr.Expr.{Expr}
use Rattle.lf_expression.specs.Exprs.{exprs_said}
use Rattle.lf_map.specs.Forms.{form_said}
use Rattle.lf_map.specs.Filling.{first_blank}
use Rattle.lf_map.proofs.Kept.{unfilled, all_filled, kept_of}
use Rattle.lf_map.proofs.parsing.parsed.Goals as goal

pub returns-in-Some-clause-faulty : goal.returns-in-Some-clause-faulty
returns-in-Some-clause-faulty c =
    unfilled c.args.text.now c.args.source.now c.args.target.now (form_said c.in_ok-form.form.items) c.in-Some.k
    (ap (λ (f : List (Option Expr)). first_blank 1 (form_said f)) (sym c.as_slice.ensures.value) ∙ sym c.first_blank.ensures ∙ c.in-Some.is) c.in_ok-form.ensures.read

pub invariant_of-result : goal.invariant_of-result
invariant_of-result c =
    kept_of c.args.text.now c.args.source.now c.args.target.now c.in_ok-from.from c.in_ok-to.to (exprs_said c.in_ok-exprs.exprs.items) c.in_ok-from.ensures c.in_ok-to.ensures
    (all_filled c.args.text.now c.args.source.now c.args.target.now (form_said c.in_ok-form.form.items) (exprs_said c.in_ok-exprs.exprs.items)
    (ap (λ (f : List (Option Expr)). first_blank 1 (form_said f)) (sym c.as_slice.ensures.value) ∙ sym c.first_blank.ensures ∙ c.in_default.is) c.in_ok-exprs.ensures c.in_ok-form.ensures.read)

pub returns-clause-parsed : goal.returns-clause-parsed
returns-clause-parsed c = record {
  source_is = c.in_ok-from.ensures;
  target_is = c.in_ok-to.ensures;
  parses =
      (all_filled c.args.text.now c.args.source.now c.args.target.now (form_said c.in_ok-form.form.items) (exprs_said c.in_ok-exprs.exprs.items)
      (ap (λ (f : List (Option Expr)). first_blank 1 (form_said f)) (sym c.as_slice.ensures.value) ∙ sym c.first_blank.ensures ∙ c.in_default.is) c.in_ok-exprs.ensures c.in_ok-form.ensures.read);
}
