use Rattle.std.proofs.Common.{length, refl, sym, ap, ◌∙◌, ◌-◌}
use Rattle.std.specs.Prelude.{Option}
use Rattle.std.proofs.lemmas.Option.{slice_get_read, slice_get_past}
use Rattle.lf_expression.specs.Exprs.{Expr}
use Rattle.lf_map.specs.Filling.{is_given}
use Rattle.lf_map.proofs.Numbered.{form_nth, form_past}
use Rattle.lf_map.proofs.checking.is_given.Goals as goal

pub returns-in-None : goal.returns-in-None
returns-in-None c =
    sym (ap (λ (o : Option (Option Expr)). is_given o) (form_past c.args.form.now c.args.k c.if-k-eq0.false (slice_get_past c.args.form.now (c.args.k - 1) c.in-None.ensures.lookup.3)))

pub returns-in-Some : goal.returns-in-Some
returns-in-Some c =
    c.has_one.ensures ∙ sym (ap (λ (o : Option (Option Expr)). is_given o)
    (form_nth c.args.form.now c.args.k c.in-Some.one.now c.if-k-eq0.false
    (slice_get_read c.args.form.now (length c.args.form.now) (c.args.k - 1) c.in-Some.one.now refl c.in-Some.ensures.lookup.3.0 c.in-Some.ensures.lookup.1)))
