use Rattle.std.proofs.Common.{◌+◌, length, sym, ap, refl, ◌∙◌, arith}
use Rattle.std.proofs.lemmas.Bool.{eqb-true}
use Rattle.std.proofs.lemmas.List.{nil_from_length}
use Rattle.lf_spelling.specs.declared.item_reader.Given.TheVariants.{Nothing}
use Rattle.haproxy_front.proofs.Cuts.{no_name, unknown, gives_change, gives_value, some_bytes, name_fits}
use Rattle.haproxy_front.proofs.flags.Flags.named.Goals as goal

pub overflow_add-len : goal.overflow_add-len
overflow_add-len c = omega (arith, name_fits c.args.text.now c.name_at-name.result.now c.name_at-name.ensures)

pub returns-then-is_empty : goal.returns-then-is_empty
returns-then-is_empty c = λ front is. no_name c.args.self.now c.args.own front c.args.text.now c.name_at-name.result.now c.name_at-name.ensures (nil_from_length _ (eqb-true _ _ (sym c.is_empty.ensures ∙ c.if-is_empty.true)))

pub returns-then-eq : goal.returns-then-eq
returns-then-eq c = λ front is.
    gives_change c.args.self.now c.args.own front c.args.text.now c.name_at-name.result.now (record { given = Nothing; len = c.args.before + length c.name_at-name.result.now }) c.name_at-name.ensures
    (some_bytes c.name_at-name.result.now (sym c.is_empty.ensures ∙ c.if-is_empty.false)) (sym c.eq.ensures ∙ c.if-eq.true) (ap (λ n. n + length c.name_at-name.result.now) is) refl

pub returns-in_default : goal.returns-in_default
returns-in_default c = λ front is.
    unknown c.args.self.now c.args.own front c.args.text.now c.name_at-name.result.now c.name_at-name.ensures (some_bytes c.name_at-name.result.now (sym c.is_empty.ensures ∙ c.if-is_empty.false)) (sym c.eq.ensures ∙ c.if-eq.false) (sym c.in_default.is ∙ c.find_row.ensures)

pub returns : goal.returns
returns c = λ front is.
    gives_value c.args.self.now c.args.own front c.args.text.now c.name_at-name.result.now c.in-Some.row (record { given = c.in_ok-given.given; len = c.args.before + length c.name_at-name.result.now }) c.name_at-name.ensures
    (some_bytes c.name_at-name.result.now (sym c.is_empty.ensures ∙ c.if-is_empty.false)) (sym c.eq.ensures ∙ c.if-eq.false) (sym c.in-Some.is ∙ c.find_row.ensures) (ap (λ n. n + length c.name_at-name.result.now) is) c.in_ok-given.ensures
