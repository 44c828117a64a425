use Rattle.std.proofs.Common.{◌∙◌, sym, rules}
use Rattle.std.specs.Prelude.{FitsSigned}
use Rattle.std.specs.Int.{w64}
use Rattle.std.proofs.lemmas.Bool.{false≢true}
use Rattle.lf_format.specs.PlainTextLaws.{dash-tells, no-dash}
use Rattle.lf_format.proofs.absence.is_dash.Goals as goal

pub returns-then-prints_dash : goal.returns-then-prints_dash
returns-then-prints_dash c =
    let fits : FitsSigned w64 c.args.number = search rules in
    dash-tells c.args.kind.now c.args.number fits c.requires (sym c.prints_dash.ensures ∙ c.if-prints_dash.true)

pub returns-else-prints_dash : goal.returns-else-prints_dash
returns-else-prints_dash c =
    let miss = no-dash c.args.kind.now c.args.number c.requires (sym c.prints_dash.ensures ∙ c.if-prints_dash.false) in
    ((λ t. absurd (false≢true (sym c.if-prints_dash.false ∙ t))), (λ e. absurd (miss e)))
