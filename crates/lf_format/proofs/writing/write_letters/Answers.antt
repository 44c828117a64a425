use Rattle.std.proofs.Common.{◌++◌, List, ℕ, sym, ap, ◌∙◌}
use Rattle.lf_format.proofs.Adding.{ok-as}
use Rattle.lf_format.proofs.Coded.{raw-coded}
use Rattle.lf_format.proofs.writing.write_letters.Goals as goal

pub returns-in-Raw-clause-ok : goal.returns-in-Raw-clause-ok
returns-in-Raw-clause-ok c = ok-as c.extend.result (λ e. e ∙ ap (λ (t : List ℕ). c.args.into.now ++ t) (sym (raw-coded c.args.code c.args.letters.now c.in-Raw.is))) c.extend.ensures.ok
