use Rattle.std.proofs.Common.{◌≡◌, ◌∙◌, ℕ, List, sym, ap, rules, get_or, replicate, get_or-set_other}
use Rattle.std.specs.Prelude.{Option, Vec}
use Rattle.std.specs.declared.alloc.Global.{Global}
use Rattle.std.proofs.lemmas.List.{get_or-replicate}
use Rattle.lf_product.specs.declared.pages.TheConstants.{NONE, PAGE}
use Rattle.lf_product.specs.Pages.{at_place}
use Rattle.lf_product.proofs.pages.write.Goals as goal

pub returns-clause-kept : goal.returns-clause-kept
returns-clause-kept c = λ at low ne.
    let fresh : c.in_ok-cells.cells.items ≡ replicate PAGE NONE = search rules in
    get_or-set_other c.in_ok-cells.cells.items c.args.place at c.args.steps NONE ne ∙ ap (λ (xs : List ℕ). get_or xs at NONE) fresh ∙ get_or-replicate PAGE at NONE NONE low
    ∙ sym (ap (λ (p : Option (Vec ℕ Global)). at_place p at) c.in_default.is)
