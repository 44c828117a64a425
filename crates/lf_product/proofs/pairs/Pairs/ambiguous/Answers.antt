use Rattle.std.proofs.Common.{◌≡◌, ◌∙◌, sym, ap}
use Rattle.lf_core.specs.Marked.{Machine}
use Rattle.lf_core.specs.Written.{WrittenMachine, machine_of}
use Rattle.lf_product.proofs.RunPairs.{ambiguous_if_some, some_if_ambiguous}
use Rattle.lf_product.proofs.pairs.Pairs.ambiguous.Goals as goal

pub returns : goal.returns
returns c =
    let m : Machine = machine_of c.args.self.now in
    let start : c.start-start.result ≡ c.args.self.now.start = c.start-start.ensures ∙ ap (λ (w : WrittenMachine). w.start) c.self.view_is in (
      λ t. ambiguous_if_some m c.start-start.result c.distance.result start c.distance.ensures (sym c.is_some.ensures ∙ t),
      λ a. c.is_some.ensures ∙ some_if_ambiguous m c.start-start.result c.distance.result start c.distance.ensures a,
    )
