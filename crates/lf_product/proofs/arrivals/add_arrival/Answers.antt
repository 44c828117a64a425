use Rattle.std.proofs.Common.{◌∙◌, sym, ap, [], ◌∷◌, ◌++◌, set, List}
use Rattle.std.specs.Prelude.{Vec}
use Rattle.std.specs.declared.alloc.Global.{Global}
use Rattle.std.proofs.lemmas.List.{map-set}
use Rattle.lf_product.specs.declared.arrivals.Arrival.{Arrival}
use Rattle.lf_product.specs.Arcs.{lists_of}
use Rattle.lf_product.proofs.Sweep.{list_at}
use Rattle.lf_product.proofs.arrivals.add_arrival.Goals as goal

pub returns : goal.returns
returns c =
    map-set (λ (w : Vec Arrival Global). w.items) c.args.arrivals.now.items c.args.to c.push.new.self
    ∙ ap (λ (w : List Arrival). set (lists_of c.args.arrivals.now.items) c.args.to w)
    (c.in_ok-push.ensures.items ∙ ap (λ (ys : List Arrival). ys ++ c.args.arrival ∷ []) (sym (list_at c.args.arrivals.now.items c.args.to c.index_mut-there.result.now c.requires c.index_mut-there.ensures.value)))
