use Rattle.std.proofs.Common.{◌≡◌, ◌<◌, List, [], ◌∷◌, ◌++◌, ◌∙◌, get_or, sym, ap, subst, rules, Contains}
use Rattle.std.proofs.lemmas.List.Elements.{Contains-get_or, All-contains}
use Rattle.lf_core.specs.declared.marked.Move.{Move}
use Rattle.lf_core.specs.Marked.{Machine, no_move}
use Rattle.lf_machine.specs.LineMachine.{line_machine, line-marked}
use Rattle.lf_enumerated.specs.Leading.{Leads}
use Rattle.lf_enumerated.proofs.LeadingLaws.{leads-on}
use Rattle.lf_enumerated.proofs.search.+follow.Goals as goal

pub follow-requires : goal.follow-requires
follow-requires t c =
    let m : Machine = line_machine c.args.machine.now in
    let steps : List Move = c.deref-step-items.result.now in
    let step : Move = get_or steps c.loop-step.step-index no_move in
    let all : List Move = m.moves c.args.point c.in-Some.byte.now in
    let same : steps ≡ all = c.deref-step-items.ensures.value ∙ c.in_ok-moves_from-in-Some.ensures in
    let has : Contains all step = subst (λ (xs : List Move). Contains xs step) same (Contains-get_or steps c.loop-step.step-index no_move c.loop-step-test.true) in
    let near : step.to < m.count = All-contains (λ (x : Move). x.to < m.count) all step ((line-marked c.args.machine.now).stays c.args.point c.in-Some.byte.now c.requires.point) has in
    let grown : c.as_slice.result.now ≡ c.args.moves.now ++ step ∷ [] =
    c.as_slice.ensures.value ∙ c.in_ok-push-in-Some.ensures.items ∙ ap (λ (xs : List Move). xs ++ step ∷ []) c.in_ok-longer-in-Some.ensures.items in
    let leads : Leads m c.as_slice.result.now step.to =
    subst (λ (xs : List Move). Leads m xs step.to) (sym grown) (leads-on m c.args.moves.now c.args.point c.in-Some.byte.now step c.requires.moves has) in
    search rules
