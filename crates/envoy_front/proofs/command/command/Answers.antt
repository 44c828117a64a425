use Rattle.std.proofs.Common.{◌∷◌, ℕ, List, sym, ap, subst, ◌∙◌}
use Rattle.std.specs.Str.{IsUtf8}
use Rattle.envoy_front.specs.Table.{sort_of}
use Rattle.envoy_front.specs.Command.{after_name, tail_cause, sort_cause}
use Rattle.envoy_front.specs.FaultLaws.{command_fails}
use Rattle.envoy_front.proofs.Cuts.{unknown, read, end_fits, command_text, gives}
use Rattle.envoy_front.proofs.command.command.Goals as goal

pub returns-in_default : goal.returns-in_default
returns-in_default c = unknown c.args.text.now (sym (c.in_default.ensures ∙ ap sort_of c.cut_name.ensures.front))

pub returns-in-Err : goal.returns-in-Err
returns-in-Err c =
    command_fails c.args.text.now c.in-Err.cause
    (ap (λ o. sort_cause o (after_name c.args.text.now)) (sym (c.in-Some.ensures ∙ ap sort_of c.cut_name.ensures.front)) ∙ ap (tail_cause c.in-Some.sort) (sym c.cut_name.ensures.back) ∙ c.in-Err.ensures)

pub overflow_sub-len : goal.overflow_sub-len
overflow_sub-len c =
    end_fits c.args.text.now _ _ _ c.in-Some.sort (read c.args.text.now _ _ _ _ _ c.in-Some.sort c.cut_name.ensures.front c.cut_name.ensures.back c.in-Some.ensures c.in-Ok.ensures)

pub spelled-requires : goal.spelled-requires
spelled-requires c =
    let parts = read c.args.text.now _ _ _ _ _ c.in-Some.sort c.cut_name.ensures.front c.cut_name.ensures.back c.in-Some.ensures c.in-Ok.ensures in
    subst IsUtf8 (sym c.split_at.ensures.front) (command_text c.args.text.now _ _ _ c.in-Some.sort c.requires parts)

pub returns : goal.returns
returns c =
    let parts = read c.args.text.now _ _ _ _ _ c.in-Some.sort c.cut_name.ensures.front c.cut_name.ensures.back c.in-Some.ensures c.in-Ok.ensures in
    gives c.args.text.now _ _ _ c.in-Some.sort c.in_ok-name.name c.kind_of.result c.absent.result parts (c.in_ok-name.ensures ∙ ap (λ (t : List ℕ). 37 ∷ t) c.split_at.ensures.front) c.kind_of.ensures c.absent.ensures
