use Rattle.std.proofs.Common.{◌≡◌, ℕ, ◌+◌, ◌*◌, List, [], Bool, refl, sym, ap, ◌∙◌, subst, arith, add-one}
use Rattle.lf_core.specs.declared.marked.Move.{Move}
use Rattle.lf_witness.specs.Sets.{has_point}
use Rattle.lf_small_machines.specs.Small.{push_if, moves_below}
use Rattle.lf_small_machines.proofs.small_machines.list_moves.Goals as goal

none_below : (flags : List Bool) (at : ℕ) → moves_below flags at 0 ≡ []
unfolding moves_below
none_below flags at = refl

one_below : (flags : List Bool) (at number : ℕ) → moves_below flags at (number + 1) ≡ push_if (has_point flags (at + number)) number (moves_below flags at number)
unfolding moves_below
one_below flags at number = rw add-one refl

more : (flags : List Bool) (at number : ℕ) (flag : Bool) (old new : List Move) → old ≡ moves_below flags at number → flag ≡ has_point flags (at + number) → new ≡ push_if flag number old → new ≡ moves_below flags at (number + 1)
more flags at number flag old new before is made =
    made ∙ ap (λ t. push_if t number old) is ∙ ap (push_if (has_point flags (at + number)) number) before ∙ sym (one_below flags at number)

pub loop-number-init : goal.loop-number-init
loop-number-init c = c.clear.ensures.items ∙ sym (none_below c.args.flags.now ((c.args.point * 256 + c.args.byte) * 12))

pub loop-number-preserved : goal.loop-number-preserved
loop-number-preserved c =
    let new : c.push_if.new.into.items ≡ push_if c.has.result c.loop-number.number c.loop-number.into.items = c.in_ok-push_if.ensures in
    more c.args.flags.now ((c.args.point * 256 + c.args.byte) * 12) c.loop-number.number c.has.result c.loop-number.into.items c.push_if.new.into.items c.loop-number.invariant c.has.ensures new

pub returns : goal.returns
returns c =
    let whole : c.loop-number.number ≡ 12 = omega arith in
    subst (λ n. c.loop-number.into.items ≡ moves_below c.args.flags.now ((c.args.point * 256 + c.args.byte) * 12) n) whole c.loop-number.invariant
