use Rattle.std.proofs.Common.{◌≡◌, true, not, eqb, length, List, ℕ, sym, ap, ◌∙◌}
use Rattle.std.specs.Option.{option_copied}
use Rattle.lf_spelling.specs.Enclosed.{IsPart}
use Rattle.apache_front.specs.Directive.{are_flags, flags_of, after_flags, side_of, after_side, braced}
use Rattle.apache_front.proofs.Cuts.{flags_taken, side_taken, bad_flags, left_open, at_letter, parts, gives, tail_last}
use Rattle.apache_front.proofs.directive.directive.Goals as goal

pub split_at-requires : goal.split_at-requires
split_at-requires c = (flags_taken c.args.text.now c.flags_len.result c.flags_len.ensures).2

pub returns-then-not-is_flags : goal.returns-then-not-is_flags
returns-then-not-is_flags c =
    let fl = flags_taken c.args.text.now c.flags_len.result c.flags_len.ensures in
    bad_flags c.args.text.now (sym (c.if-not-is_flags.ensures ∙ ap are_flags (c.split_at.ensures.front ∙ fl.0)))

pub split_at-requires-2 : goal.split_at-requires-2
split_at-requires-2 c = (side_taken c.split_at.result.1.now c.side_len.result c.side_len.ensures).1

pub returns-in_default : goal.returns-in_default
returns-in_default c =
    let fl = flags_taken c.args.text.now c.flags_len.result c.flags_len.ensures in
    let sd = side_taken c.split_at.result.1.now c.side_len.result c.side_len.ensures in
    let good : are_flags (flags_of c.args.text.now) ≡ true = sym (c.if-not-is_flags.ensures ∙ ap are_flags (c.split_at.ensures.front ∙ fl.0)) in
    let is : after_side (after_flags c.args.text.now) ≡ c.split_at-2.result.1.now = sym (c.split_at-2.ensures.back ∙ sd.0 ∙ ap after_side (c.split_at.ensures.back ∙ fl.1)) in
    left_open c.args.text.now c.split_at-2.result.1.now good is c.in_default.ensures

pub letter-requires-clause-last : goal.letter-requires-clause-last
letter-requires-clause-last c =
    let fl = flags_taken c.args.text.now c.flags_len.result c.flags_len.ensures in
    let sd = side_taken c.split_at.result.1.now c.side_len.result c.side_len.ensures in
    let is : after_side (after_flags c.args.text.now) ≡ c.split_at-2.result.1.now = sym (c.split_at-2.ensures.back ∙ sd.0 ∙ ap after_side (c.split_at.ensures.back ∙ fl.1)) in
    let part : IsPart 123 125 c.split_at-2.result.1.now (option_copied c.in-Some.cut.part) c.in-Some.cut.rest.now = c.in-Some.ensures in
    tail_last c.args.text.now (flags_of c.args.text.now) (side_of (after_flags c.args.text.now)) (braced (option_copied c.in-Some.cut.part)) c.in-Some.cut.rest.now (parts c.args.text.now c.split_at-2.result.1.now (option_copied c.in-Some.cut.part) c.in-Some.cut.rest.now is part)

pub returns : goal.returns
returns c =
    let fl = flags_taken c.args.text.now c.flags_len.result c.flags_len.ensures in
    let sd = side_taken c.split_at.result.1.now c.side_len.result c.side_len.ensures in
    let good : are_flags (flags_of c.args.text.now) ≡ true = sym (c.if-not-is_flags.ensures ∙ ap are_flags (c.split_at.ensures.front ∙ fl.0)) in
    let is : after_side (after_flags c.args.text.now) ≡ c.split_at-2.result.1.now = sym (c.split_at-2.ensures.back ∙ sd.0 ∙ ap after_side (c.split_at.ensures.back ∙ fl.1)) in
    let part : IsPart 123 125 c.split_at-2.result.1.now (option_copied c.in-Some.cut.part) c.in-Some.cut.rest.now = c.in-Some.ensures in
    let has : not c.is_empty-has_flags.result ≡ not (eqb (length (flags_of c.args.text.now)) 0) = ap not (c.is_empty-has_flags.ensures ∙ ap (λ (t : List ℕ). eqb (length t) 0) (c.split_at.ensures.front ∙ fl.0)) in
    gives c.args.text.now (flags_of c.args.text.now) (side_of (after_flags c.args.text.now)) (option_copied c.in-Some.cut.part) c.in-Some.cut.rest.now (not c.is_empty-has_flags.result) c.letter.result
    (parts c.args.text.now c.split_at-2.result.1.now (option_copied c.in-Some.cut.part) c.in-Some.cut.rest.now is part)
    (at_letter c.args.text.now c.split_at-2.result.1.now (option_copied c.in-Some.cut.part) c.in-Some.cut.rest.now good is part) has c.letter.ensures
