use Rattle.std.proofs.Common.{◌≡◌, ℕ, Option, subst}
use Rattle.std.specs.Prelude.{OnOk, IfErr}
use Rattle.lf_narrow.specs.Effects.{narrowed_slot}
use Rattle.lf_narrow.specs.Terms.{term_of}
use Rattle.lf_narrow.specs.Said.{rule_said}
use Rattle.lf_narrow.specs.Narrowed.{Effect, IsSo, IsFine, IsTermFault, pieces_after}
use Rattle.lf_narrow.proofs.Effect.{effect_same}
use Rattle.lf_narrow.proofs.Fitting.{term_fits}
use Rattle.lf_narrow.proofs.narrowing.apply_term.Goals as goal

pub read_term-requires : goal.read_term-requires
read_term-requires c = term_fits c.args.part.now c.requires.sentence

pub returns-clause-fine : goal.returns-clause-fine
returns-clause-fine c =
    let e = effect_same c.read_term.result.rule (term_of c.args.part.now).rule c.read_term.ensures.rule in
    let one = narrowed_slot (rule_said c.read_term.result.rule) in
    let h : OnOk c.apply.result (IsFine (term_of c.args.part.now).slot one c.args.pieces.now) = subst (λ (s : Option ℕ). OnOk c.apply.result (IsFine s one c.args.pieces.now)) c.read_term.ensures.slot c.apply.ensures.fine in
    subst (λ (f : Effect). OnOk c.apply.result (IsFine (term_of c.args.part.now).slot f c.args.pieces.now)) e h

pub returns-clause-after : goal.returns-clause-after
returns-clause-after c =
    let e = effect_same c.read_term.result.rule (term_of c.args.part.now).rule c.read_term.ensures.rule in
    let one = narrowed_slot (rule_said c.read_term.result.rule) in
    let h : OnOk c.apply.result (c.apply.new.pieces ≡ pieces_after (term_of c.args.part.now).slot one 1 c.args.pieces.now) = subst (λ (s : Option ℕ). OnOk c.apply.result (c.apply.new.pieces ≡ pieces_after s one 1 c.args.pieces.now)) c.read_term.ensures.slot c.apply.ensures.after in
    subst (λ (f : Effect). OnOk c.apply.result (c.apply.new.pieces ≡ pieces_after (term_of c.args.part.now).slot f 1 c.args.pieces.now)) e h

pub returns-clause-fault : goal.returns-clause-fault
returns-clause-fault c =
    let e = effect_same c.read_term.result.rule (term_of c.args.part.now).rule c.read_term.ensures.rule in
    let one = narrowed_slot (rule_said c.read_term.result.rule) in
    let h : IfErr c.apply.result (λ fault. IsSo (IsTermFault (term_of c.args.part.now).slot one c.args.pieces.now) fault) = subst (λ (s : Option ℕ). IfErr c.apply.result (λ fault. IsSo (IsTermFault s one c.args.pieces.now) fault)) c.read_term.ensures.slot c.apply.ensures.fault in
    subst (λ (f : Effect). IfErr c.apply.result (λ fault. IsSo (IsTermFault (term_of c.args.part.now).slot f c.args.pieces.now) fault)) e h
