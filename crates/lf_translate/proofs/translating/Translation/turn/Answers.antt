use Rattle.std.proofs.Common.{List, subst}
use Rattle.std.specs.Prelude.{MatchOption, Option}
use Rattle.lf_compile.specs.Confused.{IsOnlyRecord}
use Rattle.lf_core.specs.declared.values.Value.{Value}
use Rattle.lf_format.specs.Lines.{PrintsNone}
use Rattle.lf_translate.specs.Translations.{Plan, IsTurnedTo}
use Rattle.lf_translate.proofs.TurnedLines.{turns}
use Rattle.lf_translate.proofs.translating.Translation.turn.Goals as goal

pub returns : goal.returns
returns c =
    let inside = c.self.inside in
    let line = c.args.line.now in
    let pieces = inside.source.pieces in
    let made = c.in_ok-translate_record.field-0 in
    let found = subst (λ (o : Option (List Value)). MatchOption o (PrintsNone pieces line) (λ rec. IsOnlyRecord pieces line rec)) c.in-Some.is c.in_ok-record.ensures in
    let turned = turns inside.text inside.source inside.target inside.map c.self.invariant line c.in-Some.record made found.prints c.in_ok-translate_record.ensures in
    subst (λ (p : Plan). IsTurnedTo p line made) c.self.view_is turned
