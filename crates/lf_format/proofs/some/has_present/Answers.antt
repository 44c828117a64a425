use Rattle.std.proofs.Common.{rules, refl, sym, subst}
use Rattle.std.specs.Prelude.{FitsSigned}
use Rattle.std.specs.Int.{w64}
use Rattle.lf_format.specs.declared.kind.Kind.{Kind}
use Rattle.lf_format.proofs.SomeValues.{IsTop, top-decides, texts-decide, words-decide, query-some, read-back}
use Rattle.lf_format.specs.TimeValueLaws.{IsTime, times-decide}
use Rattle.lf_format.proofs.some.has_present.Goals as goal

pub returns-in-Num : goal.returns-in-Num
returns-in-Num c =
    let is = subst (λ (k : Kind). IsTop k c.in-Num.d.hi) (sym c.in-Num.is) refl in
    let fits : FitsSigned w64 c.in-Num.d.hi = search rules in
    top-decides c.args.kind.now c.args.absent c.args.quoted c.in-Num.d.hi c.is_present_bound.result is
    (read-back c.args.kind.now c.args.absent c.args.quoted c.in-Num.d.hi c.is_present_bound.result fits c.is_present_bound.ensures)

pub returns-in-DashZero : goal.returns-in-DashZero
returns-in-DashZero c =
    let is = subst (λ (k : Kind). IsTop k c.in-DashZero.d.hi) (sym c.in-DashZero.is) refl in
    let fits : FitsSigned w64 c.in-DashZero.d.hi = search rules in
    top-decides c.args.kind.now c.args.absent c.args.quoted c.in-DashZero.d.hi c.is_present_bound-in-DashZero.result is
    (read-back c.args.kind.now c.args.absent c.args.quoted c.in-DashZero.d.hi c.is_present_bound-in-DashZero.result fits c.is_present_bound-in-DashZero.ensures)

pub returns-in-Fixed3 : goal.returns-in-Fixed3
returns-in-Fixed3 c =
    let is = subst (λ (k : Kind). IsTop k c.in-Fixed3.d.hi) (sym c.in-Fixed3.is) refl in
    let fits : FitsSigned w64 c.in-Fixed3.d.hi = search rules in
    top-decides c.args.kind.now c.args.absent c.args.quoted c.in-Fixed3.d.hi c.is_present_bound-in-Fixed3.result is
    (read-back c.args.kind.now c.args.absent c.args.quoted c.in-Fixed3.d.hi c.is_present_bound-in-Fixed3.result fits c.is_present_bound-in-Fixed3.ensures)

pub returns-in-Padded : goal.returns-in-Padded
returns-in-Padded c =
    let is = subst (λ (k : Kind). IsTop k c.in-Padded.d.hi) (sym c.in-Padded.is) refl in
    let fits : FitsSigned w64 c.in-Padded.d.hi = search rules in
    top-decides c.args.kind.now c.args.absent c.args.quoted c.in-Padded.d.hi c.is_present_bound-in-Padded.result is
    (read-back c.args.kind.now c.args.absent c.args.quoted c.in-Padded.d.hi c.is_present_bound-in-Padded.result fits c.is_present_bound-in-Padded.ensures)

pub returns-in-Text : goal.returns-in-Text
returns-in-Text c = texts-decide c.args.kind.now c.in-Text.d c.args.absent c.args.quoted c.has_present_text.result c.in-Text.is c.has_present_text.ensures

pub returns-in-Words : goal.returns-in-Words
returns-in-Words c = words-decide c.args.kind.now c.in-Words.d c.args.absent c.args.quoted c.has_present_word.result c.in-Words.is c.has_present_word.ensures

pub returns-in-Query : goal.returns-in-Query
returns-in-Query c = ((λ _. query-some c.args.kind.now c.in-Query.field-0 c.args.absent c.args.quoted c.in-Query.is), (λ _. refl))

pub returns-in-Clf : goal.returns-in-Clf
returns-in-Clf c = times-decide c.args.kind.now c.args.absent c.args.quoted (subst IsTime (sym c.in-Clf.is) tt)

pub returns-in-Iso : goal.returns-in-Iso
returns-in-Iso c = times-decide c.args.kind.now c.args.absent c.args.quoted (subst IsTime (sym c.in-Iso.is) tt)

pub returns-in-IsoMillis : goal.returns-in-IsoMillis
returns-in-IsoMillis c = times-decide c.args.kind.now c.args.absent c.args.quoted (subst IsTime (sym c.in-IsoMillis.is) tt)

pub returns-in-Ha : goal.returns-in-Ha
returns-in-Ha c = times-decide c.args.kind.now c.args.absent c.args.quoted (subst IsTime (sym c.in-Ha.is) tt)

pub returns-in-Date : goal.returns-in-Date
returns-in-Date c = times-decide c.args.kind.now c.args.absent c.args.quoted (subst IsTime (sym c.in-Date.is) tt)

pub returns-in-Clock : goal.returns-in-Clock
returns-in-Clock c = times-decide c.args.kind.now c.args.absent c.args.quoted (subst IsTime (sym c.in-Clock.is) tt)
