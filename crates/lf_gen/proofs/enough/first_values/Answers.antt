use Rattle.std.proofs.Common.{◌≡◌, List, [], ◌∷◌, map, sym, subst, ap, ◌∙◌, rules, of_z, to_z}
use Rattle.std.specs.Prelude.{Result, Ok, Err, IfOk, ℤ, neg_ℤ, pos, FitsSigned}
use Rattle.std.specs.Int.{w64}
use Rattle.std.proofs.lemmas.Int.{to_z-of_z}
use Rattle.lf_core.specs.declared.values.Value.{Value}
use Rattle.lf_core.specs.declared.values.Value.TheVariants.{Text, Moment, Day, Clock}
use Rattle.lf_escape.specs.declared.coding.Coding.{Coding}
use Rattle.lf_format.specs.Keeps.{TakesPlain}
use Rattle.lf_format.specs.declared.kind.Kind.{Kind}
use Rattle.lf_format.specs.declared.kind.Kind.TheVariants as kind
use Rattle.lf_gen.specs.First.{AreFirst, first_moment, number_values}
use Rattle.lf_gen.proofs.NumberFirst.{num-first, dash_zero-first, fixed3-first, padded-first}
use Rattle.lf_gen.proofs.TextOrder.{words-first, query-first}
use Rattle.lf_gen.proofs.TimeFirst.{clf-first, ha-first, iso-first, millis-first, date-first, clock-first}
use Rattle.lf_gen.proofs.enough.first_values.Goals as goal

if-ok : {A E : Type 0} {P Q : A → Type 0} (r : Result A E) → IfOk r P → ((a : A) → P a → Q a) → IfOk r Q
if-ok (Ok a) p f = f a p
if-ok (Err e) p f = tt

first-by : (k own : Kind) (code : Coding) (xs values : List Value) → k ≡ own → AreFirst own code values → xs ≡ values → AreFirst k code xs
first-by k own code xs values is first same =
    subst (λ (ys : List Value). AreFirst k code ys) (sym same) (subst (λ (q : Kind). AreFirst q code values) (sym is) first)

read-numbers : (lo hi : ℤ) → FitsSigned w64 lo → FitsSigned w64 hi → number_values (to_z w64 (of_z w64 lo)) (to_z w64 (of_z w64 hi)) ≡ number_values lo hi
read-numbers lo hi low high =
    ap (λ (z : ℤ). number_values z (to_z w64 (of_z w64 hi))) (to_z-of_z w64 lo low) ∙ ap (number_values lo) (to_z-of_z w64 hi high)

pub text_values-requires : goal.text_values-requires
text_values-requires c = subst (λ (k : Kind). TakesPlain k c.args.code) c.in-Text.is c.requires

pub returns-in-Num : goal.returns-in-Num
returns-in-Num c =
    let low : FitsSigned w64 c.in-Num.d.lo = search rules in
    let high : FitsSigned w64 c.in-Num.d.hi = search rules in
    if-ok c.number_values.result c.number_values.ensures
    (λ values h. first-by c.args.kind.now (kind.Num c.in-Num.d) c.args.code values.items (number_values c.in-Num.d.lo c.in-Num.d.hi) c.in-Num.is (num-first c.args.code c.in-Num.d)
    (h ∙ read-numbers c.in-Num.d.lo c.in-Num.d.hi low high))

pub returns-in-DashZero : goal.returns-in-DashZero
returns-in-DashZero c =
    let low : FitsSigned w64 c.in-DashZero.d.lo = search rules in
    let high : FitsSigned w64 c.in-DashZero.d.hi = search rules in
    if-ok c.number_values-in-DashZero.result c.number_values-in-DashZero.ensures
    (λ values h. first-by c.args.kind.now (kind.DashZero c.in-DashZero.d) c.args.code values.items (number_values c.in-DashZero.d.lo c.in-DashZero.d.hi) c.in-DashZero.is (dash_zero-first c.args.code c.in-DashZero.d)
    (h ∙ read-numbers c.in-DashZero.d.lo c.in-DashZero.d.hi low high))

pub returns-in-Fixed3 : goal.returns-in-Fixed3
returns-in-Fixed3 c =
    let low : FitsSigned w64 c.in-Fixed3.d.lo = search rules in
    let high : FitsSigned w64 c.in-Fixed3.d.hi = search rules in
    if-ok c.number_values-in-Fixed3.result c.number_values-in-Fixed3.ensures
    (λ values h. first-by c.args.kind.now (kind.Fixed3 c.in-Fixed3.d) c.args.code values.items (number_values c.in-Fixed3.d.lo c.in-Fixed3.d.hi) c.in-Fixed3.is (fixed3-first c.args.code c.in-Fixed3.d)
    (h ∙ read-numbers c.in-Fixed3.d.lo c.in-Fixed3.d.hi low high))

pub returns-in-Padded : goal.returns-in-Padded
returns-in-Padded c =
    let low : FitsSigned w64 c.in-Padded.d.lo = search rules in
    let high : FitsSigned w64 c.in-Padded.d.hi = search rules in
    if-ok c.number_values-in-Padded.result c.number_values-in-Padded.ensures
    (λ values h. first-by c.args.kind.now (kind.Padded c.in-Padded.d) c.args.code values.items (number_values c.in-Padded.d.lo c.in-Padded.d.hi) c.in-Padded.is (padded-first c.args.code c.in-Padded.d)
    (h ∙ read-numbers c.in-Padded.d.lo c.in-Padded.d.hi low high))

pub returns-in-Words : goal.returns-in-Words
returns-in-Words c =
    if-ok c.word_values.result c.word_values.ensures
    (λ values h. first-by c.args.kind.now (kind.Words c.in-Words.d) c.args.code values.items (map Text c.in-Words.d.list) c.in-Words.is (words-first c.args.code c.in-Words.d) h)

pub returns-in-Query : goal.returns-in-Query
returns-in-Query c =
    if-ok c.query_values.result c.query_values.ensures
    (λ values h. first-by c.args.kind.now (kind.Query c.in-Query.field-0) c.args.code values.items (Text [] ∷ Text (63 ∷ []) ∷ []) c.in-Query.is (query-first c.args.code c.in-Query.field-0) h)

pub returns-in-Clf : goal.returns-in-Clf
returns-in-Clf c =
    if-ok c.one_value.result c.one_value.ensures
    (λ values h. first-by c.args.kind.now (kind.Clf c.in-Clf.field-0) c.args.code values.items (Moment (first_moment (neg_ℤ (pos 62127820800))) ∷ []) c.in-Clf.is (clf-first c.args.code c.in-Clf.field-0) (h ∙ ap (λ (v : Value). v ∷ []) c.moment.ensures))

pub returns-in-Ha : goal.returns-in-Ha
returns-in-Ha c =
    if-ok c.one_value-in-Ha.result c.one_value-in-Ha.ensures
    (λ values h. first-by c.args.kind.now (kind.Ha c.in-Ha.field-0) c.args.code values.items (Moment (first_moment (neg_ℤ (pos 62127820800))) ∷ []) c.in-Ha.is (ha-first c.args.code c.in-Ha.field-0) (h ∙ ap (λ (v : Value). v ∷ []) c.moment-in-Ha.ensures))

pub returns-in-Iso : goal.returns-in-Iso
returns-in-Iso c =
    if-ok c.one_value-in-Iso.result c.one_value-in-Iso.ensures
    (λ values h. first-by c.args.kind.now (kind.Iso c.in-Iso.field-0) c.args.code values.items (Moment (first_moment (neg_ℤ (pos 62135596800))) ∷ []) c.in-Iso.is (iso-first c.args.code c.in-Iso.field-0) (h ∙ ap (λ (v : Value). v ∷ []) c.moment-in-Iso.ensures))

pub returns-in-IsoMillis : goal.returns-in-IsoMillis
returns-in-IsoMillis c =
    if-ok c.one_value-in-IsoMillis.result c.one_value-in-IsoMillis.ensures
    (λ values h. first-by c.args.kind.now (kind.IsoMillis c.in-IsoMillis.field-0) c.args.code values.items (Moment (first_moment (neg_ℤ (pos 62135596800))) ∷ []) c.in-IsoMillis.is (millis-first c.args.code c.in-IsoMillis.field-0) (h ∙ ap (λ (v : Value). v ∷ []) c.moment-in-IsoMillis.ensures))

pub returns-in-Date : goal.returns-in-Date
returns-in-Date c =
    if-ok c.one_value-in-Date.result c.one_value-in-Date.ensures
    (λ values h. first-by c.args.kind.now (kind.Date c.in-Date.field-0) c.args.code values.items (Day (neg_ℤ (pos 719162)) ∷ []) c.in-Date.is (date-first c.args.code c.in-Date.field-0) h)

pub returns-in-Clock : goal.returns-in-Clock
returns-in-Clock c =
    if-ok c.one_value-in-Clock.result c.one_value-in-Clock.ensures
    (λ values h. first-by c.args.kind.now (kind.Clock c.in-Clock.field-0) c.args.code values.items (Clock 0 ∷ []) c.in-Clock.is (clock-first c.args.code c.in-Clock.field-0) h)
