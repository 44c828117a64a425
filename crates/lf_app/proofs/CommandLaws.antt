-- The words are one command.
use Rattle.std.proofs.Common.{◌≡◌, ℕ, List, Bool, false, refl, sym, ◌∙◌, ap, subst, inl, inr, length}
use Rattle.std.specs.Prelude.{Option, None, Some, Ok, Err}
use Rattle.lf_compile.specs.Accepted.{IsAccepted, IsCauseOf, IsAnswer}
use Rattle.lf_compile.specs.declared.refused.Confusion.{Confusion}
use Rattle.lf_compile.specs.declared.refused.Refused.{Refused}
use Rattle.lf_compile.specs.declared.refused.Refused.TheVariants as causes
use Rattle.lf_format.specs.Shape.{Shape}
use Rattle.lf_format.specs.Keeps.{EachKept, slots_in}
use Rattle.lf_format.specs.declared.slot.Slot.{Slot}
use Rattle.lf_machine.specs.LineBytes.{LiteralsAreBytes}
use Rattle.lf_expression.specs.Exprs.{Expr}
use Rattle.lf_map.specs.Filling.{Answer, Form, Reads, ParsesMap, blank}
use Rattle.lf_map.specs.Letters.{parts_of}
use Rattle.lf_map.specs.declared.fault.MapFault.{MapFault}
use Rattle.lf_map.proofs.Answered.{answer_one}
use Rattle.lf_words.specs.declared.command.Command.{Command as CommandLine}
use Rattle.lf_words.specs.declared.command.Side.{Side}
use Rattle.lf_words.specs.declared.command.Verb.{Verb}
use Rattle.lf_words.specs.declared.command.Verb.TheVariants as verbs
use Rattle.lf_words.specs.Command.{IsCommand as IsLine, IsOneCommandOrBad, IsWord, HasTarget}
use Rattle.lf_app.specs.declared.commands.Command.{Command}
use Rattle.lf_app.specs.declared.commands.Command.TheVariants.{Lines, Readable, Show, Generate, Refuse}
use Rattle.lf_app.specs.declared.commands.Job.TheVariants as jobs
use Rattle.lf_app.specs.declared.commands.Purpose.{Purpose}
use Rattle.lf_app.specs.declared.commands.Purpose.TheVariants as purposes
use Rattle.lf_app.specs.declared.commands.Refusal.{Refusal}
use Rattle.lf_app.specs.declared.commands.Refusal.TheVariants as refusals
use Rattle.lf_app.specs.declared.commands.WhichSide.{WhichSide}
use Rattle.lf_app.specs.declared.commands.WhichSide.TheVariants as which
use Rattle.lf_app.specs.Sides.{Gives}
use Rattle.lf_translate.specs.Translations.{Plan, MapsBy}
use Rattle.lf_app.specs.Commands.{IsRefusedFor, confused_command, IfAccepted, accepted, refused, BySide, faulty, given, AsksOf, AsksToMap, unmapped, mapped, AsksToTranslate, IsTranslation, AsksBy, AsksFor, IsLineFor, IsCommand, HasOneCommand}
use Rattle.lf_app.specs.Progress.{IsReady, HasRecords}
use Rattle.lf_app.proofs.SideLaws.{HasOneSide, SpelledKeeps, ToldKeeps, NarrowedKeeps, IsKept, gives_kept, side_tells}
use Rattle.lf_json.proofs.Sorts.{record_json}

-- Each side gives one format, or it is refused for one thing.
abbrev pub SidesAreOne : Type 0
SidesAreOne = (one : WhichSide) (two : Bool) (side : Side) → HasOneSide one two side

-- Each format has one answer at most.
abbrev pub AnswersOnce : Type 0
AnswersOnce = (format : Shape) (one other : Option Refused) → IsAnswer format one → IsAnswer format other → one ≡ other

abbrev IsNothing : Option Refused → Type 0
IsNothing None = Unit {0}
IsNothing (Some cause) = ⊥

abbrev cause_or : Refused → Option Refused → Refused
cause_or other None = other
cause_or other (Some cause) = cause

no_cause : AnswersOnce → (format : Shape) (cause : Refused) → IsAccepted format → IsCauseOf format cause → (cause ≡ causes.OutOfMemory → ⊥) → ⊥
no_cause once format cause h k n = subst IsNothing (once format None (Some cause) h (k, n)) tt

one_cause : AnswersOnce → (format : Shape) (a b : Refused) → IsCauseOf format a → IsCauseOf format b → (a ≡ causes.OutOfMemory → ⊥) → (b ≡ causes.OutOfMemory → ⊥) → a ≡ b
one_cause once format a b h k n m = ap (cause_or a) (once format (Some a) (Some b) (h, n) (k, m))

-- A verb is refused in one way for a cause.
refused_same : (v : Verb) (cause : Refused) (a b : Command) → IsRefusedFor v cause a → IsRefusedFor v cause b → a ≡ b
refused_same v (causes.TooLarge size) a b p q = p ∙ sym q
refused_same v (causes.Hash rec) a b p q = p ∙ sym q
refused_same v (causes.Ambiguous confusion) a b p q = p ∙ sym q
refused_same v causes.OutOfMemory a b p q = absurd p

not_memory : (v : Verb) (cause : Refused) (a : Command) → IsRefusedFor v cause a → cause ≡ causes.OutOfMemory → ⊥
not_memory v cause a p e = subst (λ (x : Refused). IsRefusedFor v x a) e p

if_accepted_one : AnswersOnce → (v : Verb) (format : Shape) (one a b : Command) → IfAccepted v format one a → IfAccepted v format one b → a ≡ b
if_accepted_one once v format one a b (accepted h d) (accepted k e) = d ∙ sym e
if_accepted_one once v format one a b (accepted h d) (refused cause k e) = absurd (no_cause once format cause h k (not_memory v cause b e))
if_accepted_one once v format one a b (refused cause h d) (accepted k e) = absurd (no_cause once format cause k h (not_memory v cause a d))
if_accepted_one once v format one a b (refused cause h d) (refused other k e) =
    let same = one_cause once format cause other h k (not_memory v cause a d) (not_memory v other b e) in
    refused_same v other a b (subst (λ (x : Refused). IsRefusedFor v x a) same d) e

-- By a side one thing is asked for, where by each format one is.
by_side_one : (one : WhichSide) (two : Bool) (side : Side) (Asks : Shape → Command → Type 0) (a b : Command) → HasOneSide one two side → ((format : Shape) (a b : Command) → Asks format a → Asks format b → a ≡ b) → BySide one two side Asks a → BySide one two side Asks b → a ≡ b
by_side_one one two side Asks a b sides each (faulty p f e) (faulty q g d) = e ∙ ap (λ (r : Refusal). Refuse r) (sides.one_refusal p q f g) ∙ sym d
by_side_one one two side Asks a b sides each (faulty p f e) (given g s h) = absurd (sides.not_both g p s f)
by_side_one one two side Asks a b sides each (given g s h) (faulty q f e) = absurd (sides.not_both g q s f)
by_side_one one two side Asks a b sides each (given g s h) (given f r k) =
    each f a b (subst (λ (x : Shape). Asks x a) (sides.one_format g f s r) h) k

asks_of_one : AnswersOnce → (p : Purpose) (format : Shape) (a b : Command) → AsksOf p format a → AsksOf p format b → a ≡ b
asks_of_one once purposes.Check format a b p q = if_accepted_one once verbs.Check format (Readable (length (slots_in format.pieces))) a b p q
asks_of_one once purposes.Read format a b p q = if_accepted_one once verbs.Read format (Lines (jobs.Read format)) a b p q
asks_of_one once purposes.Write format a b p q = p ∙ sym q
asks_of_one once purposes.Show format a b p q = p ∙ sym q
asks_of_one once (purposes.Generate seed count) format a b p q = if_accepted_one once verbs.Gen format (Generate format seed count) a b p q

parses_one : (plan : Plan) (one other : Answer) → ParsesMap plan.map plan.source plan.target one → ParsesMap plan.map plan.source plan.target other → one ≡ other
parses_one plan one other p q =
    answer_one (slots_in plan.source.pieces) (slots_in plan.target.pieces) plan.map (parts_of plan.map) (blank (length (slots_in plan.target.pieces))) one other p q

same_fault : (a b : MapFault) → ◌≡◌ {A = Answer} (Err a) (Err b) → a ≡ b
same_fault a b e = cc

not_both_answers : (exprs : List Expr) (fault : MapFault) → ◌≡◌ {A = Answer} (Ok exprs) (Err fault) → ⊥
not_both_answers exprs fault e = cc

to_map_one : AnswersOnce → (plan : Plan) (a b : Command) → AsksToMap plan a → AsksToMap plan b → a ≡ b
to_map_one once plan a b (unmapped f p e) (unmapped g q d) =
    e ∙ ap (λ (x : MapFault). Refuse (refusals.BadMap x)) (same_fault f g (parses_one plan (Err f) (Err g) p q)) ∙ sym d
to_map_one once plan a b (unmapped f p e) (mapped es q h) = absurd (not_both_answers es f (parses_one plan (Ok es) (Err f) q p))
to_map_one once plan a b (mapped es q h) (unmapped f p e) = absurd (not_both_answers es f (parses_one plan (Ok es) (Err f) q p))
to_map_one once plan a b (mapped es q h) (mapped os p k) = if_accepted_one once verbs.Translate plan.source (Lines (jobs.Translate plan)) a b h k

to_translate_one : AnswersOnce → SidesAreOne → (two : Bool) (source to : Side) (map : List ℕ) (a b : Command) → AsksToTranslate two source to map a → AsksToTranslate two source to map b → a ≡ b
to_translate_one once one two source to map a b p q =
    by_side_one which.Source two source (λ from. BySide which.Target false to (λ goal. AsksToMap (record { source = from; target = goal; map = map }))) a b (one which.Source two source) (λ from a b p q.
    by_side_one which.Target false to (λ goal. AsksToMap (record { source = from; target = goal; map = map })) a b (one which.Target false to) (λ goal a b p q.
    to_map_one once (record { source = from; target = goal; map = map }) a b p q) p q) p q

same_side : (a b : Side) → Some a ≡ Some b → a ≡ b
same_side a b e = cc

same_text : (a b : List ℕ) → Some a ≡ Some b → a ≡ b
same_text a b e = cc

translation_one : AnswersOnce → SidesAreOne → (line : CommandLine) (a b : Command) → IsTranslation line a → IsTranslation line b → a ≡ b
translation_one once one line a b p q =
    let to = same_side q.to p.to (sym q.target ∙ p.target) in
    let by = same_text q.by p.by (sym q.map ∙ p.map) in
    let asks = subst (λ (x : List ℕ). AsksToTranslate line.two line.source p.to x b) by (subst (λ (x : Side). AsksToTranslate line.two line.source x q.by b) to q.asks) in
    to_translate_one once one line.two line.source p.to p.by a b p.asks asks

source_one : AnswersOnce → SidesAreOne → (p : Purpose) (two : Bool) (source : Side) (a b : Command) → BySide which.Source two source (AsksOf p) a → BySide which.Source two source (AsksOf p) b → a ≡ b
source_one once one p two source a b h g = by_side_one which.Source two source (AsksOf p) a b (one which.Source two source) (asks_of_one once p) h g

-- A command line of a verb asks for one thing.
asks_one : AnswersOnce → SidesAreOne → (v : Verb) (line : CommandLine) (a b : Command) → AsksBy v line a → AsksBy v line b → a ≡ b
asks_one once one verbs.Check line a b p q = source_one once one purposes.Check line.two line.source a b p q
asks_one once one verbs.Read line a b p q = source_one once one purposes.Read line.two line.source a b p q
asks_one once one verbs.Write line a b p q = source_one once one purposes.Write line.two line.source a b p q
asks_one once one verbs.Show line a b p q = source_one once one purposes.Show line.two line.source a b p q
asks_one once one verbs.Translate line a b p q = translation_one once one line a b p q
asks_one once one verbs.Gen line a b p q = source_one once one (purposes.Generate line.seed line.count) line.two line.source a b p q

abbrev pub LinesAreOne : Type 0
LinesAreOne = (words : List (List ℕ)) → IsOneCommandOrBad words

line_for_one : (words : List (List ℕ)) (a b : Command) → LinesAreOne → SidesAreOne → AnswersOnce → IsLineFor words a → IsLineFor words b → a ≡ b
line_for_one words a b lines one once p q = elim (lines words) [
  | inl u ↦
      let same : q.line ≡ p.line = u.2 q.line q.is ∙ sym (u.2 p.line p.is) in
      asks_one once one p.line.verb p.line a b p.asks (subst (λ (l : CommandLine). AsksFor l b) same q.asks)
  | inr bad ↦ absurd (bad p.line p.is)
]

-- Words are no two commands.
command_one : (words : List (List ℕ)) (a b : Command) → LinesAreOne → SidesAreOne → AnswersOnce → IsCommand words a → IsCommand words b → a ≡ b
command_one words a b lines one once (inl bad) (inl other) = bad.1 ∙ sym other.1
command_one words a b lines one once (inl bad) (inr line) = absurd (bad.0 line.line line.is)
command_one words a b lines one once (inr line) (inl bad) = absurd (bad.0 line.line line.is)
command_one words a b lines one once (inr line) (inr other) = line_for_one words a b lines one once line other

-- ---- and they are one

-- The format of a command line is one of its words.
abbrev pub FormatsAreWords : Type 0
FormatsAreWords = (words : List (List ℕ)) (line : CommandLine) → IsLine words line → IsWord line.source.format

-- A translation has a target and a map.
abbrev pub TranslationsHaveTargets : Type 0
TranslationsHaveTargets = (words : List (List ℕ)) (line : CommandLine) → IsLine words line → line.verb ≡ verbs.Translate → HasTarget line

-- Each format that keeps what a format keeps has an answer.
abbrev pub AnswersSome : Type 0
AnswersSome = (format : Shape) → EachKept format.pieces → LiteralsAreBytes format.pieces → (answer : Option Refused) × IsAnswer format answer

-- Each text is a map or has a fault.
abbrev pub MapsAreDecided : Type 0
MapsAreDecided = (source target : List Slot) (text : List ℕ) (form : Form) → (answer : Answer) × Reads source target text (parts_of text) form answer

answered : (v : Verb) (format : Shape) (one : Command) (answer : Option Refused) → IsAnswer format answer → (c : Command) × IfAccepted v format one c
answered v format one None h = (one, accepted h refl)
answered v format one (Some (causes.TooLarge size)) h = (Refuse (refusals.TooLarge size), refused (causes.TooLarge size) h.0 refl)
answered v format one (Some (causes.Hash rec)) h = (Refuse (refusals.NoteLine rec), refused (causes.Hash rec) h.0 refl)
answered v format one (Some (causes.Ambiguous confusion)) h = (confused_command v confusion, refused (causes.Ambiguous confusion) h.0 refl)
answered v format one (Some causes.OutOfMemory) h = absurd (h.1 refl)

if_accepted_some : AnswersSome → (v : Verb) (format : Shape) (one : Command) → IsKept format → (c : Command) × IfAccepted v format one c
if_accepted_some answers v format one kept =
    let answer = answers format kept.0 kept.1 in
    answered v format one answer.0 answer.1

by_side_some : (one : WhichSide) (two : Bool) (side : Side) (Asks : Shape → Command → Type 0) → HasOneSide one two side → ((format : Shape) → Gives two side format → (c : Command) × Asks format c) → (c : Command) × BySide one two side Asks c
by_side_some one two side Asks sides each = elim sides.some [
  | inl gives ↦ let asked = each gives.0 gives.1 in (asked.0, given gives.0 gives.1 asked.1)
  | inr fault ↦ (Refuse fault.0, faulty fault.0 fault.1 refl)
]

asks_of_some : AnswersSome → (p : Purpose) (format : Shape) → IsKept format → (c : Command) × AsksOf p format c
asks_of_some answers purposes.Check format kept = if_accepted_some answers verbs.Check format (Readable (length (slots_in format.pieces))) kept
asks_of_some answers purposes.Read format kept = if_accepted_some answers verbs.Read format (Lines (jobs.Read format)) kept
asks_of_some answers purposes.Write format kept = (Lines (jobs.Write format), refl)
asks_of_some answers purposes.Show format kept = (Show format, refl)
asks_of_some answers (purposes.Generate seed count) format kept = if_accepted_some answers verbs.Gen format (Generate format seed count) kept

map_answered : AnswersSome → (plan : Plan) (answer : Answer) → ParsesMap plan.map plan.source plan.target answer → IsKept plan.source → (c : Command) × AsksToMap plan c
map_answered answers plan (Err fault) h kept = (Refuse (refusals.BadMap fault), unmapped fault h refl)
map_answered answers plan (Ok exprs) h kept =
    let asked = if_accepted_some answers verbs.Translate plan.source (Lines (jobs.Translate plan)) kept in
    (asked.0, mapped exprs h asked.1)

to_map_some : AnswersSome → MapsAreDecided → (plan : Plan) → IsKept plan.source → (c : Command) × AsksToMap plan c
to_map_some answers maps plan kept =
    let answer = maps (slots_in plan.source.pieces) (slots_in plan.target.pieces) plan.map (blank (length (slots_in plan.target.pieces))) in
    map_answered answers plan answer.0 answer.1 kept

-- What is known of the sides and the formats.
pub record Facts : Type 0 where
  pub sides : SidesAreOne
  pub spelled : SpelledKeeps
  pub told : ToldKeeps
  pub narrowed : NarrowedKeeps
  pub answers : AnswersSome
  pub maps : MapsAreDecided

source_some : Facts → (p : Purpose) (two : Bool) (source : Side) → IsWord source.format → (c : Command) × BySide which.Source two source (AsksOf p) c
source_some facts p two source word = by_side_some which.Source two source (AsksOf p) (facts.sides which.Source two source) (λ format gives.
    asks_of_some facts.answers p format (gives_kept two source format facts.spelled facts.told facts.narrowed word gives))

to_translate_some : Facts → (two : Bool) (source to : Side) (map : List ℕ) → IsWord source.format → (c : Command) × AsksToTranslate two source to map c
to_translate_some facts two source to map word =
    by_side_some which.Source two source (λ from. BySide which.Target false to (λ goal. AsksToMap (record { source = from; target = goal; map = map }))) (facts.sides which.Source two source) (λ from gives.
    by_side_some which.Target false to (λ goal. AsksToMap (record { source = from; target = goal; map = map })) (facts.sides which.Target false to) (λ goal other.
    to_map_some facts.answers facts.maps (record { source = from; target = goal; map = map }) (gives_kept two source from facts.spelled facts.told facts.narrowed word gives)))

translation_some : Facts → (line : CommandLine) → IsWord line.source.format → HasTarget line → (c : Command) × IsTranslation line c
translation_some facts line word t =
    let asked = to_translate_some facts line.two line.source t.to t.by word in
    (asked.0, record { to = t.to; by = t.by; target = t.target; map = t.map; asks = asked.1 })

some_asks : Facts → (v : Verb) (line : CommandLine) → IsWord line.source.format → (v ≡ verbs.Translate → HasTarget line) → (c : Command) × AsksBy v line c
some_asks facts verbs.Check line word target = source_some facts purposes.Check line.two line.source word
some_asks facts verbs.Read line word target = source_some facts purposes.Read line.two line.source word
some_asks facts verbs.Write line word target = source_some facts purposes.Write line.two line.source word
some_asks facts verbs.Show line word target = source_some facts purposes.Show line.two line.source word
some_asks facts verbs.Translate line word target = translation_some facts line word (target refl)
some_asks facts verbs.Gen line word target = source_some facts (purposes.Generate line.seed line.count) line.two line.source word

some_command : (words : List (List ℕ)) → LinesAreOne → FormatsAreWords → TranslationsHaveTargets → Facts → (c : Command) × IsCommand words c
some_command words lines formats targets facts = elim (lines words) [
  | inl line ↦
      let asks = some_asks facts line.0.verb line.0 (formats words line.0 line.1) (targets words line.0 line.1) in
      (asks.0, inr (record { line = line.0; is = line.1; asks = asks.1 }))
  | inr bad ↦ (Refuse refusals.BadWords, inl (bad, refl))
]

-- Any words are one command.
pub words_one : (words : List (List ℕ)) → LinesAreOne → FormatsAreWords → TranslationsHaveTargets → AnswersOnce → Facts → HasOneCommand words
words_one words lines formats targets once facts =
    let some = some_command words lines formats targets facts in
    record { command = some.0; is = some.1; only = λ other h. command_one words other some.0 lines facts.sides once h some.1 }

-- Two commands that words are are the same.
pub same_command : {words : List (List ℕ)} {a b : Command} → HasOneCommand words → IsCommand words a → IsCommand words b → a ≡ b
same_command {a = a} {b = b} one p q = one.only a p ∙ sym (one.only b q)

-- ---- what holds of each command that words are

confused_records : (format : Shape) (confusion : Confusion) → IsCauseOf format (causes.Ambiguous confusion) → HasRecords confusion
confused_records format confusion h = record {
  first = record_json format.pieces confusion.first h.least.on_first.prints.held;
  second = record_json format.pieces confusion.second h.least.on_second.prints.held;
}

confused_ready : (v : Verb) (confusion : Confusion) → HasRecords confusion → IsReady (confused_command v confusion)
confused_ready verbs.Check confusion h = h
confused_ready verbs.Read confusion h = h
confused_ready verbs.Write confusion h = h
confused_ready verbs.Translate confusion h = h
confused_ready verbs.Show confusion h = h
confused_ready verbs.Gen confusion h = h

refused_ready : (v : Verb) (format : Shape) (cause : Refused) (c : Command) → IsCauseOf format cause → IsRefusedFor v cause c → IsReady c
refused_ready v format (causes.TooLarge size) c h e = subst IsReady (sym e) tt
refused_ready v format (causes.Hash rec) c h e = subst IsReady (sym e) (record_json format.pieces rec h.least.on_line.prints.held)
refused_ready v format (causes.Ambiguous confusion) c h e = subst IsReady (sym e) (confused_ready v confusion (confused_records format confusion h))
refused_ready v format causes.OutOfMemory c h e = absurd e

if_ready : (v : Verb) (format : Shape) (one c : Command) → (IsAccepted format → IsReady one) → IfAccepted v format one c → IsReady c
if_ready v format one c ready (accepted h e) = subst IsReady (sym e) (ready h)
if_ready v format one c ready (refused cause h e) = refused_ready v format cause c h e

by_side_ready : (one : WhichSide) (two : Bool) (side : Side) (Asks : Shape → Command → Type 0) (c : Command) → ((format : Shape) → Asks format c → IsReady c) → BySide one two side Asks c → IsReady c
by_side_ready one two side Asks c each (faulty p f e) = subst IsReady (sym e) (side_tells one two side p f)
by_side_ready one two side Asks c each (given format s h) = each format h

asks_of_ready : (p : Purpose) (c : Command) (format : Shape) → AsksOf p format c → IsReady c
asks_of_ready purposes.Check c format h = if_ready verbs.Check format (Readable (length (slots_in format.pieces))) c (λ a. tt) h
asks_of_ready purposes.Read c format h = if_ready verbs.Read format (Lines (jobs.Read format)) c (λ a. a.readable) h
asks_of_ready purposes.Write c format h = subst IsReady (sym h) tt
asks_of_ready purposes.Show c format h = subst IsReady (sym h) tt
asks_of_ready (purposes.Generate seed count) c format h = if_ready verbs.Gen format (Generate format seed count) c (λ a. tt) h

to_map_ready : (plan : Plan) (c : Command) → AsksToMap plan c → IsReady c
to_map_ready plan c (unmapped f p e) = subst IsReady (sym e) tt
to_map_ready plan c (mapped es p h) = if_ready verbs.Translate plan.source (Lines (jobs.Translate plan)) c (λ a. a.readable) h

to_translate_ready : (two : Bool) (source to : Side) (map : List ℕ) (c : Command) → AsksToTranslate two source to map c → IsReady c
to_translate_ready two source to map c h =
    by_side_ready which.Source two source (λ from. BySide which.Target false to (λ goal. AsksToMap (record { source = from; target = goal; map = map }))) c (λ from h.
    by_side_ready which.Target false to (λ goal. AsksToMap (record { source = from; target = goal; map = map })) c (λ goal h. to_map_ready (record { source = from; target = goal; map = map }) c h) h) h

source_ready : (p : Purpose) (two : Bool) (source : Side) (c : Command) → BySide which.Source two source (AsksOf p) c → IsReady c
source_ready p two source c h = by_side_ready which.Source two source (AsksOf p) c (asks_of_ready p c) h

asks_ready : (v : Verb) (line : CommandLine) (c : Command) → AsksBy v line c → IsReady c
asks_ready verbs.Check line c h = source_ready purposes.Check line.two line.source c h
asks_ready verbs.Read line c h = source_ready purposes.Read line.two line.source c h
asks_ready verbs.Write line c h = source_ready purposes.Write line.two line.source c h
asks_ready verbs.Show line c h = source_ready purposes.Show line.two line.source c h
asks_ready verbs.Translate line c h = to_translate_ready line.two line.source h.to h.by c h.asks
asks_ready verbs.Gen line c h = source_ready (purposes.Generate line.seed line.count) line.two line.source c h

-- A command that words are can be done.
pub command_ready : (words : List (List ℕ)) (c : Command) → IsCommand words c → IsReady c
command_ready words c (inl bad) = subst IsReady (sym bad.1) tt
command_ready words c (inr h) = asks_ready h.line.verb h.line c h.asks

-- The source of the plan keeps what a format keeps, and its text is a map.
pub record CanTurn (plan : Plan) : Type 0 where
  pub kept : IsKept plan.source
  pub exprs : List Expr
  pub maps : MapsBy plan exprs

-- Where lines are read or records drawn by a format, it keeps what each slot of a format keeps, and its literals are
-- bytes; and where lines are turned, the map's text is a map.
abbrev pub KeepsBytes : Command → Type 0
KeepsBytes (Lines (jobs.Read format)) = IsKept format
KeepsBytes (Lines (jobs.Translate plan)) = CanTurn plan
KeepsBytes (Generate format seed count) = IsKept format
KeepsBytes command = Unit {0}

confused_keeps : (v : Verb) (confusion : Confusion) → KeepsBytes (confused_command v confusion)
confused_keeps verbs.Check confusion = tt
confused_keeps verbs.Read confusion = tt
confused_keeps verbs.Write confusion = tt
confused_keeps verbs.Translate confusion = tt
confused_keeps verbs.Show confusion = tt
confused_keeps verbs.Gen confusion = tt

refused_keeps : (v : Verb) (cause : Refused) (c : Command) → IsRefusedFor v cause c → KeepsBytes c
refused_keeps v (causes.TooLarge size) c e = subst KeepsBytes (sym e) tt
refused_keeps v (causes.Hash rec) c e = subst KeepsBytes (sym e) tt
refused_keeps v (causes.Ambiguous confusion) c e = subst KeepsBytes (sym e) (confused_keeps v confusion)
refused_keeps v causes.OutOfMemory c e = absurd e

if_keeps : (v : Verb) (format : Shape) (one c : Command) → KeepsBytes one → IfAccepted v format one c → KeepsBytes c
if_keeps v format one c keeps (accepted h e) = subst KeepsBytes (sym e) keeps
if_keeps v format one c keeps (refused cause h e) = refused_keeps v cause c e

by_side_keeps : (one : WhichSide) (two : Bool) (side : Side) (Asks : Shape → Command → Type 0) (c : Command) → ((format : Shape) → Gives two side format → Asks format c → KeepsBytes c) → BySide one two side Asks c → KeepsBytes c
by_side_keeps one two side Asks c each (faulty p f e) = subst KeepsBytes (sym e) tt
by_side_keeps one two side Asks c each (given format s h) = each format s h

asks_of_keeps : (p : Purpose) (c : Command) (format : Shape) → IsKept format → AsksOf p format c → KeepsBytes c
asks_of_keeps purposes.Check c format kept h = if_keeps verbs.Check format (Readable (length (slots_in format.pieces))) c tt h
asks_of_keeps purposes.Read c format kept h = if_keeps verbs.Read format (Lines (jobs.Read format)) c kept h
asks_of_keeps purposes.Write c format kept h = subst KeepsBytes (sym h) tt
asks_of_keeps purposes.Show c format kept h = subst KeepsBytes (sym h) tt
asks_of_keeps (purposes.Generate seed count) c format kept h = if_keeps verbs.Gen format (Generate format seed count) c kept h

to_map_keeps : (plan : Plan) (c : Command) → IsKept plan.source → AsksToMap plan c → KeepsBytes c
to_map_keeps plan c kept (unmapped f p e) = subst KeepsBytes (sym e) tt
to_map_keeps plan c kept (mapped es p h) = if_keeps verbs.Translate plan.source (Lines (jobs.Translate plan)) c (record { kept = kept; exprs = es; maps = p }) h

module _ (spelled : SpelledKeeps) (told : ToldKeeps) (narrowed : NarrowedKeeps) where
  source_keeps : (p : Purpose) (two : Bool) (source : Side) (c : Command) → IsWord source.format → BySide which.Source two source (AsksOf p) c → KeepsBytes c
  source_keeps p two source c word h =
      by_side_keeps which.Source two source (AsksOf p) c (λ format gives asks. asks_of_keeps p c format (gives_kept two source format spelled told narrowed word gives) asks) h

  to_translate_keeps : (two : Bool) (source to : Side) (map : List ℕ) (c : Command) → IsWord source.format → AsksToTranslate two source to map c → KeepsBytes c
  to_translate_keeps two source to map c word h =
      by_side_keeps which.Source two source (λ from. BySide which.Target false to (λ goal. AsksToMap (record { source = from; target = goal; map = map }))) c (λ from gives h.
      by_side_keeps which.Target false to (λ goal. AsksToMap (record { source = from; target = goal; map = map })) c (λ goal other h.
      to_map_keeps (record { source = from; target = goal; map = map }) c (gives_kept two source from spelled told narrowed word gives) h) h) h

  asks_keep : (v : Verb) (line : CommandLine) (c : Command) → IsWord line.source.format → AsksBy v line c → KeepsBytes c
  asks_keep verbs.Check line c word h = source_keeps purposes.Check line.two line.source c word h
  asks_keep verbs.Read line c word h = source_keeps purposes.Read line.two line.source c word h
  asks_keep verbs.Write line c word h = source_keeps purposes.Write line.two line.source c word h
  asks_keep verbs.Show line c word h = source_keeps purposes.Show line.two line.source c word h
  asks_keep verbs.Translate line c word h = to_translate_keeps line.two line.source h.to h.by c word h.asks
  asks_keep verbs.Gen line c word h = source_keeps (purposes.Generate line.seed line.count) line.two line.source c word h

pub command_keeps : (words : List (List ℕ)) (c : Command) → FormatsAreWords → SpelledKeeps → ToldKeeps → NarrowedKeeps → IsCommand words c → KeepsBytes c
command_keeps words c formats spelled told narrowed (inl bad) = subst KeepsBytes (sym bad.1) tt
command_keeps words c formats spelled told narrowed (inr h) = asks_keep spelled told narrowed h.line.verb h.line c (formats words h.line h.is) h.asks
