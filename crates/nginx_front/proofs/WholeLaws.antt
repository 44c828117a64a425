-- Each directive spells one format, or it has one first fault.
use Rattle.std.proofs.Common.{◌≡◌, ℕ, List, refl, sym, ap, subst, ◌∙◌, inl, inr}
use Rattle.std.specs.Prelude.{◌⊎◌, Result, Ok, Err}
use Rattle.lf_format.specs.Shape.{Shape}
use Rattle.lf_spelling.specs.Spelling.{AnswersFormat, AnswersFault}
use Rattle.lf_spelling.specs.declared.fault.Cause.{Cause}
use Rattle.lf_spelling.specs.declared.fault.Cause.TheVariants.{Unclosed}
use Rattle.lf_spelling.specs.declared.fault.FormatFault.{FormatFault}
use Rattle.lf_spelling.specs.declared.fault.FormatFault.TheVariants as fault
use Rattle.nginx_front.specs.declared.table.Escape.{Escape}
use Rattle.nginx_front.specs.declared.table.Escape.TheVariants.{Default, Json, Off}
use Rattle.nginx_front.specs.declared.strings.Placed.{Placed}
use Rattle.nginx_front.specs.Nginx.{Spells, IsFaulty, HasOneAnswer}
use Rattle.nginx_front.specs.Parts.{IsSpelled, FaultyParts}
use Rattle.nginx_front.proofs.DirectiveRead.{spelled_same}
use Rattle.nginx_front.proofs.PartsLaws.{parts_same, never_broken, parts_answer}
use Rattle.nginx_front.specs.Whole.{bytes_of, place_of, GivesSaid, SpellsDirective, FaultyDirective, in_parts, in_strings, HasOneDirectiveAnswer}

-- Each text has one answer under each escape.
abbrev pub EachAnswer : Type 0
EachAnswer = (escape : Escape) (text : List ℕ) → HasOneAnswer escape text

pub each_answer : ((text : List ℕ) → HasOneAnswer Default text) → ((text : List ℕ) → HasOneAnswer Json text) → ((text : List ℕ) → HasOneAnswer Off text) → EachAnswer
each_answer a b c Default = a
each_answer a b c Json = b
each_answer a b c Off = c

-- ---- what is said twice

format_here : (text : List ℕ) (e : Escape) (given : List Placed) (format : Shape) → IsSpelled text e given → SpellsDirective text format → Spells e (bytes_of given) format
format_here text e given format is d =
    let same = spelled_same text d.escape e d.given given d.is is in
    subst (λ (g : List Placed). Spells e (bytes_of g) format) same.1 (subst (λ (x : Escape). Spells x (bytes_of d.given) format) same.0 d.spells)

record FaultAt (e : Escape) (given : List Placed) (place : ℕ) (cause : Cause) : Type 0 where
  at : ℕ
  faulty : IsFaulty e (bytes_of given) at cause
  place_is : place ≡ place_of given at

fault_here : (text : List ℕ) (e : Escape) (given : List Placed) (place : ℕ) (cause : Cause) → IsSpelled text e given → FaultyDirective text place cause → FaultAt e given place cause
fault_here text e given place cause is (in_parts broken) = absurd (never_broken text e given place cause is broken)
fault_here text e given place cause is (in_strings f own at own_is faulty place_is) =
    let same = spelled_same text f e own given own_is is in
    record {
      at = at;
      faulty = subst (λ (g : List Placed). IsFaulty e (bytes_of g) at cause) same.1 (subst (λ (x : Escape). IsFaulty x (bytes_of own) at cause) same.0 faulty);
      place_is = place_is ∙ ap (λ (g : List Placed). place_of g at) same.1;
    }

fault_parts : (text : List ℕ) (p q : ℕ) (a b : Cause) → FaultyParts text p a → FaultyDirective text q b → (q ≡ p) × (b ≡ a)
fault_parts text p q a b is (in_parts broken) = parts_same text q p b a broken is
fault_parts text p q a b is (in_strings f own at own_is faulty place_is) = absurd (never_broken text f own p a own_is is)

-- ---- one answer

module _ (each : EachAnswer) (text : List ℕ) where
  some_answer : ((format : Shape) × SpellsDirective text format) ⊎ ((place : ℕ) × (cause : Cause) × FaultyDirective text place cause)
  some_answer = elim (parts_answer text) [
    | inl x ↦ elim ((each x.0 (bytes_of x.1)).some) [
      | inl f ↦ inl (f.0, record { escape = x.0; given = x.1; is = x.2; spells = f.1 })
      | inr f ↦ inr (place_of x.1 f.0, f.1, in_strings x.0 x.1 f.0 x.2 f.2 refl)
    ]
    | inr x ↦ inr (x.0, x.1, in_parts x.2)
  ]

  same_format : (a b : Shape) → SpellsDirective text a → SpellsDirective text b → a ≡ b
  same_format a b h k = (each h.escape (bytes_of h.given)).one_format a b h.spells (format_here text h.escape h.given b h.is k)

  same_fault : (p q : ℕ) (a b : Cause) → FaultyDirective text p a → FaultyDirective text q b → (p ≡ q) × (a ≡ b)
  same_fault p q a b (in_parts broken) k = let same = fault_parts text p q a b broken k in (sym same.0, sym same.1)
  same_fault p q a b (in_strings e given at is faulty place_is) k =
      let other = fault_here text e given q b is k in
      let same = (each e (bytes_of given)).one_fault at other.at a b faulty other.faulty in
      (place_is ∙ ap (place_of given) same.0 ∙ sym other.place_is, same.1)

  never_both : (format : Shape) (place : ℕ) (cause : Cause) → SpellsDirective text format → FaultyDirective text place cause → ⊥
  never_both format place cause h k =
      let other = fault_here text h.escape h.given place cause h.is k in
      (each h.escape (bytes_of h.given)).not_both format other.at cause h.spells other.faulty

  pub one_directive : HasOneDirectiveAnswer text
  one_directive = record { some = some_answer; one_format = same_format; one_fault = same_fault; not_both = never_both }

-- ---- what is answered

abbrev fault_place : {X : Type 0} → Result X FormatFault → ℕ
fault_place (Ok x) = 0
fault_place (Err (fault.At place cause)) = place
fault_place (Err fault.OutOfMemory) = 0

abbrev fault_cause : {X : Type 0} → Result X FormatFault → Cause
fault_cause (Ok x) = Unclosed
fault_cause (Err (fault.At place cause)) = cause
fault_cause (Err fault.OutOfMemory) = Unclosed

-- one with a fault in its parts
pub parts_faulty : (text : List ℕ) (f : FormatFault) (place : ℕ) (cause : Cause) → GivesSaid text (Err f) → ◌≡◌ {A = Result Shape FormatFault} (Err f) (Err (fault.At place cause)) → FaultyDirective text place cause
parts_faulty text f place cause is same = let one : f ≡ fault.At place cause = cc in in_parts (subst (λ (f : FormatFault). GivesSaid text (Err f)) one is)

pub parts_only_spelled : (text : List ℕ) (f : FormatFault) (format : Shape) → GivesSaid text (Err f) → SpellsDirective text format → AnswersFormat format (Err f)
parts_only_spelled text (fault.At p c) format is d = never_broken text d.escape d.given p c d.is is
parts_only_spelled text fault.OutOfMemory format is d = tt

pub parts_only_faulty : (text : List ℕ) (f : FormatFault) (place : ℕ) (cause : Cause) → GivesSaid text (Err f) → FaultyDirective text place cause → AnswersFault place cause (Err f)
parts_only_faulty text (fault.At p c) place cause is d = let same = fault_parts text p place c cause is d in (sym same.0, sym same.1)
parts_only_faulty text fault.OutOfMemory place cause is d = tt

-- one whose strings are these bytes
module _ (text : List ℕ) (e : Escape) (given : List Placed) (bytes : List ℕ) (is : IsSpelled text e given) (are : bytes ≡ bytes_of given) where
  pub joined_spelled : (format : Shape) → Spells e bytes format → SpellsDirective text format
  joined_spelled format h = record { escape = e; given = given; is = is; spells = subst (λ (b : List ℕ). Spells e b format) are h }

  pub joined_faulty : {X : Type 0} (at own : ℕ) (because : Cause) → own ≡ place_of given at → IsFaulty e bytes at because → (place : ℕ) (cause : Cause) → ◌≡◌ {A = Result X FormatFault} (Err (fault.At own because)) (Err (fault.At place cause)) → FaultyDirective text place cause
  joined_faulty at own because place_is h place cause same =
      let same_place : own ≡ place = ap fault_place same in
      let same_cause : because ≡ cause = ap fault_cause same in
      let here : IsFaulty e (bytes_of given) at because = subst (λ (b : List ℕ). IsFaulty e b at because) are h in
      in_strings e given at is (subst (λ (x : Cause). IsFaulty e (bytes_of given) at x) same_cause here) (sym same_place ∙ place_is)

  pub joined_only_spelled : (format : Shape) (result : Result Shape FormatFault) → (Spells e bytes format → AnswersFormat format result) → SpellsDirective text format → AnswersFormat format result
  joined_only_spelled format result answers d = answers (subst (λ (b : List ℕ). Spells e b format) (sym are) (format_here text e given format is d))

  pub joined_ok_faulty : (place : ℕ) (cause : Cause) (format : Shape) → ((at : ℕ) (cause : Cause) → IsFaulty e bytes at cause → AnswersFault at cause (Ok format)) → FaultyDirective text place cause → AnswersFault place cause (Ok format)
  joined_ok_faulty place cause format answers d =
      let other = fault_here text e given place cause is d in
      answers other.at cause (subst (λ (b : List ℕ). IsFaulty e b other.at cause) (sym are) other.faulty)

  pub joined_only_faulty : (at : ℕ) (because : Cause) (place : ℕ) (cause : Cause) (own : ℕ) → own ≡ place_of given at → ((p : ℕ) (c : Cause) → IsFaulty e bytes p c → AnswersFault p c (Err (fault.At at because))) → FaultyDirective text place cause → AnswersFault place cause (Err (fault.At own because))
  joined_only_faulty at because place cause own place_is answers d =
      let other = fault_here text e given place cause is d in
      let same = answers other.at cause (subst (λ (b : List ℕ). IsFaulty e b other.at cause) (sym are) other.faulty) in
      (place_is ∙ ap (place_of given) same.0 ∙ sym other.place_is, same.1)
