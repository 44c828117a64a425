-- A JSON value stands for at most one value of a kind, and whether it does can be decided.
use Rattle.std.proofs.Common.{◌≡◌, ℕ, List, Option, Some, None, refl, sym, ap, ◌∙◌, ◌⊎◌, inl, inr}
use Rattle.std.specs.Prelude.{option_map}
use Rattle.std.proofs.lemmas.Bool.{cases_Bool}
use Rattle.serde_json.specs.Data.{Data, null, string}
use Rattle.lf_core.specs.Domain.{LetterMachine, IsDomain, IsPlainOf, accepts}
use Rattle.lf_core.specs.declared.values.Value.{Value}
use Rattle.lf_core.specs.declared.values.Value.TheVariants.{Missing, Num, Text}
use Rattle.lf_layout.specs.DomainLaws.{moment_laws, day_laws, clock_laws}
use Rattle.lf_time.specs.TimeLayouts.{json_layout}
use Rattle.lf_time.specs.TimeLaws.{json_placed}
use Rattle.lf_format.specs.declared.kind.ValueKind.{ValueKind}
use Rattle.lf_format.specs.declared.kind.ValueKind.TheVariants as kind
use Rattle.lf_json.specs.Reading.{number_of, text_of, HasNone, IsStringOf, StandsForPresent, StandsForValue}

-- There is such a value, or there is none.
abbrev pub SomeOrNone : (Value → Type 0) → Type 0
SomeOrNone P = ((v : Value) × P v) ⊎ HasNone P

module _ (holds : Value → Type 0) (text : Value → List ℕ) (machine : LetterMachine) (size : ℕ) (is : IsDomain holds text machine size) where
  string-same : (json : Data) (v w : Value) → IsStringOf holds text json v → IsStringOf holds text json w → v ≡ w
  string-same (string letters) v w a b = is.distinct v w a.0 b.0 (a.1 ∙ sym b.1)
  string-same json v w a b = absurd a

  text_decided : (letters : List ℕ) → SomeOrNone (IsPlainOf holds text letters)
  text_decided letters = elim (cases_Bool (accepts machine.next machine.is_end machine.first letters)) [
    | inl t ↦ let found = is.sound letters t in inl (found.0, (found.1, found.2))
    | inr f ↦ inr (λ v h. let t = ap (accepts machine.next machine.is_end machine.first) (sym h.1) ∙ is.complete v h.0 in absurd (cc))
  ]

  string_decided : (json : Data) → SomeOrNone (IsStringOf holds text json)
  string_decided (string letters) = text_decided letters
  string_decided json = inr (λ v h. h)

option-same : (found : Option Value) (v w : Value) → found ≡ Some v → found ≡ Some w → v ≡ w
option-same found v w a b = let e : Some v ≡ Some w = sym a ∙ b in cc

option_decided : (found : Option Value) → SomeOrNone (λ v. found ≡ Some v)
option_decided None = inr (λ v e. cc)
option_decided (Some v) = inl (v, refl)

present-same : (sort : ValueKind) (json : Data) (v w : Value) → StandsForPresent sort json v → StandsForPresent sort json w → v ≡ w
present-same kind.Number json v w a b = option-same (option_map Num (number_of json)) v w a b
present-same kind.Text json v w a b = option-same (option_map Text (text_of json)) v w a b
present-same kind.Moment json v w a b = string-same _ _ _ _ (moment_laws json_layout json_placed) json v w a b
present-same kind.Day json v w a b = string-same _ _ _ _ day_laws json v w a b
present-same kind.Clock json v w a b = string-same _ _ _ _ clock_laws json v w a b

pub value-same : (sort : ValueKind) (json : Data) (v w : Value) → StandsForValue sort json v → StandsForValue sort json w → v ≡ w
value-same sort null v w a b = a ∙ sym b
value-same sort json v w a b = present-same sort json v w a b

present_decided : (sort : ValueKind) (json : Data) → SomeOrNone (StandsForPresent sort json)
present_decided kind.Number json = option_decided (option_map Num (number_of json))
present_decided kind.Text json = option_decided (option_map Text (text_of json))
present_decided kind.Moment json = string_decided _ _ _ _ (moment_laws json_layout json_placed) json
present_decided kind.Day json = string_decided _ _ _ _ day_laws json
present_decided kind.Clock json = string_decided _ _ _ _ clock_laws json

pub value_decided : (sort : ValueKind) (json : Data) → SomeOrNone (StandsForValue sort json)
value_decided sort null = inl (Missing, refl)
value_decided sort json = present_decided sort json
