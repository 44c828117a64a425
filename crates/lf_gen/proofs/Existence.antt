-- A slot that holds some value has a least one.
use Rattle.std.proofs.Common.{◌≡◌, ◌≢◌, ℕ, zero, suc, ◌+◌, ◌-◌, ◌<◌, ◌*◌, ◌%◌, ◌^◌, ◌⊎◌, inl, inr, List, [], ◌∷◌, ◌++◌, Option, None, Some, Bool, true, false, cond, ◌==◌, ◌&&◌, ltb, not, Ordering, Less, Equal, Greater, refl, sym, ap, subst, ◌∙◌, arith, map, append_assoc, bit_and}
use Rattle.std.specs.Prelude.{neg_ℤ, pos}
use Rattle.std.specs.Int.{w128, bit_at, bit_not}
use Rattle.std.proofs.lemmas.Bool.{cases_Bool, cases_lt, false≢true, lt-ltb, cond-true, cond-false}
use Rattle.std.proofs.lemmas.Bool.Decides.{nat_tests}
use Rattle.std.proofs.lemmas.List.{append-nil}
use Rattle.std.proofs.lemmas.List.Elements.{Contains-push_cases}
use Rattle.std.proofs.Math.Numerals.{add-one}
use Rattle.lf_core.specs.Class.{is_member, is_letter}
use Rattle.lf_core.specs.declared.class.Class.{Class}
use Rattle.lf_core.specs.declared.values.Value.{Value}
use Rattle.lf_core.specs.declared.values.Value.TheVariants.{Missing, Text, Moment, Day, Clock}
use Rattle.lf_core.proofs.Bits.{clear_bit}
use Rattle.lf_escape.specs.Codings.{coding_takes}
use Rattle.lf_escape.specs.declared.coding.Coding.{Coding}
use Rattle.lf_format.specs.Keeps.{TakesPlain, KeepsSlot}
use Rattle.lf_format.specs.Slots.{Holds}
use Rattle.lf_format.specs.declared.kind.Kind.{Kind}
use Rattle.lf_format.specs.declared.kind.Kind.TheVariants as kind
use Rattle.lf_format.specs.declared.slot.Slot.{Slot}
use Rattle.lf_format.proofs.Deciding.{holds_decided}
use Rattle.lf_gen.specs.Compared.{key_of, key_cmp, IsLeastOf, AreEnough}
use Rattle.lf_gen.specs.First.{AreFirst, first_moment, number_values}
use Rattle.lf_gen.specs.Least.{IsLeastValue}
use Rattle.lf_gen.specs.Letters.{IsCoded, letter_cmp, IsLeastLetter}
use Rattle.lf_gen.proofs.Choosing.{skip-letter, first-letter, take-letter, keep-letter, first-value, take-value, keep-value}
use Rattle.lf_gen.proofs.LeastOfAll.{least-of_all, least-there}
use Rattle.lf_gen.proofs.Lifted.{first-enough}
use Rattle.lf_gen.proofs.NumberFirst.{num-first, dash_zero-first, fixed3-first, padded-first}
use Rattle.lf_gen.proofs.TextOrder.{IsWithout, text_values, text-first, words-first, query-first}
use Rattle.lf_gen.proofs.TimeFirst.{clf-first, ha-first, iso-first, millis-first, date-first, clock-first}

less-cases : (o : Ordering) → (o ≡ Less) ⊎ (o ≢ Less)
less-cases Less = inl refl
less-cases Equal = inr (λ e. cc)
less-cases Greater = inr (λ e. cc)

-- ---- the least letter

abbrev SomeLetter : Coding → Class → ℕ → Type 0
SomeLetter code set bound = (least : Option ℕ) × IsLeastLetter code set bound least

with_letter : (code : Coding) (set : Class) (b : ℕ) (least : Option ℕ) → IsCoded code set b → IsLeastLetter code set b least → SomeLetter code set (b + 1)
with_letter code set b None is h = (Some b, first-letter code set b is h)
with_letter code set b (Some other) is h = elim (less-cases (letter_cmp code b other)) [
  | inl lower ↦ (Some b, take-letter code set b other is lower h)
  | inr never ↦ (Some other, keep-letter code set b other never h)
]

one_letter_more : (code : Coding) (set : Class) (b : ℕ) → SomeLetter code set b → SomeLetter code set (b + 1)
one_letter_more code set b below = elim (cases_Bool (is_letter set b)) [
  | inr out ↦ (below.0, skip-letter code set b below.0 (λ is. false≢true (sym out ∙ is.0)) below.1)
  | inl inside ↦ elim (cases_Bool (coding_takes code b)) [
    | inr refused ↦ (below.0, skip-letter code set b below.0 (λ is. false≢true (sym refused ∙ is.1)) below.1)
    | inl taken ↦ with_letter code set b below.0 (inside, taken) below.1
  ]
]

some_letter : (code : Coding) (set : Class) (bound : ℕ) → SomeLetter code set bound
some_letter code set zero = (None, λ letter less. absurd (omega (arith, less)))
some_letter code set (suc b) = subst (SomeLetter code set) (add-one b) (one_letter_more code set b (some_letter code set b))

-- ---- the class without the dash

abbrev without_dash : Class → Class
without_dash set = record { low = bit_and set.low (bit_not w128 (1 * 2 ^ 45 % 2 ^ 128)); high = set.high }

and-not : (e m : Bool) → cond e false m ≡ (m && not e)
and-not true true = refl
and-not true false = refl
and-not false true = refl
and-not false false = refl

is-without : (set : Class) → IsWithout (without_dash set) set
is-without set x small = elim (cases_lt x 128) [
  | inl low ↦
      let t : ltb x 128 ≡ true = lt-ltb x 128 low in
      cond-true (ltb x 128) _ _ t
      ∙ clear_bit set.low 45 x (omega arith) low
      ∙ and-not (x == 45) (bit_at set.low x == 1)
      ∙ ap (λ (m : Bool). m && not (x == 45)) (sym (cond-true (ltb x 128) _ _ t))
  | inr high ↦
      let f : ltb x 128 ≡ false = grind (arith, nat_tests, high) in
      let other : (x == 45) ≡ false = grind (arith, nat_tests, high) in
      cond-false (ltb x 128) _ _ f
      ∙ sym (cond-false (ltb x 128) _ _ f)
      ∙ ap (λ (e : Bool). cond e false (is_member set x)) (sym other)
      ∙ and-not (x == 45) (is_member set x)
]

-- ---- the values of a kind of which one is printed first

some_first : (k : Kind) (code : Coding) → TakesPlain k code → (values : List Value) × AreFirst k code values
some_first (kind.Num d) code takes = (number_values d.lo d.hi, num-first code d)
some_first (kind.DashZero d) code takes = (number_values d.lo d.hi, dash_zero-first code d)
some_first (kind.Fixed3 d) code takes = (number_values d.lo d.hi, fixed3-first code d)
some_first (kind.Padded d) code takes = (number_values d.lo d.hi, padded-first code d)
some_first (kind.Words d) code takes = (map Text d.list, words-first code d)
some_first (kind.Text d) code takes =
    let least = some_letter code d.class 256 in
    let other = some_letter code (without_dash d.class) 256 in
    (text_values least.0 other.0 d.min, text-first code d takes (without_dash d.class) (is-without d.class) least.0 other.0 least.1 other.1)
some_first (kind.Query d) code takes = (Text [] ∷ Text (63 ∷ []) ∷ [], query-first code d)
some_first (kind.Clf d) code takes = (Moment (first_moment (neg_ℤ (pos 62127820800))) ∷ [], clf-first code d)
some_first (kind.Iso d) code takes = (Moment (first_moment (neg_ℤ (pos 62135596800))) ∷ [], iso-first code d)
some_first (kind.IsoMillis d) code takes = (Moment (first_moment (neg_ℤ (pos 62135596800))) ∷ [], millis-first code d)
some_first (kind.Ha d) code takes = (Moment (first_moment (neg_ℤ (pos 62127820800))) ∷ [], ha-first code d)
some_first (kind.Date d) code takes = (Day (neg_ℤ (pos 719162)) ∷ [], date-first code d)
some_first (kind.Clock d) code takes = (Clock 0 ∷ [], clock-first code d)

-- ---- the least of some values

abbrev SomeLeast : Slot → List Value → Type 0
SomeLeast slot values = (least : Option Value) × IsLeastOf slot values least

with_value : (slot : Slot) (value : Value) (values : List Value) (least : Option Value) → Holds slot value → IsLeastOf slot values least → SomeLeast slot (values ++ value ∷ [])
with_value slot value values None is h = (Some value, first-value slot value values is h)
with_value slot value values (Some other) is h = elim (less-cases (key_cmp (key_of slot value) (key_of slot other))) [
  | inl lower ↦ (Some value, take-value slot value values other is lower h)
  | inr never ↦ (Some other, keep-value slot value values other never h)
]

skip_value : (slot : Slot) (value : Value) (values : List Value) (least : Option Value) → (Holds slot value → ⊥) → IsLeastOf slot values least → IsLeastOf slot (values ++ value ∷ []) least
skip_value slot value values None never h = λ v listed held. elim (Contains-push_cases values value v listed) [
  | inl before ↦ h v before held
  | inr same ↦ never (subst (Holds slot) (sym same) held)
]
skip_value slot value values (Some other) never h = (
  h.0,
  λ v listed held. elim (Contains-push_cases values value v listed) [
    | inl before ↦ h.1 v before held
    | inr same ↦ absurd (never (subst (Holds slot) (sym same) held))
  ],
)

one_value_more : (slot : Slot) (value : Value) (values : List Value) → SomeLeast slot values → SomeLeast slot (values ++ value ∷ [])
one_value_more slot value values below = elim (holds_decided slot value) [
  | inl is ↦ with_value slot value values below.0 is below.1
  | inr never ↦ (below.0, skip_value slot value values below.0 never below.1)
]

least_after : (slot : Slot) (front values : List Value) → SomeLeast slot front → SomeLeast slot (front ++ values)
least_after slot front [] below = subst (SomeLeast slot) (sym (append-nil front)) below
least_after slot front (v ∷ values) below =
    subst (SomeLeast slot) (append_assoc front (v ∷ []) values) (least_after slot (front ++ v ∷ []) values (one_value_more slot v front below))

some_least : (slot : Slot) (values : List Value) → SomeLeast slot values
some_least slot values = least_after slot [] values (None, λ v listed held. absurd (omega (arith, listed.1)))

least_where : (slot : Slot) (values : List Value) (least : Option Value) → KeepsSlot slot → AreEnough slot values → IsLeastOf slot values least → (v : Value) × IsLeastValue slot v
least_where slot values None kept enough h = absurd (least-there slot values enough kept.some.0 kept.some.1 h)
least_where slot values (Some v) kept enough h = (v, least-of_all slot values v enough h)

-- A slot of a format has a least value.
pub some_least_value : (slot : Slot) → KeepsSlot slot → (v : Value) × IsLeastValue slot v
some_least_value slot kept =
    let first = some_first slot.kind slot.code kept.takes in
    let values = first.0 ++ Missing ∷ [] in
    let least = some_least slot values in
    least_where slot values least.0 kept (first-enough slot first.0 first.1) least.1
