-- What a rule allows, and what it makes of a slot.
use Rattle.std.specs.Prelude.{◌≡◌, ℕ, ◌≤◌, Bool, true, List, [], ◌∷◌, length, All, Option, None, Some, IfSome}
use Rattle.lf_core.specs.declared.values.Value.{Value}
use Rattle.lf_core.specs.declared.values.Value.TheVariants as value
use Rattle.lf_number.specs.Numbers.{IsBetween}
use Rattle.lf_format.specs.declared.kind.Kind.{Kind}
use Rattle.lf_format.specs.declared.kind.Kind.TheVariants as kind
use Rattle.lf_format.specs.declared.slot.Slot.{Slot}
use Rattle.lf_narrow.specs.Classes.{passing}
use Rattle.lf_narrow.specs.Terms.{Rule, letters, lengths, range, present}
use Rattle.lf_narrow.specs.Bounds.{met_letters, met_lengths, met_numbers, met_dashed, met_thousandths, met_padded}

-- The letters all pass the test.
abbrev pub AllPass : (ℕ → Bool) → List ℕ → Type 0
AllPass test text = All (λ letter. test letter ≡ true) text

-- The rule allows the value in a slot of this domain. A query's question mark is no letter, and only `present` speaks of a missing value.
abbrev pub Allows : Rule → Kind → Value → Type 0
Allows (letters test) (kind.Query d) (value.Text []) = Unit {0}
Allows (letters test) (kind.Query d) (value.Text (mark ∷ text)) = AllPass test text
Allows (letters test) k (value.Text text) = AllPass test text
Allows (lengths least most) k (value.Text text) = (least ≤ length text) × IfSome most (λ top. length text ≤ top)
Allows (range lo hi) k (value.Num n) = IsBetween lo hi n
Allows present k value.Missing = ⊥
Allows rule k v = Unit {0}

-- the domain that the rule leaves, where it acts on the domain
abbrev pub narrowed_kind : Rule → Kind → Option Kind
narrowed_kind (letters test) (kind.Text d) = Some (kind.Text (met_letters test d))
narrowed_kind (letters test) (kind.Query d) = Some (kind.Query (record { class = passing test d.class }))
narrowed_kind (lengths least most) (kind.Text d) = Some (kind.Text (met_lengths least most d))
narrowed_kind (range lo hi) (kind.Num d) = Some (kind.Num (met_numbers lo hi d))
narrowed_kind (range lo hi) (kind.DashZero d) = Some (kind.DashZero (met_dashed lo hi d))
narrowed_kind (range lo hi) (kind.Fixed3 d) = Some (kind.Fixed3 (met_thousandths lo hi d))
narrowed_kind (range lo hi) (kind.Padded d) = Some (kind.Padded (met_padded lo hi d))
narrowed_kind rule k = None

-- the slot with this domain, where there is one
abbrev pub with_kind : Slot → Option Kind → Option Slot
with_kind slot None = None
with_kind slot (Some k) = Some (record slot { kind = k })

-- the slot that the rule leaves, where it acts on the slot's domain
abbrev pub narrowed_slot : Rule → Slot → Option Slot
narrowed_slot present slot = Some (record slot { present = true })
narrowed_slot rule slot = with_kind slot (narrowed_kind rule slot.kind)
