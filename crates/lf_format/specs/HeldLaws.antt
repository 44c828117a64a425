-- What a slot holds, in parts.
use Rattle.std.proofs.Common.{◌≡◌, Bool, true, false, [], ◌∷◌, refl}
use Rattle.std.proofs.lemmas.List.Elements.{All-nil}
use Rattle.lf_core.specs.Class.{is_letter}
use Rattle.lf_domain.specs.declared.query_text.QueryText.{QueryText}
use Rattle.lf_format.specs.declared.slot.Absent.{Absent}
use Rattle.lf_format.specs.declared.slot.Absent.TheVariants as absent
use Rattle.lf_core.specs.declared.values.Value.{Value}
use Rattle.lf_core.specs.declared.values.Value.TheVariants.{Missing, Text}
use Rattle.lf_format.specs.declared.kind.Kind.{Kind}
use Rattle.lf_format.specs.declared.kind.Kind.TheVariants as kind
use Rattle.lf_format.specs.declared.slot.Slot.{Slot}
use Rattle.lf_format.specs.Kinds.{HoldsKind, plain_text}
use Rattle.lf_format.specs.Slots.{Holds, IsNotAbsence, HasPresent}

-- The value isn't `Missing`.
abbrev pub IsPresent : Value → Type 0
IsPresent Missing = ⊥
IsPresent v = Unit {0}

pub held-present : (k : Kind) (v : Value) → HoldsKind k v → IsPresent v
held-present (kind.Num d) Missing h = h
held-present (kind.DashZero d) Missing h = h
held-present (kind.Fixed3 d) Missing h = h
held-present (kind.Padded d) Missing h = h
held-present (kind.Words d) Missing h = h
held-present (kind.Text d) Missing h = h
held-present (kind.Query d) Missing h = h
held-present (kind.Clf d) Missing h = h
held-present (kind.Iso d) Missing h = h
held-present (kind.IsoMillis d) Missing h = h
held-present (kind.Ha d) Missing h = h
held-present (kind.Date d) Missing h = h
held-present (kind.Clock d) Missing h = h
held-present k v h = tt

pub parts-hold : (slot : Slot) (v : Value) → IsPresent v → HoldsKind slot.kind v → IsNotAbsence slot.absent slot.quoted (plain_text slot.kind v) → Holds slot v
parts-hold slot Missing p h n = absurd p
parts-hold slot v p h n = (h, n)

-- A query text that isn't taken for absence: nothing, or the question mark.
pub query_present : (d : QueryText) (a : Absent) (quoted : Bool) → HasPresent (kind.Query d) a quoted
query_present d absent.No quoted = (Text [], tt, tt)
query_present d absent.DashTwo quoted = (Text [], tt, tt)
query_present d absent.Dash true = (Text [], tt, tt)
query_present d absent.Dash false = (Text [], tt, λ e. cc)
query_present d absent.Blank quoted = (Text (63 ∷ []), (refl, All-nil (λ letter. is_letter d.class letter ≡ true)), λ e. cc)
