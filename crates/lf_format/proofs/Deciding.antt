-- Whether a slot holds a value can be decided.
use Rattle.std.proofs.Common.{◌≡◌, ◌≢◌, ℕ, zero, suc, ◌<◌, ◌≤◌, Bool, true, false, List, [], ◌∷◌, length, refl, sym, ◌∙◌, arith, subst, ◌⊎◌, inl, inr}
use lib.Signed.{le_z, le_z_yes}
use Rattle.std.specs.Prelude.{T, Option, Some, None, ℤ, pos, negsuc, neg_ℤ, ◌≤ℤ◌, IfSome, Contains, All}
use Rattle.std.specs.Bool.{OnFalse}
use Rattle.std.proofs.lemmas.Bool.{cases_Bool, cases_lt, cases_eq, false≢true}
use Rattle.std.proofs.lemmas.List.Elements.{All-nil, All-cons, All-head, All-tail}
use Rattle.lf_core.specs.Class.{is_letter}
use Rattle.lf_core.specs.declared.class.Class.{Class}
use Rattle.lf_core.specs.declared.values.Value.{Value}
use Rattle.lf_core.specs.declared.values.Value.TheVariants.{Missing, Num, Text, Moment as a_moment, Day as a_day, Clock as a_clock}
use Rattle.lf_core.specs.declared.values.Moment.{Moment}
use Rattle.lf_layout.specs.Calendar.{IsDay}
use Rattle.lf_layout.specs.Layouts.{IsMoment, IsShown, writes_offset}
use Rattle.lf_layout.specs.declared.layout.Layout.{Layout}
use Rattle.lf_time.specs.TimeLayouts.{clf_layout, iso_offset_layout, iso_millis_layout, ha_layout}
use Rattle.lf_domain.specs.Texts.{AllIn, IsSized, IsQuery}
use Rattle.lf_domain.specs.WordLists.{is_word}
use Rattle.lf_domain.specs.WordLaws.{contained_word, word_contained}
use Rattle.lf_format.specs.declared.kind.Kind.{Kind}
use Rattle.lf_format.specs.declared.kind.Kind.TheVariants as kind
use Rattle.lf_format.specs.declared.slot.Absent.{Absent}
use Rattle.lf_format.specs.declared.slot.Absent.TheVariants as absent
use Rattle.lf_format.specs.declared.slot.Slot.{Slot}
use Rattle.lf_format.specs.Kinds.{HoldsKind, plain_text}
use Rattle.lf_format.specs.Slots.{IsNotAbsence, Holds, holds_missing}

abbrev pub Decided : Type 0 → Type 0
Decided P = P ⊎ (P → ⊥)

pub both-decided : {P Q : Type 0} → Decided P → Decided Q → Decided (P × Q)
both-decided (inl p) (inl q) = inl (p, q)
both-decided (inl p) (inr q) = inr (λ h. q h.1)
both-decided (inr p) q = inr (λ h. p h.0)

bool-decided : (b : Bool) → Decided (b ≡ true)
bool-decided true = inl refl
bool-decided false = inr (λ e. cc)

not-decided : {P : Type 0} → Decided P → Decided (P → ⊥)
not-decided (inl p) = inr (λ h. h p)
not-decided (inr p) = inl p

le-decided : (a b : ℤ) → Decided (a ≤ℤ b)
le-decided a b = elim (cases_Bool (le_z a b)) [ inl t ↦ inl (le_z_yes (subst T (sym t) tt)) | inr f ↦ inr (λ h. subst T f h.le) ]

all-decided : (set : Class) (text : List ℕ) → Decided (AllIn set text)
all-decided set [] = inl (All-nil (λ letter. is_letter set letter ≡ true))
all-decided set (b ∷ text) = elim (bool-decided (is_letter set b)) [
  | inr none ↦ inr (λ h. none (All-head (λ letter. is_letter set letter ≡ true) b text h))
  | inl is ↦ elim (all-decided set text) [
    | inl rest ↦ inl (All-cons (λ letter. is_letter set letter ≡ true) b text is rest)
    | inr none ↦ inr (λ h. none (All-tail (λ letter. is_letter set letter ≡ true) b text h))
  ]
]

nat-decided : (a b : ℕ) → Decided (a ≤ b)
nat-decided a b = elim (cases_lt b a) [ inl less ↦ inr (λ h. omega (arith, h, less)) | inr most ↦ inl (omega (arith, most)) ]

less-decided : (a b : ℕ) → Decided (a < b)
less-decided a b = elim (cases_lt a b) [ inl less ↦ inl less | inr most ↦ inr (λ h. omega (arith, h, most)) ]

zero-decided : (n : ℕ) → Decided (n ≡ 0)
zero-decided n = elim (cases_eq n 0) [ inl is ↦ inl is | inr other ↦ inr other ]

none-decided : (z : ℤ) → Decided (z ≡ pos 0)
none-decided (pos zero) = inl refl
none-decided (pos (suc n)) = inr (λ e. cc)
none-decided (negsuc n) = inr (λ e. cc)

most-decided : (most : Option ℕ) (n : ℕ) → Decided (IfSome most (λ top. n ≤ top))
most-decided None n = inl tt
most-decided (Some top) n = nat-decided n top

sized-decided : (set : Class) (least : ℕ) (most : Option ℕ) (text : List ℕ) → Decided (IsSized set least most text)
sized-decided set least most text = elim (all-decided set text) [
  | inr none ↦ inr (λ h. none h.0)
  | inl all ↦ elim (nat-decided least (length text)) [
    | inr none ↦ inr (λ h. none h.1)
    | inl more ↦ elim (most-decided most (length text)) [ inl fits ↦ inl (all, more, fits) | inr none ↦ inr (λ h. none h.2) ]
  ]
]

query-decided : (set : Class) (text : List ℕ) → Decided (IsQuery set text)
query-decided set [] = inl tt
query-decided set (mark ∷ letters) = elim (cases_eq mark 63) [
  | inr other ↦ inr (λ h. other h.0)
  | inl is ↦ elim (all-decided set letters) [ inl all ↦ inl (is, all) | inr none ↦ inr (λ h. none h.1) ]
]

bytes-decided : (text : List ℕ) → Decided (All (λ letter. letter < 256) text)
bytes-decided [] = inl (All-nil (λ letter. letter < 256))
bytes-decided (b ∷ text) = elim (cases_lt b 256) [
  | inr none ↦ inr (λ h. let is = All-head (λ letter. letter < 256) b text h in omega (arith, is, none))
  | inl is ↦ elim (bytes-decided text) [
    | inl rest ↦ inl (All-cons (λ letter. letter < 256) b text is rest)
    | inr none ↦ inr (λ h. none (All-tail (λ letter. letter < 256) b text h))
  ]
]

pub texts-cases : (a b : List ℕ) → (a ≡ b) ⊎ (a ≢ b)
texts-cases [] [] = inl refl
texts-cases [] (b ∷ bs) = inr (λ e. cc)
texts-cases (a ∷ xs) [] = inr (λ e. cc)
texts-cases (a ∷ xs) (b ∷ bs) = elim (cases_eq a b) [
  | inr other ↦ inr (λ e. other (cc))
  | inl same ↦ elim (texts-cases xs bs) [ inl rest ↦ inl (cc) | inr other ↦ inr (λ e. other (cc)) ]
]

contains-decided : (words : List (List ℕ)) (text : List ℕ) → Decided (Contains words text)
contains-decided words text = elim (cases_Bool (is_word words text)) [
  | inl is ↦ inl (contained_word words text is)
  | inr other ↦ inr (λ h. false≢true (sym other ∙ word_contained words text h))
]

false-decided : {P : Type 0} (b : Bool) → Decided P → Decided (OnFalse b P)
false-decided true p = inl tt
false-decided false p = p

moment-decided : (m : Moment) → Decided (IsMoment m)
moment-decided m = elim (le-decided (neg_ℤ (pos 62135596800)) m.seconds) [
  | inr none ↦ inr (λ h. none h.0)
  | inl least ↦ elim (le-decided m.seconds (pos 253402300799)) [
    | inr none ↦ inr (λ h. none h.1)
    | inl most ↦ elim (nat-decided m.millis 999) [
      | inr none ↦ inr (λ h. none h.2)
      | inl millis ↦ elim (le-decided (neg_ℤ (pos 1439)) m.offset) [
        | inr none ↦ inr (λ h. none h.3)
        | inl west ↦ elim (le-decided m.offset (pos 1439)) [ inl east ↦ inl (least, most, millis, west, east) | inr none ↦ inr (λ h. none h.4) ]
      ]
    ]
  ]
]

shown-decided : (layout : Layout) (m : Moment) → Decided (IsShown layout m)
shown-decided layout m = elim (moment-decided m) [
  | inr none ↦ inr (λ h. none h.0)
  | inl is ↦ elim (false-decided layout.millis (zero-decided m.millis)) [
    | inr none ↦ inr (λ h. none h.1)
    | inl millis ↦ elim (false-decided (writes_offset layout.zone) (none-decided m.offset)) [ inl offset ↦ inl (is, millis, offset) | inr none ↦ inr (λ h. none h.2) ]
  ]
]

day-decided : (day : ℤ) → Decided (IsDay day)
day-decided day = both-decided (le-decided (neg_ℤ (pos 719162)) day) (le-decided day (pos 2932896))

held-decided : (k : Kind) (v : Value) → Decided (HoldsKind k v)
held-decided (kind.Num d) (Num n) = both-decided (le-decided d.lo n) (le-decided n d.hi)
held-decided (kind.DashZero d) (Num n) = both-decided (le-decided d.lo n) (le-decided n d.hi)
held-decided (kind.Fixed3 d) (Num n) = both-decided (le-decided d.lo n) (le-decided n d.hi)
held-decided (kind.Padded d) (Num n) = both-decided (le-decided d.lo n) (le-decided n d.hi)
held-decided (kind.Words d) (Text t) = both-decided (contains-decided d.list t) (bytes-decided t)
held-decided (kind.Text d) (Text t) = sized-decided d.class d.min d.max t
held-decided (kind.Query d) (Text t) = query-decided d.class t
held-decided (kind.Clf d) (a_moment m) = shown-decided (clf_layout d.bracketed) m
held-decided (kind.Iso d) (a_moment m) = shown-decided iso_offset_layout m
held-decided (kind.IsoMillis d) (a_moment m) = shown-decided iso_millis_layout m
held-decided (kind.Ha d) (a_moment m) = shown-decided ha_layout m
held-decided (kind.Date d) (a_day day) = day-decided day
held-decided (kind.Clock d) (a_clock second) = less-decided second 86400
held-decided (kind.Num d) v = inr (λ h. h)
held-decided (kind.DashZero d) v = inr (λ h. h)
held-decided (kind.Fixed3 d) v = inr (λ h. h)
held-decided (kind.Padded d) v = inr (λ h. h)
held-decided (kind.Words d) v = inr (λ h. h)
held-decided (kind.Text d) v = inr (λ h. h)
held-decided (kind.Query d) v = inr (λ h. h)
held-decided (kind.Clf d) v = inr (λ h. h)
held-decided (kind.Iso d) v = inr (λ h. h)
held-decided (kind.IsoMillis d) v = inr (λ h. h)
held-decided (kind.Ha d) v = inr (λ h. h)
held-decided (kind.Date d) v = inr (λ h. h)
held-decided (kind.Clock d) v = inr (λ h. h)

present-decided : (a : Absent) (quoted : Bool) (text : List ℕ) → Decided (IsNotAbsence a quoted text)
present-decided absent.No quoted text = inl tt
present-decided absent.DashTwo quoted text = inl tt
present-decided absent.Dash true text = inl tt
present-decided absent.Dash false text = not-decided (texts-cases text (45 ∷ []))
present-decided absent.Blank quoted text = not-decided (texts-cases text [])

-- Whether the slot holds the value.
pub holds_decided : (slot : Slot) (v : Value) → Decided (Holds slot v)
holds_decided slot Missing = bool-decided (holds_missing slot.absent slot.present)
holds_decided slot v = both-decided (held-decided slot.kind v) (present-decided slot.absent slot.quoted (plain_text slot.kind v))
