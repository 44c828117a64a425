-- A domain with a value that isn't taken for absence.
use Rattle.std.proofs.Common.{◌≡◌, ℕ, List, Bool, true, false, refl, sym, ap, subst, ◌∙◌, arith}
use Rattle.std.specs.Prelude.{ℤ, pos, ◌≤ℤ◌, IsTrue, ◌↔◌, FitsSigned}
use Rattle.std.proofs.Common.{of_z, to_z}
use Rattle.std.specs.Int.{w64}
use Rattle.std.specs.Int.Signed.{≤ℤ_refl}
use Rattle.std.proofs.lemmas.Int.{ints, to_z-of_z}
use Rattle.lf_core.specs.declared.values.Value.TheVariants.{Num, Text}
use Rattle.lf_core.specs.declared.values.Value.{Value}
use Rattle.lf_domain.specs.Texts.{IsSized}
use Rattle.lf_domain.specs.declared.text_set.TextSet.{TextSet}
use Rattle.lf_domain.specs.declared.query_text.QueryText.{QueryText}
use Rattle.lf_domain.specs.declared.words.Words.{Words}
use Rattle.lf_domain.specs.WordLists.{IsWordOf}
use Rattle.lf_format.specs.declared.kind.Kind.{Kind}
use Rattle.lf_format.specs.declared.kind.Kind.TheVariants as kind
use Rattle.lf_format.specs.declared.slot.Absent.{Absent}
use Rattle.lf_format.specs.declared.slot.Absent.TheVariants as absent
use Rattle.lf_format.specs.Kinds.{HoldsKind, plain_text}
use Rattle.lf_format.specs.Slots.{IsNotAbsence, HasPresent}
use Rattle.lf_format.specs.Absence.{prints_zero_as_dash}
use Rattle.lf_format.specs.HeldLaws.{query_present}
use Rattle.lf_format.specs.PlainTextLaws.{number-some, number-dash, zero-dash}

-- The number is the greatest that the domain may have.
abbrev pub IsTop : Kind → ℤ → Type 0
IsTop (kind.Num d) hi = d.hi ≡ hi
IsTop (kind.DashZero d) hi = d.hi ≡ hi
IsTop (kind.Fixed3 d) hi = d.hi ≡ hi
IsTop (kind.Padded d) hi = d.hi ≡ hi
IsTop k hi = ⊥

le-trans : (a b c : ℤ) → a ≤ℤ b → b ≤ℤ c → a ≤ℤ c
le-trans a b c p q = grind (arith, ints, p, q)

zero-least : (k : Kind) (n : ℤ) → prints_zero_as_dash k ≡ true → HoldsKind k (Num n) → pos 0 ≤ℤ n
zero-least (kind.DashZero d) n t h = le-trans (pos 0) d.lo n d.not_negative h.0
zero-least (kind.Num d) n t h = cc
zero-least (kind.Fixed3 d) n t h = cc
zero-least (kind.Padded d) n t h = cc
zero-least (kind.Words d) n t h = cc
zero-least (kind.Text d) n t h = cc
zero-least (kind.Query d) n t h = cc
zero-least (kind.Clf d) n t h = cc
zero-least (kind.Iso d) n t h = cc
zero-least (kind.IsoMillis d) n t h = cc
zero-least (kind.Ha d) n t h = cc
zero-least (kind.Date d) n t h = cc
zero-least (kind.Clock d) n t h = cc

only-zero : (n : ℤ) → pos 0 ≤ℤ n → n ≤ℤ pos 0 → n ≡ pos 0
only-zero n low high = grind (arith, ints, low, high)

top-not_absent : (k : Kind) (a : Absent) (quoted : Bool) (n hi : ℤ) → HoldsKind k (Num n) → HoldsKind k (Num hi) → n ≤ℤ hi → IsNotAbsence a quoted (plain_text k (Num n)) → IsNotAbsence a quoted (plain_text k (Num hi))
top-not_absent k absent.No quoted n hi h t le p = tt
top-not_absent k absent.DashTwo quoted n hi h t le p = tt
top-not_absent k absent.Blank quoted n hi h t le p = number-some k hi t
top-not_absent k absent.Dash true n hi h t le p = tt
top-not_absent k absent.Dash false n hi h t le p = λ e.
    let found = number-dash k hi t e in
    let same = only-zero n (zero-least k n found.0 h) (subst (λ (z : ℤ). n ≤ℤ z) found.1 le) in
    p (ap (λ (z : ℤ). plain_text k (Num z)) same ∙ zero-dash k found.0)

pub record HasTop (k : Kind) (a : Absent) (quoted : Bool) (hi : ℤ) : Type 0 where
  pub holds : HoldsKind k (Num hi)
  pub present : IsNotAbsence a quoted (plain_text k (Num hi))

top-of : (k : Kind) (a : Absent) (quoted : Bool) (n hi : ℤ) → IsTop k hi → HoldsKind k (Num n) → IsNotAbsence a quoted (plain_text k (Num n)) → HasTop k a quoted hi
top-of (kind.Num d) a quoted n hi is h p = let t = subst (λ (z : ℤ). HoldsKind (kind.Num d) (Num z)) is (le-trans d.lo n d.hi h.0 h.1, ≤ℤ_refl d.hi) in record { holds = t; present = top-not_absent (kind.Num d) a quoted n hi h t (subst (λ (z : ℤ). n ≤ℤ z) is h.1) p }
top-of (kind.DashZero d) a quoted n hi is h p = let t = subst (λ (z : ℤ). HoldsKind (kind.DashZero d) (Num z)) is (le-trans d.lo n d.hi h.0 h.1, ≤ℤ_refl d.hi) in record { holds = t; present = top-not_absent (kind.DashZero d) a quoted n hi h t (subst (λ (z : ℤ). n ≤ℤ z) is h.1) p }
top-of (kind.Fixed3 d) a quoted n hi is h p = let t = subst (λ (z : ℤ). HoldsKind (kind.Fixed3 d) (Num z)) is (le-trans d.lo n d.hi h.0 h.1, ≤ℤ_refl d.hi) in record { holds = t; present = top-not_absent (kind.Fixed3 d) a quoted n hi h t (subst (λ (z : ℤ). n ≤ℤ z) is h.1) p }
top-of (kind.Padded d) a quoted n hi is h p = let t = subst (λ (z : ℤ). HoldsKind (kind.Padded d) (Num z)) is (le-trans d.lo n d.hi h.0 h.1, ≤ℤ_refl d.hi) in record { holds = t; present = top-not_absent (kind.Padded d) a quoted n hi h t (subst (λ (z : ℤ). n ≤ℤ z) is h.1) p }
top-of k a quoted n hi is h p = absurd is

only-numbers : (k : Kind) (hi : ℤ) (v : Value) → IsTop k hi → HoldsKind k v → (n : ℤ) × (v ≡ Num n)
only-numbers k hi (Num n) is h = (n, refl)
only-numbers (kind.Num d) hi v is h = absurd h
only-numbers (kind.DashZero d) hi v is h = absurd h
only-numbers (kind.Fixed3 d) hi v is h = absurd h
only-numbers (kind.Padded d) hi v is h = absurd h
only-numbers k hi v is h = absurd is

-- A domain of numbers has a value that isn't taken for absence exactly where its greatest number is one.
pub top-decides : (k : Kind) (a : Absent) (quoted : Bool) (hi : ℤ) (test : Bool) → IsTop k hi → IsTrue test ↔ (HoldsKind k (Num hi) × IsNotAbsence a quoted (plain_text k (Num hi))) → IsTrue test ↔ HasPresent k a quoted
top-decides k a quoted hi test is tells = (
  (λ t. let top = tells.0 t in (Num hi, top.0, top.1)),
  (λ some.
      let found = only-numbers k hi some.0 is some.1 in
      let h = subst (HoldsKind k) found.1 some.1 in
      let p = subst (λ (v : Value). IsNotAbsence a quoted (plain_text k v)) found.1 some.2 in
      let top = top-of k a quoted found.0 hi is h p in
      tells.1 (top.holds, top.present)),
)

-- What is known of a bound that was read is known of the bound.
pub read-back : (k : Kind) (a : Absent) (quoted : Bool) (hi : ℤ) (test : Bool) → FitsSigned w64 hi → IsTrue test ↔ (HoldsKind k (Num (to_z w64 (of_z w64 hi))) × IsNotAbsence a quoted (plain_text k (Num (to_z w64 (of_z w64 hi))))) → IsTrue test ↔ (HoldsKind k (Num hi) × IsNotAbsence a quoted (plain_text k (Num hi)))
read-back k a quoted hi test fits tells = subst (λ (z : ℤ). IsTrue test ↔ (HoldsKind k (Num z) × IsNotAbsence a quoted (plain_text k (Num z)))) (to_z-of_z w64 hi fits) tells

-- A domain of texts, by the texts that it holds.
only-texts : (d : TextSet) (v : Value) → HoldsKind (kind.Text d) v → (text : List ℕ) × (v ≡ Text text)
only-texts d (Text text) h = (text, refl)
only-texts d v h = absurd h

pub texts-decide : (k : Kind) (d : TextSet) (a : Absent) (quoted : Bool) (test : Bool) → k ≡ kind.Text d → IsTrue test ↔ ((text : List ℕ) × IsSized d.class d.min d.max text × IsNotAbsence a quoted text) → IsTrue test ↔ HasPresent k a quoted
texts-decide k d a quoted test is tells = subst (λ (x : Kind). IsTrue test ↔ HasPresent x a quoted) (sym is) (
  (λ t. let some = tells.0 t in (Text some.0, some.1, some.2)),
  (λ some.
      let found = only-texts d some.0 some.1 in
      let h = subst (HoldsKind (kind.Text d)) found.1 some.1 in
      let p = subst (λ (v : Value). IsNotAbsence a quoted (plain_text (kind.Text d) v)) found.1 some.2 in
      tells.1 (found.0, h, p)),
)

only-words : (d : Words) (v : Value) → HoldsKind (kind.Words d) v → (text : List ℕ) × (v ≡ Text text)
only-words d (Text text) h = (text, refl)
only-words d v h = absurd h

pub words-decide : (k : Kind) (d : Words) (a : Absent) (quoted : Bool) (test : Bool) → k ≡ kind.Words d → IsTrue test ↔ ((text : List ℕ) × IsWordOf d.list text × IsNotAbsence a quoted text) → IsTrue test ↔ HasPresent k a quoted
words-decide k d a quoted test is tells = subst (λ (x : Kind). IsTrue test ↔ HasPresent x a quoted) (sym is) (
  (λ t. let some = tells.0 t in (Text some.0, some.1, some.2)),
  (λ some.
      let found = only-words d some.0 some.1 in
      let h = subst (HoldsKind (kind.Words d)) found.1 some.1 in
      let p = subst (λ (v : Value). IsNotAbsence a quoted (plain_text (kind.Words d) v)) found.1 some.2 in
      tells.1 (found.0, h, p)),
)

pub query-some : (k : Kind) (d : QueryText) (a : Absent) (quoted : Bool) → k ≡ kind.Query d → HasPresent k a quoted
query-some k d a quoted is = subst (λ (x : Kind). HasPresent x a quoted) (sym is) (query_present d a quoted)
