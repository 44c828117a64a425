-- Which values are coded letter by letter.
use Rattle.std.proofs.Common.{◌≡◌, ℕ, List, refl, ap, subst, ◌∙◌}
use Rattle.lf_core.specs.declared.values.Value.{Value}
use Rattle.lf_core.specs.declared.values.Value.TheVariants.{Text}
use Rattle.lf_format.specs.declared.kind.Kind.{Kind}
use Rattle.lf_format.specs.declared.kind.Kind.TheVariants as kind
use Rattle.lf_escape.specs.declared.coding.Coding.{Coding}
use Rattle.lf_escape.specs.declared.coding.Coding.TheVariants.{Raw}
use Rattle.lf_format.specs.Kinds.{HoldsKind, plain_text}
use Rattle.lf_format.specs.Keeps.{FitsCode}

held-text : (k : Kind) (t : List ℕ) → HoldsKind k (Text t) → plain_text k (Text t) ≡ t
held-text (kind.Num d) t h = absurd h
held-text (kind.DashZero d) t h = absurd h
held-text (kind.Fixed3 d) t h = absurd h
held-text (kind.Padded d) t h = absurd h
held-text (kind.Words d) t h = refl
held-text (kind.Text d) t h = refl
held-text (kind.Query d) t h = refl
held-text (kind.Clf d) t h = absurd h
held-text (kind.Iso d) t h = absurd h
held-text (kind.IsoMillis d) t h = absurd h
held-text (kind.Ha d) t h = absurd h
held-text (kind.Date d) t h = absurd h
held-text (kind.Clock d) t h = absurd h

-- A text that is held is its own plain text.
pub text-letters : (k : Kind) (v : Value) (t : List ℕ) → v ≡ Text t → HoldsKind k v → plain_text k v ≡ t
text-letters k v t is h = ap (plain_text k) is ∙ held-text k t (subst (HoldsKind k) is h)

-- Any other value is of a domain whose code is the plain one.
pub other-raw : (k : Kind) (code : Coding) (v : Value) → ((t : List ℕ) → v ≡ Text t → ⊥) → HoldsKind k v → FitsCode k code → code ≡ Raw
other-raw (kind.Num d) code v other h fits = fits
other-raw (kind.DashZero d) code v other h fits = fits
other-raw (kind.Fixed3 d) code v other h fits = fits
other-raw (kind.Padded d) code v other h fits = fits
other-raw (kind.Words d) code v other h fits = fits
other-raw (kind.Text d) code (Text t) other h fits = absurd (other t refl)
other-raw (kind.Text d) code v other h fits = absurd h
other-raw (kind.Query d) code (Text t) other h fits = absurd (other t refl)
other-raw (kind.Query d) code v other h fits = absurd h
other-raw (kind.Clf d) code v other h fits = fits
other-raw (kind.Iso d) code v other h fits = fits
other-raw (kind.IsoMillis d) code v other h fits = fits
other-raw (kind.Ha d) code v other h fits = fits
other-raw (kind.Date d) code v other h fits = fits
other-raw (kind.Clock d) code v other h fits = fits
