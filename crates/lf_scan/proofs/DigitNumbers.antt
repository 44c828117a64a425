-- Numbers that are read by their digits.
use Rattle.std.proofs.Common.{◌≡◌, ℕ, List, ◌++◌, refl, sym, ap, subst, ◌∙◌}
use Rattle.std.specs.Prelude.{ℤ, ◌≤ℤ◌}
use Rattle.lf_core.specs.declared.values.Value.TheVariants.{Num}
use Rattle.lf_digits.specs.Reads.{ReadsNumber}
use Rattle.lf_escape.specs.declared.coding.Coding.TheVariants as coding
use Rattle.lf_format.specs.declared.kind.Kind.{Kind}
use Rattle.lf_format.specs.Kinds.{HoldsKind, plain_text}
use Rattle.lf_format.proofs.Coded.{raw-coded}
use Rattle.lf_number.specs.Numbers.{IsBetween}
use Rattle.lf_scan.specs.Reads.{ReadsKind}

-- A number of a domain is read.
pub reads-number : (kind : Kind) (text_of : ℤ → List ℕ) (lo hi low high : ℤ) (text left old new : List ℕ) → low ≡ lo → high ≡ hi → ((n : ℤ) → IsBetween lo hi n → HoldsKind kind (Num n))
    → ((n : ℤ) → plain_text kind (Num n) ≡ text_of n) → ReadsNumber text_of low high text left old new → ReadsKind kind coding.Raw text left old new
reads-number kind text_of lo hi low high text left old new e f holds plain r =
    let n = r.number in
    record {
      value = Num r.number;
      held = holds n (subst (λ (l : ℤ). l ≤ℤ n) e r.between.0, subst (λ (h : ℤ). n ≤ℤ h) f r.between.1);
      written = r.written ∙ ap (λ (s : List ℕ). s ++ left) (sym (raw-coded coding.Raw (plain_text kind (Num r.number)) refl ∙ plain r.number));
      added = r.added;
    }
