-- Texts that a domain reads.
use Rattle.std.proofs.Common.{◌≡◌, List, ℕ, ◌++◌, sym, ap, ◌∙◌}
use Rattle.lf_core.specs.declared.values.Value.{Value}
use Rattle.lf_escape.specs.declared.coding.Coding.{Coding}
use Rattle.lf_escape.specs.declared.coding.Coding.TheVariants as coding
use Rattle.lf_format.specs.Kinds.{HoldsKind, plain_text}
use Rattle.lf_format.specs.declared.kind.Kind.{Kind}
use Rattle.lf_format.proofs.Coded.{raw-coded}
use Rattle.lf_json.specs.Text.{value_json}
use Rattle.lf_scan.specs.Reads.{ReadsKind}

-- The value is read whose plain text it is.
pub reads-plain : (kind : Kind) (code : Coding) (v : Value) (text plain left old new : List ℕ) → code ≡ coding.Raw → HoldsKind kind v → plain_text kind v ≡ plain
    → text ≡ plain ++ left → new ≡ old ++ value_json v → ReadsKind kind code text left old new
reads-plain kind code v text plain left old new raw held is parts added = record {
  value = v;
  held = held;
  written = parts ∙ ap (λ (s : List ℕ). s ++ left) (sym (raw-coded code (plain_text kind v) raw ∙ is));
  added = added;
}
