use Rattle.std.proofs.Common.{List, ℕ, subst}
use Rattle.std.specs.Prelude.{Err}
use Rattle.lf_map.specs.Filling.{IsMapOf, IsSo, ParsesMap}
use Rattle.lf_map.proofs.Kept.{only_map, only_fault}
use Rattle.lf_map.proofs.parsing.parse_map.Goals as goal

pub returns-in-Ok-clause-only : goal.returns-in-Ok-clause-only
returns-in-Ok-clause-only c =
    λ answer h. only_map c.args.text.now c.args.source.now c.args.target.now c.in-Ok.map answer
    (subst (λ (w : List ℕ). IsMapOf w c.args.source.now c.args.target.now c.in-Ok.map) c.as_bytes.ensures.value c.in-Ok.ensures.parsed) h

pub returns-in-Err-clause-only : goal.returns-in-Err-clause-only
returns-in-Err-clause-only c =
    λ answer h. only_fault c.args.text.now c.args.source.now c.args.target.now c.in-Err.fault answer
    (subst (λ (w : List ℕ). IsSo (λ one. ParsesMap w c.args.source.now c.args.target.now (Err one)) c.in-Err.fault) c.as_bytes.ensures.value c.in-Err.ensures.faulty) h
