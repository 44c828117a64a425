use Rattle.std.proofs.Common.{◌≡◌, length, true}
use Rattle.std.specs.Prelude.{All}
use Rattle.lf_escape.specs.Codes.{coded}
use Rattle.lf_escape.specs.Codings.{coding_takes, coding_word}
use Rattle.lf_format.proofs.BareRuns.{AddsUpTo}
use Rattle.lf_format.proofs.writing.write_words.Given as goal

abbrev pub invariant-runs : goal.invariant-runs
invariant-runs l =
    AddsUpTo l.initial.into l.into (coded (coding_word l.code) l.letters) (coded (coding_word l.code) l.rest) ×
    All (λ letter. coding_takes l.code letter ≡ true) l.rest

abbrev pub decreases-runs : goal.decreases-runs
decreases-runs l = length l.rest
