use Rattle.std.proofs.Common.{◌-◌, ℕ, Bool, List}
use Rattle.lf_stream.specs.Standing.{bytes_fed}
use Rattle.lf_app.specs.declared.verdict.Verdict.{Verdict}
use Rattle.lf_app.specs.Progress.{IsBegun, IsReading, ReadsOn}
use Rattle.lf_app.proofs.reading.report_lines.Given as goal

-- Some stream is read, and whatever it is, more of its lines are.
abbrev pub invariant-loop : goal.invariant-loop
invariant-loop l =
    IsBegun l.job l.lines l.report
    × ((over : Bool) (stream : List ℕ) (found : List Verdict) → IsReading l.job over l.initial.lines l.initial.report stream found → ReadsOn l.job over l.lines l.initial.report l.report stream found)

abbrev pub decreases-loop : goal.decreases-loop
decreases-loop l = bytes_fed l.lines - l.report.count
