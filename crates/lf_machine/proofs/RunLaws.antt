-- The whole runs of a format's machine are those of its records.
use Rattle.std.proofs.Common.{List, map, ap, ◌∙◌}
use Rattle.lf_format.specs.Lines.{line_text}
use Rattle.lf_format.specs.Keeps.{EachKept}
use Rattle.lf_format.specs.declared.format.Piece.{Piece}
use Rattle.lf_machine.specs.LineBytes.{LiteralsAreBytes}
use Rattle.lf_machine.specs.LineMachine.{wide_machine, line_machine, line_number, LineAt, line-numbered, record_moves}
use Rattle.lf_machine.specs.Numbered.{numbered}
use Rattle.lf_machine.proofs.NumberedRuns.{whole-states, states-whole, states-apart}
use Rattle.lf_machine.proofs.ByteRuns.{on_bytes-run, run-on_bytes}
use Rattle.lf_machine.specs.Records.{record_steps, line_part}
use Rattle.lf_machine.proofs.RecordLaws.{steps-sound, steps-complete, steps-apart}
use Rattle.lf_machine.specs.Runs.{HasRuns}
use Rattle.lf_machine.proofs.LineByteLaws.{line-bytes}

pub line-runs : (ps : List Piece) → EachKept ps → LiteralsAreBytes ps → HasRuns ps (line_machine ps) (record_moves ps)
line-runs ps t bytes = record {
  each = λ rec h.
      run-on_bytes (wide_machine ps) (line_text ps rec) (record_moves ps rec) (line-bytes ps t bytes rec h)
      (states-whole (line_part ps) (wide_machine ps) (line_number ps) (LineAt ps) (line-numbered ps) (line_text ps rec) (record_steps ps rec) (steps-complete ps t rec h));
  no_other = λ w r h.
      let f = whole-states (line_part ps) (wide_machine ps) (line_number ps) (LineAt ps) (line-numbered ps) w r (on_bytes-run (wide_machine ps) w r h) in
      let g = steps-sound ps t w f.0 f.1 in
      (g.0, g.1, g.2, f.2 ∙ ap (map (numbered (line_number ps))) g.3);
  apart = λ rec other h g e.
      steps-apart ps t rec other h g
      (states-apart (line_part ps) (wide_machine ps) (line_number ps) (LineAt ps) (line-numbered ps) (line_text ps rec) (line_text ps other) (record_steps ps rec) (record_steps ps other) (steps-complete ps t rec h) (steps-complete ps t other g) e);
}
