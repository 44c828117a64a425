-- The lines of a log, with their ends.
use Rattle.std.specs.Prelude.{ℕ, List, [], ◌∷◌, ◌++◌}
use Rattle.std.specs.List.{flat_map}
use Rattle.lf_core.specs.declared.values.Value.{Value}
use Rattle.lf_format.specs.Lines.{line_text}
use Rattle.lf_format.specs.Shape.{Shape}
use Rattle.lf_format.specs.declared.format.LineEnd.{LineEnd}
use Rattle.lf_format.specs.declared.format.LineEnd.TheVariants.{Lf, CrLf}

-- what ends a line
abbrev pub end_text : LineEnd → List ℕ
end_text Lf = 10 ∷ []
end_text CrLf = 13 ∷ 10 ∷ []

-- the record's line, with the format's end
abbrev pub ended_line : Shape → List Value → List ℕ
ended_line format rec = line_text format.pieces rec ++ end_text format.end

-- the log of records: the line of each, with its end
abbrev pub log_text : Shape → List (List Value) → List ℕ
log_text format = flat_map (ended_line format)
