-- What is said of the records that are drawn from a seed.
use Rattle.std.specs.Prelude.{◌≡◌, ℕ, List, [], ◌∷◌, ◌++◌, length, map, codes, All}
use Rattle.std.specs.Fmt.{decimal}
use Rattle.lf_core.specs.declared.values.Value.{Value}
use Rattle.lf_format.specs.Lines.{line_text, IsRecordOf}
use Rattle.lf_format.specs.Shape.{Shape}
use Rattle.lf_gen.specs.Drawn.{AreDrawn, state_past}
use Rattle.lf_log.specs.Ends.{log_text}

-- what is said of so many records, of which so many were read back, and of so many bytes of their log
abbrev pub summary_text : ℕ → ℕ → ℕ → List ℕ
summary_text records read bytes =
    codes "records " ++ decimal records ++ codes " read " ++ decimal read ++ codes " bytes " ++ decimal bytes

-- So many records are drawn from the seed, and this is said of them: each was read back, and their log has so many bytes.
pub record IsSummary (format : Shape) (seed count : ℕ) (text : List ℕ) : Type 0 where
  pub records : List (List Value)
  pub count_is : length records ≡ count
  pub drawn : AreDrawn format.pieces seed records
  pub text_is : text ≡ summary_text count count (length (log_text format records))

-- ---- how far the log is drawn

-- how many bytes the record's line has without its end
abbrev pub line_length : Shape → List Value → ℕ
line_length format rec = length (line_text format.pieces rec)

-- A part of the log has the lines of these records, of these lengths.
pub record IsPart (format : Shape) (records : List (List Value)) (text lengths : List ℕ) : Type 0 where
  pub held : All (IsRecordOf format.pieces) records
  pub text_is : text ≡ log_text format records
  pub lengths_is : lengths ≡ map (line_length format) records

-- So many records were drawn between the two states, and a part of the log has their lines.
pub record DrawsPart (format : Shape) (before after count : ℕ) (text lengths : List ℕ) : Type 0 where
  pub records : List (List Value)
  pub count_is : length records ≡ count
  pub drawn : AreDrawn format.pieces before records
  pub after_is : after ≡ state_past format.pieces count before
  pub part : IsPart format records text lengths

-- So many records were drawn from the seed up to the state, and their log has so many bytes.
pub record DrawsLog (format : Shape) (seed after count bytes : ℕ) : Type 0 where
  pub records : List (List Value)
  pub count_is : length records ≡ count
  pub drawn : AreDrawn format.pieces seed records
  pub after_is : after ≡ state_past format.pieces count seed
  pub bytes_is : bytes ≡ length (log_text format records)
