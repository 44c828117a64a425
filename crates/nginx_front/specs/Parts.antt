-- What a directive says, and where its first fault is.
use Rattle.std.specs.Prelude.{◌≡◌, ℕ, ◌+◌, ◌<◌, Bool, true, false, Option, None, Some, List, [], ◌∷◌, ◌++◌, length}
use Rattle.lf_spelling.specs.declared.fault.Cause.{Cause}
use Rattle.lf_spelling.specs.declared.fault.Cause.TheVariants.{Unclosed, BadName, BadFlags}
use Rattle.lf_syntax.specs.Grammar.{joined, Each}
use Rattle.lf_syntax.specs.Places.{FaultPlace}
use Rattle.lf_spelling.specs.Runs.{past}
use Rattle.nginx_front.specs.declared.table.Escape.{Escape}
use Rattle.nginx_front.specs.declared.strings.Placed.{Placed}
use Rattle.nginx_front.specs.Bytes.{is_white}
use Rattle.nginx_front.specs.Syntax as syntax
use Rattle.nginx_front.specs.Syntax.{Is, part, directive, before_escape, before_string, half_string}
use Rattle.nginx_front.specs.Strings.{PartsGive}
use Rattle.nginx_front.specs.Escapes.{names_escape, escape_at}

-- The parts give these bytes; where the first names the escape, the others do.
abbrev pub StringsGive : Bool → ℕ → List (List ℕ) → List Placed → Type 0
StringsGive false place parts given = PartsGive place parts given
StringsGive true place [] given = ⊥
StringsGive true place (part ∷ parts) given = PartsGive (place + length part) parts given

-- The text is a head, parts and a tail, which say this escape and give these bytes.
pub record IsSpelled (text : List ℕ) (escape : Escape) (given : List Placed) : Type 0 where
  pub head : List ℕ
  pub parts : List (List ℕ)
  pub tail : List ℕ
  pub text_is : text ≡ head ++ (joined parts ++ tail)
  pub head_is : Is syntax.head head
  pub parts_are : Each (Is part) parts
  pub tail_is : Is syntax.tail tail
  pub escape_is : escape_at (past is_white (joined parts ++ tail)) ≡ Some escape
  pub given_is : StringsGive (names_escape (past is_white (joined parts ++ tail))) (length head) parts given

-- An `escape=` with another value stands at the place, which is that of its first letter.
pub record IsBadEscape (text : List ℕ) (place : ℕ) : Type 0 where
  pub before : List ℕ
  pub rest : List ℕ
  pub text_is : text ≡ before ++ rest
  pub before_is : Is before_escape before
  pub bad : escape_at rest ≡ None
  pub place_is : place ≡ length before

-- The text ends in quotes that open at the place.
pub record IsOpenQuote (text : List ℕ) (place : ℕ) : Type 0 where
  pub before : List ℕ
  pub rest : List ℕ
  pub text_is : text ≡ before ++ rest
  pub before_is : Is before_string before
  pub rest_is : Is half_string rest
  pub place_is : place ≡ length before

-- A text that the grammar leaves at a place has its fault there, unless it ends: then in its last quote, if that is open, or at the end.
pub data LeavesAt (text : List ℕ) (at place : ℕ) (cause : Cause) : Type 0 where
  bad_byte : at < length text → place ≡ at → cause ≡ BadName → LeavesAt text at place cause
  open_quote : at ≡ length text → IsOpenQuote text place → cause ≡ Unclosed → LeavesAt text at place cause
  early_end : at ≡ length text → ((quote : ℕ) → IsOpenQuote text quote → ⊥) → place ≡ at → cause ≡ Unclosed → LeavesAt text at place cause

-- The first fault in the parts of a directive. It leaves the grammar after the longest prefix of the text that begins some directive.
pub data FaultyParts (text : List ℕ) (place : ℕ) (cause : Cause) : Type 0 where
  bad_escape : IsBadEscape text place → cause ≡ BadFlags → FaultyParts text place cause
  no_directive : (at : ℕ) → ((escape : ℕ) → IsBadEscape text escape → ⊥) → FaultPlace (Is directive) text at → LeavesAt text at place cause → FaultyParts text place cause

-- An escape of another value stands at the place, or nowhere.
abbrev pub BadIs : List ℕ → Option ℕ → Type 0
BadIs text None = (place : ℕ) → IsBadEscape text place → ⊥
BadIs text (Some place) = IsBadEscape text place

-- The parts have this first fault, or the text is spelled by them.
abbrev pub FaultIs : List ℕ → Option (ℕ × Cause) → Type 0
FaultIs text None = (escape : Escape) × (given : List Placed) × IsSpelled text escape given
FaultIs text (Some found) = FaultyParts text found.0 found.1
