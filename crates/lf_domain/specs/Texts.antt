-- Domains of texts: what they hold, and the machines over their letters.
use Rattle.std.specs.Prelude.{◌≡◌, ℕ, ◌+◌, ◌≤◌, List, [], ◌∷◌, length, Option, None, Some, true, cond, ltb, leb, ◌==◌, min, IfSome, All}
use Rattle.lf_core.specs.Class.{is_letter}
use Rattle.lf_core.specs.Domain.{LetterMachine}
use Rattle.lf_core.specs.declared.class.Class.{Class}
use Rattle.lf_core.specs.declared.values.Value.{Value}
use Rattle.lf_core.specs.declared.values.Value.TheVariants.{Text}

-- A text whose letters have the property.
abbrev pub IsText : (List ℕ → Type 0) → Value → Type 0
IsText P (Text text) = P text
IsText P v = ⊥

-- the plain text of a text is the text itself
abbrev pub text_of : Value → List ℕ
text_of (Text text) = text
text_of v = []

-- The letters are all in the set.
abbrev pub AllIn : Class → List ℕ → Type 0
AllIn set text = All (λ letter. is_letter set letter ≡ true) text

-- So many letters of the set; no upper bound where `most` is none.
abbrev pub IsSized : Class → ℕ → Option ℕ → List ℕ → Type 0
IsSized set least most text = AllIn set text × (least ≤ length text) × IfSome most (λ top. length text ≤ top)

-- A text of so many letters of the set.
abbrev pub HoldsText : Class → ℕ → Option ℕ → Value → Type 0
HoldsText set least most v = IsText (IsSized set least most) v

-- the last point of the machine of so many letters
abbrev pub top_point : ℕ → Option ℕ → ℕ
top_point least None = least
top_point least (Some most) = most

-- the point after one more letter
abbrev pub after_letter : ℕ → Option ℕ → ℕ → Option ℕ
after_letter least None point = Some (min (point + 1) least)
after_letter least (Some most) point = cond (ltb point most) (Some (point + 1)) None

-- a point is the number of letters so far; where there is no upper bound, the lower bound is the last
abbrev pub text_machine : Class → ℕ → Option ℕ → LetterMachine
text_machine set least most = record {
  count = top_point least most + 1;
  first = 0;
  next = λ point letter. cond (is_letter set letter) (after_letter least most point) None;
  is_end = λ point. leb least point;
}

-- Nothing, or a question mark and then letters of the set.
abbrev pub IsQuery : Class → List ℕ → Type 0
IsQuery set [] = Unit {0}
IsQuery set (mark ∷ letters) = (mark ≡ 63) × AllIn set letters

-- An empty text, or one of a question mark and letters of the set.
abbrev pub HoldsQuery : Class → Value → Type 0
HoldsQuery set v = IsText (IsQuery set) v

-- the start wants the question mark, and the other point letters of the set
abbrev pub query_machine : Class → LetterMachine
query_machine set = record {
  count = 2;
  first = 0;
  next = λ point letter. cond (cond (point == 0) (letter == 63) (is_letter set letter)) (Some 1) None;
  is_end = λ point. true;
}
