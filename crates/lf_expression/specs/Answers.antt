-- The values that the code's answers are, and what a record's values keep.
use Rattle.std.specs.Prelude.{ℕ, ◌<◌, List, Option, None, Some}
use Rattle.lf_core.specs.declared.values.Value.{Value}
use Rattle.lf_core.specs.declared.values.Value.TheVariants.{Missing, Num, Text, Moment, Day, Clock}
use Rattle.lf_layout.specs.Calendar.{IsDay}
use Rattle.lf_layout.specs.Layouts.{IsMoment}
use Rattle.lf_expression.specs.declared.answers.Letters.{Letters}
use Rattle.lf_expression.specs.declared.answers.Letters.TheVariants.{Held, Made}
use Rattle.lf_expression.specs.declared.answers.Answer.{Answer}
use Rattle.lf_expression.specs.declared.answers.Answer.TheVariants as answer
use Rattle.lf_expression.specs.declared.found.Found.{Found}
use Rattle.lf_expression.specs.declared.found.Found.TheVariants as found

abbrev pub letters_said : Letters → List ℕ
letters_said (Held text) = text.now
letters_said (Made text) = text

abbrev pub answer_said : Answer → Option Value
answer_said answer.Undefined = None
answer_said answer.Missing = Some Missing
answer_said (answer.Number n) = Some (Num n)
answer_said (answer.Text letters) = Some (Text (letters_said letters))
answer_said (answer.Moment m) = Some (Moment m.moment)
answer_said (answer.Day d) = Some (Day d.day)
answer_said (answer.Clock c) = Some (Clock c.second)

abbrev pub found_said : Found → Option Value
found_said found.Undefined = None
found_said (found.Held v) = Some v.now
found_said (found.Made v) = Some v

-- A time of the calendar, if it is a time.
abbrev pub IsDated : Value → Type 0
IsDated (Moment m) = IsMoment m
IsDated (Day day) = IsDay day
IsDated (Clock second) = second < 86400
IsDated v = Unit {0}
