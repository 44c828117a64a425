-- Expressions of a field map, and the one that the code's expression is.
use Rattle.std.specs.Prelude.{ℕ, ℤ, List, [], ◌∷◌}
use Rattle.lf_expression.specs.declared.expr.Operation.{Operation as CodeOperation}
use Rattle.lf_expression.specs.declared.expr.Operation.TheVariants as code_operation
use Rattle.lf_expression.specs.declared.expr.Expr.{Expr as CodeExpr}
use Rattle.lf_expression.specs.declared.expr.Expr.TheVariants as code

-- What a call makes of its first argument: a moment in UTC, in another offset, without its milliseconds; its civil day and time of day;
-- the whole seconds and the milliseconds of its instant; a part of a text; a number divided and multiplied.
pub data Operation : Type 0 where
  utc : Operation
  zoned : ℤ → Operation
  whole_second : Operation
  date : Operation
  clock : Operation
  epoch : Operation
  millis : Operation
  part : ℕ → Operation
  div : ℤ → Operation
  mul : ℤ → Operation

-- `Missing`, a number, a text, a source slot; the first of two that isn't missing; a day and a clock as a moment; two texts with a space
-- between them; and a call on an expression.
pub data Expr : Type 0 where
  missing : Expr
  number : ℤ → Expr
  text : List ℕ → Expr
  slot : ℕ → Expr
  or_else : Expr → Expr → Expr
  at_time : Expr → Expr → Expr
  spaced : Expr → Expr → Expr
  applied : Operation → Expr → Expr

abbrev pub operation_said : CodeOperation → Operation
operation_said code_operation.Utc = utc
operation_said (code_operation.Zoned offset) = zoned offset.minutes
operation_said code_operation.WholeSecond = whole_second
operation_said code_operation.Date = date
operation_said code_operation.Clock = clock
operation_said code_operation.Epoch = epoch
operation_said code_operation.Millis = millis
operation_said (code_operation.Part k) = part k
operation_said (code_operation.Div divisor) = div divisor.value
operation_said (code_operation.Mul n) = mul n

abbrev pub expr_said : CodeExpr → Expr
expr_said code.Missing = missing
expr_said (code.Number n) = number n
expr_said (code.Text t) = text t
expr_said (code.Slot k) = slot k
expr_said (code.OrElse' p a q b) = or_else (expr_said a) (expr_said b)
expr_said (code.AtTime' p a q b) = at_time (expr_said a) (expr_said b)
expr_said (code.Spaced' p a q b) = spaced (expr_said a) (expr_said b)
expr_said (code.Applied' op p a) = applied (operation_said op) (expr_said a)

abbrev pub exprs_said : List CodeExpr → List Expr
exprs_said [] = []
exprs_said (e ∷ es) = expr_said e ∷ exprs_said es
