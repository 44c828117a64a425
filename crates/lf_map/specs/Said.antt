-- The reading that the code's reading is.
use Rattle.std.specs.Prelude.{Option, None, Some}
use Rattle.lf_expression.specs.Exprs.{expr_said}
use Rattle.lf_map.specs.declared.reading.Read.{Read as CodeRead}
use Rattle.lf_map.specs.Assigns.{Read}

abbrev pub read_said : CodeRead → Read
read_said read = record { expr = expr_said read.expr; rest = read.rest.now }

abbrev pub found_said : Option CodeRead → Option Read
found_said None = None
found_said (Some read) = Some (read_said read)
