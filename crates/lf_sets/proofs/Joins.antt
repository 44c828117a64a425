-- Promises of calls, carried on.
use Rattle.std.proofs.Common.{Result, Ok, Err, OnOk}

pub ok_map : {T E : Type 0} (A B : Type 0) (r : Result T E) → (A → B) → OnOk r A → OnOk r B
ok_map A B (Ok x) f h = f h
ok_map A B (Err e) f h = tt
