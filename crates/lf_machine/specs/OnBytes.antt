-- A machine whose moves stand on bytes alone.
use Rattle.std.proofs.Common.{◌≡◌, ℕ, ◌<◌, ◌≤◌, List, [], Bool, true, false, cond, ltb, ap, arith, All}
use Rattle.std.proofs.lemmas.Bool.Decides.{nat_tests}
use Rattle.std.proofs.lemmas.List.Elements.{All-nil}
use Rattle.lf_core.specs.Marked.{Machine, NoneTwice, IsMachine}
use Rattle.lf_core.specs.declared.marked.Move.{Move}

-- The machine without its moves on numbers that are no bytes.
abbrev pub on_bytes : Machine → Machine
on_bytes machine = record {
  count = machine.count;
  first = machine.first;
  moves = λ point byte. cond (ltb byte 256) (machine.moves point byte) [];
  is_end = machine.is_end;
}

pub byte-moves : (machine : Machine) (point byte : ℕ) → byte < 256 → (on_bytes machine).moves point byte ≡ machine.moves point byte
byte-moves machine point byte h =
    let e : ltb byte 256 ≡ true = grind (arith, nat_tests) in
    ap (λ (b : Bool). cond {A = List Move} b (machine.moves point byte) []) e

other-moves : (machine : Machine) (point byte : ℕ) → 256 ≤ byte → (on_bytes machine).moves point byte ≡ []
other-moves machine point byte h =
    let e : ltb byte 256 ≡ false = grind (arith, nat_tests) in
    ap (λ (b : Bool). cond {A = List Move} b (machine.moves point byte) []) e

cond-once : (b : Bool) (ms : List Move) → NoneTwice ms → NoneTwice (cond b ms [])
cond-once true ms h = h
cond-once false ms h = tt

cond-all : (Keeps : Move → Type 0) (b : Bool) (ms : List Move) → All Keeps ms → All Keeps (cond b ms [])
cond-all Keeps true ms h = h
cond-all Keeps false ms h = All-nil Keeps

pub on_bytes-is_machine : (machine : Machine) → machine.first < machine.count →
    ((point byte : ℕ) → point < machine.count → NoneTwice (machine.moves point byte)) →
    ((point byte : ℕ) → point < machine.count → All (λ m. m.to < machine.count) (machine.moves point byte)) →
    IsMachine (on_bytes machine)
on_bytes-is_machine machine begins once stays = record {
  begins = begins;
  once = λ point byte h. cond-once (ltb byte 256) (machine.moves point byte) (once point byte h);
  stays = λ point byte h. cond-all (λ m. m.to < machine.count) (ltb byte 256) (machine.moves point byte) (stays point byte h);
  bytes = λ point byte h k. other-moves machine point byte k;
}
