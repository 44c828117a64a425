use Rattle.std.proofs.Common.{◌≡◌, ◌+◌, ◌*◌, ◌^◌, ◌≤◌, length, drop}
use Rattle.envoy_front.specs.Length.{value_of}
use Rattle.envoy_front.proofs.length.number.Given as goal

-- The number so far, followed by the digits that are left, is the number of all digits.
abbrev pub invariant-loop-b : goal.invariant-loop-b
invariant-loop-b l = (l.value ≤ 65535) × (l.value * 10 ^ length (drop l.b-index l.digits) + value_of (drop l.b-index l.digits) ≡ value_of l.digits)
