use Rattle.std.proofs.Common.{◌≡◌, ◌++◌, drop}
use Rattle.nginx_front.specs.Whole.{bytes_of}
use Rattle.nginx_front.proofs.directive.joined.Given as goal

abbrev pub invariant-loop-one : goal.invariant-loop-one
invariant-loop-one l = l.bytes ++ bytes_of (drop l.one-index l.given) ≡ bytes_of l.given
