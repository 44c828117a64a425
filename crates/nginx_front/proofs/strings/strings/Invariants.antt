use Rattle.std.proofs.Common.{◌≡◌, ◌+◌, ◌++◌, drop}
use Rattle.nginx_front.specs.declared.strings.Mode.TheVariants.{Outside}
use Rattle.nginx_front.specs.Passes.{mode_after, given_by}
use Rattle.nginx_front.proofs.strings.strings.Given as goal

abbrev pub invariant-loop-byte : goal.invariant-loop-byte
invariant-loop-byte l = (l.place ≡ l.start + l.byte-index) × (l.given.items ++ given_by l.mode l.place (drop l.byte-index l.text) ≡ given_by Outside l.start l.text) × (mode_after l.mode l.place (drop l.byte-index l.text) ≡ mode_after Outside l.start l.text)
