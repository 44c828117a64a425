use Rattle.std.proofs.Common.{arith, ap, subst}
use Rattle.lf_format.specs.Lines.{IsReadable}
use Rattle.lf_format.specs.Size.{size_of}
use Rattle.lf_compile.proofs.accepting.finder_of.Goals as goal

pub distances-requires : goal.distances-requires
distances-requires c =
    let small = c.is_small.ensures in
    let same = ap size_of c.in_ok-machine.ensures in
    omega (arith, small, same, c.requires)

pub returns-in_ok-new-in-None-clause-ok : goal.returns-in_ok-new-in-None-clause-ok
returns-in_ok-new-in-None-clause-ok c = record {
  within = c.requires;
  apart = rw c.in_default.is at c.in_ok-record.ensures;
  readable = subst IsReadable c.in_ok-machine.ensures (rw c.in-None.is at c.in_ok-confusion.ensures);
}
