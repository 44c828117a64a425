use Rattle.std.proofs.Common.{◌≡◌, length}
use Rattle.lf_product.specs.Pages.{AreNoPages}
use Rattle.lf_product.proofs.pages.no_pages.Given as goal

abbrev pub invariant-loop-k : goal.invariant-loop-k
invariant-loop-k l = record {
  len : length l.pages.items ≡ l._k;
  none : AreNoPages l.pages.items;
}
