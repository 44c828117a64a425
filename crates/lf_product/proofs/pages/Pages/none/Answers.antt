use Rattle.std.proofs.Common.{rules}
use Rattle.lf_product.specs.Pages.{pages_for}
use Rattle.lf_product.proofs.PageCells.{no_cells}
use Rattle.lf_product.proofs.pages.Pages.none.Goals as goal

pub returns : goal.returns
unfolding pages_for
returns c = no_cells c.in_ok-pages.pages.items (pages_for c.args.points) (search rules) c.in_ok-pages.ensures.none
