use Rattle.std.proofs.Common.{rules}
use Rattle.lf_product.specs.Pages.{page_of}
use Rattle.lf_product.proofs.pages.page_number.Goals as goal

pub returns : goal.returns
unfolding page_of
returns c = search rules
