use Rattle.std.proofs.Common.{rules}
use Rattle.lf_product.specs.Pages.{place_of}
use Rattle.lf_product.proofs.pages.place.Goals as goal

pub returns-clause-is : goal.returns-clause-is
unfolding place_of
returns-clause-is c = search rules
