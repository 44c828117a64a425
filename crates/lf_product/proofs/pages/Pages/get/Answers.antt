use Rattle.std.proofs.Common.{◌≡◌, arith, None, Some, length}
use Rattle.lf_product.specs.declared.pages.TheConstants.{PAGE}
use Rattle.lf_product.specs.Pages.{page_of}
use Rattle.lf_product.proofs.PageCells.{page_there, page_read, whole_page, made_read, unmade_read}
use Rattle.lf_product.proofs.pages.Pages.get.Goals as goal

pub index-requires : goal.index-requires
index-requires c =
    let ps = c.self.inside.pages in
    let there = page_there ps.items c.args.self.now c.args.pair.left c.args.pair.right c.args.pair.differed c.self.view_is c.requires in
    omega (arith, there.1, c.page_number.ensures, ps.ok.0)

pub index-requires-in-Some : goal.index-requires-in-Some
index-requires-in-Some c =
    let ps = c.self.inside.pages in
    let there = page_there ps.items c.args.self.now c.args.pair.left c.args.pair.right c.args.pair.differed c.self.view_is c.requires in
    let made = page_read ps.items c.page_number.result c.args.pair.left c.args.pair.right c.index.result.now (Some c.in-Some.page) c.page_number.ensures (omega (arith, there.1, c.page_number.ensures)) c.index.ensures c.in-Some.is in
    let whole : length c.in-Some.page.items ≡ PAGE = whole_page ps.items (page_of c.args.pair.left c.args.pair.right) (Some c.in-Some.page) c.self.invariant there.1 made in
    omega (arith, c.place.ensures.within, whole, c.in-Some.page.ok.0)

pub returns-in-Some : goal.returns-in-Some
returns-in-Some c =
    let ps = c.self.inside.pages in
    let there = page_there ps.items c.args.self.now c.args.pair.left c.args.pair.right c.args.pair.differed c.self.view_is c.requires in
    let made = page_read ps.items c.page_number.result c.args.pair.left c.args.pair.right c.index.result.now (Some c.in-Some.page) c.page_number.ensures (omega (arith, there.1, c.page_number.ensures)) c.index.ensures c.in-Some.is in
    let whole : length c.in-Some.page.items ≡ PAGE = whole_page ps.items (page_of c.args.pair.left c.args.pair.right) (Some c.in-Some.page) c.self.invariant there.1 made in
    made_read ps.items c.args.self.now c.args.pair.left c.args.pair.right c.args.pair.differed c.in-Some.page c.place.result c.index-in-Some.result.now c.self.view_is there.0 made c.place.ensures.is (omega (arith, c.place.ensures.within, whole)) c.index-in-Some.ensures

pub returns-in-None : goal.returns-in-None
returns-in-None c =
    let ps = c.self.inside.pages in
    let there = page_there ps.items c.args.self.now c.args.pair.left c.args.pair.right c.args.pair.differed c.self.view_is c.requires in
    unmade_read ps.items c.args.self.now c.args.pair.left c.args.pair.right c.args.pair.differed c.self.view_is there.0
    (page_read ps.items c.page_number.result c.args.pair.left c.args.pair.right c.index.result.now None c.page_number.ensures (omega (arith, there.1, c.page_number.ensures)) c.index.ensures c.in-None.is)
