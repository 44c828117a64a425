use Rattle.std.proofs.Common.{refl, arith}
use Rattle.lf_product.specs.Pages.{page_of}
use Rattle.lf_product.proofs.PageCells.{page_there, page_read, whole_page, put_cell}
use Rattle.lf_product.proofs.pages.Pages.set.Goals as goal

pub index_mut-requires : goal.index_mut-requires
index_mut-requires c =
    let ps = c.self.inside.pages in
    let there = page_there ps.items c.args.self.now c.args.pair.left c.args.pair.right c.args.pair.differed c.self.view_is c.requires in
    omega (arith, there.1, c.page_number.ensures, ps.ok.0)

pub write-requires-clause-whole : goal.write-requires-clause-whole
write-requires-clause-whole c =
    let ps = c.self.inside.pages in
    let there = page_there ps.items c.args.self.now c.args.pair.left c.args.pair.right c.args.pair.differed c.self.view_is c.requires in
    whole_page ps.items (page_of c.args.pair.left c.args.pair.right) c.index_mut.result.now c.self.invariant there.1
    (page_read ps.items c.page_number.result c.args.pair.left c.args.pair.right c.index_mut.result.now c.index_mut.result.now c.page_number.ensures (omega (arith, there.1, c.page_number.ensures)) c.index_mut.ensures.value refl)

pub returns-clause-ok : goal.returns-clause-ok
returns-clause-ok c =
    let ps = c.self.inside.pages in
    let there = page_there ps.items c.args.self.now c.args.pair.left c.args.pair.right c.args.pair.differed c.self.view_is c.requires in
    put_cell ps.items c.args.self.now c.args.pair.left c.args.pair.right c.args.pair.differed c.page_number.result c.place.result c.args.steps c.index_mut.result.now c.write.new.page c.self.view_is c.page_number.ensures c.place.ensures.is (omega (arith, there.1, c.page_number.ensures)) c.place.ensures.within c.index_mut.ensures.value c.in_ok-write.ensures.put c.in_ok-write.ensures.kept
