-- The cells of pages, page after page: reads, and writes of one.
use Rattle.std.proofs.Common.{◌≡◌, ℕ, ◌+◌, ◌*◌, ◌/◌, ◌%◌, ◌<◌, inl, inr, Bool, List, length, get_or, set, length-set, replicate, sym, ap, ◌∙◌, subst, arith, None, Some, get_or-set_same, get_or-set_other}
use Rattle.std.specs.Prelude.{Option, Vec}
use Rattle.std.specs.declared.alloc.Global.{Global}
use Rattle.std.proofs.lemmas.Bool.{cases_eq}
use Rattle.std.proofs.lemmas.List.{ext_get_or, length-replicate, get_or-replicate, get_or_default, get_or_read, set-get_or}
use Rattle.std.proofs.lemmas.List.Elements.{Contains-get_or, All-contains}
use Rattle.std.proofs.lemmas.List.FromFn.{get_or-map-range_with_len, length-map-range_with_len}
use Rattle.lf_product.specs.declared.pages.TheConstants.{NONE, PAGE}
use Rattle.lf_product.specs.Pages.{cell, page_of, place_of, at_place, cells_of, AreNoPages, AreWholePages, IsWholePage}
use Rattle.lf_product.specs.Cells.{steps_at, put_at}
use Rattle.lf_product.proofs.Places.{place_below}

pub cells_length : (pages : List (Option (Vec ℕ Global))) → length (cells_of pages) ≡ length pages * PAGE
unfolding cells_of
cells_length pages = length-map-range_with_len _ 0 (length pages * PAGE)

cell_at : (pages : List (Option (Vec ℕ Global))) (at d : ℕ) → at < length pages * PAGE → get_or (cells_of pages) at d ≡ at_place (get_or pages (at / PAGE) None) (at % PAGE)
unfolding cells_of
cell_at pages at d lt = get_or-map-range_with_len (λ (k : ℕ). at_place (get_or pages (k / PAGE) None) (k % PAGE)) 0 (length pages * PAGE) at at d lt (omega arith)

-- where no page is made, no cell has a distance
pub no_cells : (pages : List (Option (Vec ℕ Global))) (n : ℕ) → length pages ≡ n → AreNoPages pages → cells_of pages ≡ replicate (n * PAGE) NONE
no_cells pages n len none =
    let sizes : length (cells_of pages) ≡ length (replicate (n * PAGE) NONE) = cells_length pages ∙ ap (λ (k : ℕ). k * PAGE) len ∙ sym (length-replicate (n * PAGE) NONE) in
    ext_get_or 0 (cells_of pages) (replicate (n * PAGE) NONE) sizes (λ i lt.
    let low : i < length pages * PAGE = omega (arith, lt, cells_length pages) in
    cell_at pages i 0 low ∙ ap (λ (p : Option (Vec ℕ Global)). at_place p (i % PAGE)) (none (i / PAGE)) ∙ sym (get_or-replicate (n * PAGE) i NONE 0 (omega (arith, low, len))))

pub page_inside : (pages : List (Option (Vec ℕ Global))) (a b : ℕ) (d : Bool) → cell a b d < length (cells_of pages) → page_of a b < length pages
unfolding cell
page_inside pages a b d lt = omega (arith, lt, cells_length pages)

-- what stands in a pair's cell stands at its place of its page
pub read_cell : (pages : List (Option (Vec ℕ Global))) (a b : ℕ) (d : Bool) → cell a b d < length (cells_of pages) → steps_at (cells_of pages) a b d ≡ at_place (get_or pages (page_of a b) None) (place_of a b d)
unfolding steps_at cell
read_cell pages a b d lt =
    let small : place_of a b d < PAGE = place_below a b d in
    let page : (page_of a b * PAGE + place_of a b d) / PAGE ≡ page_of a b = omega (arith, small) in
    let place : (page_of a b * PAGE + place_of a b d) % PAGE ≡ place_of a b d = omega (arith, small) in
    cell_at pages (page_of a b * PAGE + place_of a b d) 0 (omega (arith, lt, cells_length pages))
    ∙ ap (λ (k : ℕ). at_place (get_or pages k None) ((page_of a b * PAGE + place_of a b d) % PAGE)) page
    ∙ ap (λ (k : ℕ). at_place (get_or pages (page_of a b) None) k) place

-- a page that changes at one place changes one cell
pub write_cell : (pages : List (Option (Vec ℕ Global))) (k p steps : ℕ) (new : Option (Vec ℕ Global)) → k < length pages → p < PAGE → at_place new p ≡ steps → ((at : ℕ) → at < PAGE → (at ≡ p → ⊥) → at_place new at ≡ at_place (get_or pages k None) at) → cells_of (set pages k new) ≡ set (cells_of pages) (k * PAGE + p) steps
write_cell pages k p steps new inside small put kept =
    let len : length (set pages k new) ≡ length pages = length-set pages k new in
    let sizes : length (cells_of (set pages k new)) ≡ length (cells_of pages) = cells_length (set pages k new) ∙ ap (λ (n : ℕ). n * PAGE) len ∙ sym (cells_length pages) in
    ext_get_or 0 (cells_of (set pages k new)) (set (cells_of pages) (k * PAGE + p) steps) (sizes ∙ sym (length-set (cells_of pages) (k * PAGE + p) steps)) (λ i lt.
    let low : i < length pages * PAGE = omega (arith, lt, sizes, cells_length pages) in
    let here : get_or (cells_of (set pages k new)) i 0 ≡ at_place (get_or (set pages k new) (i / PAGE) None) (i % PAGE) = cell_at (set pages k new) i 0 (omega (arith, low, len)) in
    elim (cases_eq (i / PAGE) k) [
      | inl same ↦
          let now : get_or (set pages k new) (i / PAGE) None ≡ new = ap (λ (j : ℕ). get_or (set pages k new) j None) same ∙ get_or-set_same pages k new None inside in
          elim (cases_eq (i % PAGE) p) [
            | inl e ↦
                let at : i ≡ k * PAGE + p = omega (arith, same, e) in
                here ∙ ap (λ (q : Option (Vec ℕ Global)). at_place q (i % PAGE)) now ∙ ap (λ (j : ℕ). at_place new j) e ∙ put
                ∙ sym (ap (λ (j : ℕ). get_or (set (cells_of pages) (k * PAGE + p) steps) j 0) at ∙ get_or-set_same (cells_of pages) (k * PAGE + p) steps 0 (omega (arith, at, low, cells_length pages)))
            | inr ne ↦
                here ∙ ap (λ (q : Option (Vec ℕ Global)). at_place q (i % PAGE)) now ∙ kept (i % PAGE) (omega arith) ne
                ∙ ap (λ (j : ℕ). at_place (get_or pages j None) (i % PAGE)) (sym same) ∙ sym (cell_at pages i 0 low)
                ∙ sym (get_or-set_other (cells_of pages) (k * PAGE + p) i steps 0 (λ e. ne (omega (arith, e, small))))
          ]
      | inr ne ↦
          here ∙ ap (λ (q : Option (Vec ℕ Global)). at_place q (i % PAGE)) (get_or-set_other pages k (i / PAGE) new None ne) ∙ sym (cell_at pages i 0 low)
          ∙ sym (get_or-set_other (cells_of pages) (k * PAGE + p) i steps 0 (λ e. ne (omega (arith, e, small))))
    ])

-- the page that is read
pub page_read : (pages : List (Option (Vec ℕ Global))) (k a b : ℕ) (v page : Option (Vec ℕ Global)) → k ≡ page_of a b → k < length pages → v ≡ get_or pages k v → v ≡ page → get_or pages (page_of a b) None ≡ page
page_read pages k a b v page e lt is same = ap (λ (j : ℕ). get_or pages j None) (sym e) ∙ get_or_default pages k None v lt ∙ sym is ∙ same

pub whole_page : (pages : List (Option (Vec ℕ Global))) (k : ℕ) (page : Option (Vec ℕ Global)) → AreWholePages pages → k < length pages → get_or pages k None ≡ page → IsWholePage page
whole_page pages k page whole lt is = subst (λ (p : Option (Vec ℕ Global)). IsWholePage p) is (All-contains (λ (p : Option (Vec ℕ Global)). IsWholePage p) pages (get_or pages k None) whole (Contains-get_or pages k None lt))

-- what is read of a page that is made, and of one that isn't
pub made_read : (pages : List (Option (Vec ℕ Global))) (ds : List ℕ) (a b : ℕ) (d : Bool) (page : Vec ℕ Global) (at x : ℕ) → cells_of pages ≡ ds → cell a b d < length (cells_of pages) → get_or pages (page_of a b) None ≡ Some page → at ≡ place_of a b d → at < length page.items → x ≡ get_or page.items at x → x ≡ steps_at ds a b d
made_read pages ds a b d page at x whole lt made e low is =
    get_or_read page.items at x low is NONE ∙ ap (λ (j : ℕ). get_or page.items j NONE) e
    ∙ sym (ap (λ (xs : List ℕ). steps_at xs a b d) (sym whole) ∙ read_cell pages a b d lt ∙ ap (λ (p : Option (Vec ℕ Global)). at_place p (place_of a b d)) made)

pub unmade_read : (pages : List (Option (Vec ℕ Global))) (ds : List ℕ) (a b : ℕ) (d : Bool) → cells_of pages ≡ ds → cell a b d < length (cells_of pages) → get_or pages (page_of a b) None ≡ None → NONE ≡ steps_at ds a b d
unmade_read pages ds a b d whole lt unmade =
    sym (ap (λ (xs : List ℕ). steps_at xs a b d) (sym whole) ∙ read_cell pages a b d lt ∙ ap (λ (p : Option (Vec ℕ Global)). at_place p (place_of a b d)) unmade)

-- the page that was written, among the others
pub put_cell : (pages : List (Option (Vec ℕ Global))) (ds : List ℕ) (a b : ℕ) (d : Bool) (k p steps : ℕ) (old new : Option (Vec ℕ Global)) → cells_of pages ≡ ds → k ≡ page_of a b → p ≡ place_of a b d → k < length pages → p < PAGE → old ≡ get_or pages k old → at_place new p ≡ steps → ((at : ℕ) → at < PAGE → (at ≡ p → ⊥) → at_place new at ≡ at_place old at) → cells_of (set pages k new) ≡ put_at ds a b d steps
unfolding cell
put_cell pages ds a b d k p steps old new whole page place inside small is put kept =
    let cell_is : k * PAGE + p ≡ page_of a b * PAGE + place_of a b d = omega (arith, page, place) in
    let was : old ≡ get_or pages k None = is ∙ get_or_default pages k old None inside in
    write_cell pages k p steps new inside small put (λ at low ne. kept at low ne ∙ ap (λ (q : Option (Vec ℕ Global)). at_place q at) was)
    ∙ ap (λ (xs : List ℕ). set xs (k * PAGE + p) steps) whole ∙ ap (λ (j : ℕ). set ds j steps) cell_is

pub same_cells : (pages : List (Option (Vec ℕ Global))) (ds : List ℕ) (k : ℕ) (old new : Option (Vec ℕ Global)) → cells_of pages ≡ ds → k < length pages → old ≡ get_or pages k old → new ≡ old → cells_of (set pages k new) ≡ ds
same_cells pages ds k old new whole inside is same =
    ap (λ (q : Option (Vec ℕ Global)). cells_of (set pages k q)) (same ∙ is ∙ get_or_default pages k old None inside) ∙ ap (λ (ps : List (Option (Vec ℕ Global))). cells_of ps) (set-get_or pages k None) ∙ whole

pub page_there : (pages : List (Option (Vec ℕ Global))) (ds : List ℕ) (a b : ℕ) (d : Bool) → cells_of pages ≡ ds → cell a b d < length ds → (cell a b d < length (cells_of pages)) × (page_of a b < length pages)
page_there pages ds a b d whole lt =
    let low : cell a b d < length (cells_of pages) = subst (λ (xs : List ℕ). cell a b d < length xs) (sym whole) lt in
    (low, page_inside pages a b d low)
