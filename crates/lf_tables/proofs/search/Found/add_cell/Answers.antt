use Rattle.std.proofs.Common.{◌≡◌, ℕ, ◌*◌, ◌/◌, ◌%◌, ◌<◌, List, [], ◌∷◌, ◌++◌, length, get_or, Vec, Global, sym, ap, ◌∙◌, subst, arith, ◌+◌}
use Rattle.std.specs.List.{Contains}
use Rattle.std.proofs.lemmas.List.{length-append}
use Rattle.lf_core.specs.Marked.{Machine}
use Rattle.lf_core.specs.Written.{machine_of}
use Rattle.lf_limits.specs.Limits.{most_sets}
use Rattle.lf_tables.specs.declared.ways.Back.{Back}
use Rattle.lf_tables.specs.Ways.{AreWays}
use Rattle.lf_tables.specs.Tabled.{Cell, cells_of, cell_at, set_at, HasWays}
use Rattle.lf_tables.specs.Found.{AreFound, HasNumber, HasNoRoom, AreRising}
use Rattle.lf_tables.specs.Movers.{AreMovers}
use Rattle.lf_tables.proofs.Reach.{reached_below}
use Rattle.lf_tables.proofs.NumberLaws.{lists_of, length_lists, list_at}
use Rattle.lf_tables.proofs.WayLaws.{tos}
use Rattle.lf_tables.proofs.CellLaws.{length_cells, push_cells, next_at, start_at}
use Rattle.lf_tables.proofs.FoundLaws.{cell_set, set_low, like_found, more_found, found_stored, too_many}
use Rattle.lf_tables.proofs.search.Found.add_cell.Goals as goal

-- the points from which the cell leads
points_are : (lists : List (Vec ℕ Global)) (cells firsts k : ℕ) (v : Vec ℕ Global) (points : List ℕ) → k ≡ cells → cells / firsts < length (lists_of lists) → v ≡ get_or lists (k / firsts) v → points ≡ v.items → points ≡ set_at (lists_of lists) (cells / firsts)
points_are lists cells firsts k v points e low is same =
    let here : v ≡ get_or lists (cells / firsts) v = subst (λ (i : ℕ). v ≡ get_or lists (i / firsts) v) e is in
    same ∙ list_at lists (cells / firsts) v (omega (arith, low, length_lists lists)) here

pub ways_back-requires-clause-points : goal.ways_back-requires-clause-points
ways_back-requires-clause-points c =
    let m : Machine = machine_of c.args.table.now in
    let lists : List (Vec ℕ Global) = c.args.self.now.sets.lists.items in
    let nexts : List ℕ = c.args.self.now.nexts.items in
    let starts : List ℕ = c.args.self.now.starts.items in
    let cells : List Cell = cells_of c.args.self.now.nexts.items c.args.self.now.starts.items in
    let many : length (cells_of c.args.self.now.nexts.items c.args.self.now.starts.items) ≡ length c.args.self.now.nexts.items = length_cells c.args.self.now.nexts.items c.args.self.now.starts.items c.requires.even in
    let firsts : List ℕ = c.args.firsts.now in
    let room : length cells < length (lists_of lists) * length firsts =
    subst (λ (n : ℕ). length cells < n * length firsts) (sym (length_lists lists)) (subst (λ (k : ℕ). k < length lists * length firsts) (sym many) c.requires.room) in
    let low : length cells / length firsts < length (lists_of lists) = set_low m firsts (lists_of lists) cells c.args.self.now.backs.items [] c.requires.found c.requires.low room in
    let k : c.len-cell.result ≡ length cells = c.len-cell.ensures ∙ c.args.self.now.nexts.ok.0 ∙ sym many in
    let is : c.deref.result.now ≡ set_at (lists_of lists) (length cells / length firsts) = points_are lists (length cells) (length firsts) c.len-cell.result c.index-points.result.now c.deref.result.now k low c.index-points.ensures c.deref.ensures.value in
    let (line, of_bytes, reached) = c.requires.found.reached (length cells / length firsts) low in
    λ p h. reached_below m line (set_at (lists_of lists) (length cells / length firsts)) p c.requires.lawful reached (subst (λ (xs : List ℕ). Contains xs p) is h)

pub ways_back-requires-clause-rising : goal.ways_back-requires-clause-rising
ways_back-requires-clause-rising c =
    let lists : List (Vec ℕ Global) = c.args.self.now.sets.lists.items in
    let nexts : List ℕ = c.args.self.now.nexts.items in
    let classes : ℕ = length c.args.firsts.now in
    let room : length nexts < length (lists_of lists) * classes =
    subst (λ (n : ℕ). length nexts < n * classes) (sym (length_lists lists)) c.requires.room in
    let low : length nexts / classes < length (lists_of lists) = (cell_set (length nexts) classes (length (lists_of lists)) room).1 in
    let k : c.len-cell.result ≡ length nexts = c.len-cell.ensures ∙ c.args.self.now.nexts.ok.0 in
    let is : c.deref.result.now ≡ set_at (lists_of lists) (length nexts / classes) = points_are lists (length nexts) classes c.len-cell.result c.index-points.result.now c.deref.result.now k low c.index-points.ensures c.deref.ensures.value in
    subst (λ (xs : List ℕ). AreRising xs) (sym is) (c.requires.found.rising (length nexts / classes) low)

pub ways_back-requires-clause-movers : goal.ways_back-requires-clause-movers
ways_back-requires-clause-movers c =
    let m : Machine = machine_of c.args.table.now in
    let class : ℕ = c.len-cell.result % length c.args.firsts.now in
    let some : 0 < length c.args.firsts.now = (cell_set (length c.args.self.now.nexts.items) (length c.args.firsts.now) (length c.args.self.now.sets.lists.items) c.requires.room).0 in
    subst (λ (xs : List ℕ). AreMovers m (get_or c.args.firsts.now class 0) m.count xs) (sym c.of_class.ensures) (c.requires.movers.1 class (omega (arith, some)))

pub returns-in_default-2-clause-more : goal.returns-in_default-2-clause-more
returns-in_default-2-clause-more c =
    let m : Machine = machine_of c.args.table.now in
    let lists : List (Vec ℕ Global) = c.args.self.now.sets.lists.items in
    let nexts : List ℕ = c.args.self.now.nexts.items in
    let starts : List ℕ = c.args.self.now.starts.items in
    let cells : List Cell = cells_of c.args.self.now.nexts.items c.args.self.now.starts.items in
    let many : length (cells_of c.args.self.now.nexts.items c.args.self.now.starts.items) ≡ length c.args.self.now.nexts.items = length_cells c.args.self.now.nexts.items c.args.self.now.starts.items c.requires.even in
    let firsts : List ℕ = c.args.firsts.now in
    let set : List ℕ = set_at (lists_of lists) (length cells / length firsts) in
    let ways : List Back = c.in_ok-backs.backs.items in
    let room : length cells < length (lists_of lists) * length firsts =
    subst (λ (n : ℕ). length cells < n * length firsts) (sym (length_lists lists)) (subst (λ (k : ℕ). k < length lists * length firsts) (sym many) c.requires.room) in
    let low : length cells / length firsts < length (lists_of lists) = set_low m firsts (lists_of lists) cells c.args.self.now.backs.items [] c.requires.found c.requires.low room in
    let k : c.len-cell.result ≡ length cells = c.len-cell.ensures ∙ c.args.self.now.nexts.ok.0 ∙ sym many in
    let is : c.deref.result.now ≡ set = points_are lists (length cells) (length firsts) c.len-cell.result c.index-points.result.now c.deref.result.now k low c.index-points.ensures c.deref.ensures.value in
    let are : AreWays m set (get_or firsts (length cells % length firsts) 0) (length set) ways =
    subst (λ (i : ℕ). AreWays m set (get_or firsts (i % length firsts) 0) (length set) ways) k
    (subst (λ (ps : List ℕ). AreWays m ps (get_or firsts (c.len-cell.result % length firsts) 0) (length ps) ways) is c.in_ok-backs.ensures) in
    let points : c.in_ok-set.set.items ≡ tos ways = c.in_ok-set.ensures ∙ ap (λ (xs : List Back). tos xs) c.deref-2.ensures.value in
    let full : HasNoRoom (tos ways) (lists_of lists) = subst (λ (ps : List ℕ). HasNoRoom ps (lists_of lists)) points (rw c.in_default-2.is at c.in_ok-next.ensures.number) in
    too_many m firsts (lists_of lists) cells c.args.self.now.backs.items ways c.requires.found c.requires.low room are most_sets full.full c.requires.numbered.apart full.other

pub returns-clause-more : goal.returns-clause-more
returns-clause-more c =
    let m : Machine = machine_of c.args.table.now in
    let lists : List (Vec ℕ Global) = c.args.self.now.sets.lists.items in
    let new : List (List ℕ) = lists_of c.number_of.new.self.lists.items in
    let nexts : List ℕ = c.args.self.now.nexts.items in
    let starts : List ℕ = c.args.self.now.starts.items in
    let cells : List Cell = cells_of c.args.self.now.nexts.items c.args.self.now.starts.items in
    let many : length (cells_of c.args.self.now.nexts.items c.args.self.now.starts.items) ≡ length c.args.self.now.nexts.items = length_cells c.args.self.now.nexts.items c.args.self.now.starts.items c.requires.even in
    let backs : List Back = c.args.self.now.backs.items in
    let firsts : List ℕ = c.args.firsts.now in
    let set : List ℕ = set_at (lists_of lists) (length cells / length firsts) in
    let ways : List Back = c.in_ok-backs.backs.items in
    let room : length cells < length (lists_of lists) * length firsts =
    subst (λ (n : ℕ). length cells < n * length firsts) (sym (length_lists lists)) (subst (λ (k : ℕ). k < length lists * length firsts) (sym many) c.requires.room) in
    let low : length cells / length firsts < length (lists_of lists) = set_low m firsts (lists_of lists) cells c.args.self.now.backs.items [] c.requires.found c.requires.low room in
    let k : c.len-cell.result ≡ length cells = c.len-cell.ensures ∙ c.args.self.now.nexts.ok.0 ∙ sym many in
    let is : c.deref.result.now ≡ set = points_are lists (length cells) (length firsts) c.len-cell.result c.index-points.result.now c.deref.result.now k low c.index-points.ensures c.deref.ensures.value in
    let are : AreWays m set (get_or firsts (length cells % length firsts) 0) (length set) ways =
    subst (λ (i : ℕ). AreWays m set (get_or firsts (i % length firsts) 0) (length set) ways) k
    (subst (λ (ps : List ℕ). AreWays m ps (get_or firsts (c.len-cell.result % length firsts) 0) (length ps) ways) is c.in_ok-backs.ensures) in
    let points : c.in_ok-set.set.items ≡ tos ways = c.in_ok-set.ensures ∙ ap (λ (xs : List Back). tos xs) c.deref-2.ensures.value in
    let number : HasNumber (tos ways) c.in-Some-2.next (lists_of lists) new = subst (λ (ps : List ℕ). HasNumber ps c.in-Some-2.next (lists_of lists) new) points (rw c.in-Some-2.is at c.in_ok-next.ensures.number) in
    let start : c.len-start.result ≡ length backs = c.len-start.ensures ∙ c.args.self.now.backs.ok.0 in
    let pushed_next : c.push.new.self.items ≡ nexts ++ c.in-Some-2.next ∷ [] = c.in_ok-push.ensures.items in
    let pushed_start : c.push-2.new.self.items ≡ starts ++ length backs ∷ [] = c.in_ok-push-2.ensures.items ∙ ap (λ (i : ℕ). starts ++ i ∷ []) start in
    let more_next : length c.push.new.self.items ≡ length nexts + 1 = ap (λ (xs : List ℕ). length xs) pushed_next ∙ length-append nexts (c.in-Some-2.next ∷ []) in
    let more_start : length c.push-2.new.self.items ≡ length starts + 1 = ap (λ (xs : List ℕ). length xs) pushed_start ∙ length-append starts (length backs ∷ []) in
    let pushed : cells_of c.push.new.self.items c.push-2.new.self.items ≡ cells ++ record { next = c.in-Some-2.next; start = length backs } ∷ [] =
    ap (λ (xs : List ℕ). cells_of xs c.push-2.new.self.items) pushed_next ∙ ap (λ (xs : List ℕ). cells_of (nexts ++ c.in-Some-2.next ∷ []) xs) pushed_start ∙ push_cells nexts starts c.in-Some-2.next (length backs) c.requires.even in
    let added : c.extend_from_slice.new.self.items ≡ backs ++ ways = c.in_ok-extend_from_slice.ensures.items ∙ ap (λ (xs : List Back). backs ++ xs) c.deref-3.ensures.value in (
      subst (λ (bs : List Back). AreFound m firsts new (cells_of c.push.new.self.items c.push-2.new.self.items) bs) (sym added)
          (subst (λ (cs : List Cell). AreFound m firsts new cs (backs ++ ways)) (sym pushed)
          (more_found m firsts (lists_of lists) cells backs ways c.requires.found c.requires.low room are new c.in-Some-2.next number)),
      omega (arith, more_next, more_start, c.requires.even),
      more_next,
    )

pub cell_like-requires-clause-stored : goal.cell_like-requires-clause-stored
cell_like-requires-clause-stored c =
    found_stored (machine_of c.args.table.now) c.args.firsts.now (lists_of c.args.self.now.sets.lists.items) (cells_of c.args.self.now.nexts.items c.args.self.now.starts.items) c.args.self.now.backs.items c.requires.found

pub repeat-requires-clause-low : goal.repeat-requires-clause-low
repeat-requires-clause-low c = (c.cell_like.ensures c.in-Some.like c.in-Some.is).0

-- the lists of cells with one cell once more
repeated : (nexts starts new_nexts new_starts : List ℕ) (k : ℕ) → length nexts ≡ length starts → new_nexts ≡ nexts ++ get_or nexts k 0 ∷ [] → new_starts ≡ starts ++ get_or starts k 0 ∷ [] → cells_of new_nexts new_starts ≡ cells_of nexts starts ++ cell_at (cells_of nexts starts) k ∷ []
repeated nexts starts new_nexts new_starts k even pushed_next pushed_start =
    ap (λ (xs : List ℕ). cells_of xs new_starts) pushed_next
    ∙ ap (λ (xs : List ℕ). cells_of (nexts ++ get_or nexts k 0 ∷ []) xs) pushed_start
    ∙ push_cells nexts starts (get_or nexts k 0) (get_or starts k 0) even
    ∙ ap (λ (n : ℕ). cells_of nexts starts ++ record { next = n; start = get_or starts k 0 } ∷ []) (sym (next_at nexts starts k even))
    ∙ ap (λ (s : ℕ). cells_of nexts starts ++ record { next = (cell_at (cells_of nexts starts) k).next; start = s } ∷ []) (sym (start_at nexts starts k even))

pub returns-in-Some-clause-more : goal.returns-in-Some-clause-more
returns-in-Some-clause-more c =
    let m : Machine = machine_of c.args.table.now in
    let lists : List (Vec ℕ Global) = c.args.self.now.sets.lists.items in
    let nexts : List ℕ = c.args.self.now.nexts.items in
    let starts : List ℕ = c.args.self.now.starts.items in
    let cells : List Cell = cells_of c.args.self.now.nexts.items c.args.self.now.starts.items in
    let many : length (cells_of c.args.self.now.nexts.items c.args.self.now.starts.items) ≡ length c.args.self.now.nexts.items = length_cells c.args.self.now.nexts.items c.args.self.now.starts.items c.requires.even in
    let backs : List Back = c.args.self.now.backs.items in
    let firsts : List ℕ = c.args.firsts.now in
    let set : List ℕ = set_at (lists_of lists) (length cells / length firsts) in
    let ways : List Back = c.in_ok-backs.backs.items in
    let room : length cells < length (lists_of lists) * length firsts =
    subst (λ (n : ℕ). length cells < n * length firsts) (sym (length_lists lists)) (subst (λ (k : ℕ). k < length lists * length firsts) (sym many) c.requires.room) in
    let low : length cells / length firsts < length (lists_of lists) = set_low m firsts (lists_of lists) cells c.args.self.now.backs.items [] c.requires.found c.requires.low room in
    let k : c.len-cell.result ≡ length cells = c.len-cell.ensures ∙ c.args.self.now.nexts.ok.0 ∙ sym many in
    let is : c.deref.result.now ≡ set = points_are lists (length cells) (length firsts) c.len-cell.result c.index-points.result.now c.deref.result.now k low c.index-points.ensures c.deref.ensures.value in
    let are : AreWays m set (get_or firsts (length cells % length firsts) 0) (length set) ways =
    subst (λ (i : ℕ). AreWays m set (get_or firsts (i % length firsts) 0) (length set) ways) k
    (subst (λ (ps : List ℕ). AreWays m ps (get_or firsts (c.len-cell.result % length firsts) 0) (length ps) ways) is c.in_ok-backs.ensures) in
    let like : ℕ = c.in-Some.like in
    let there = c.cell_like.ensures c.in-Some.like c.in-Some.is in
    let has : HasWays (lists_of lists) backs (cell_at cells like) ways = subst (λ (ws : List Back). HasWays (lists_of lists) backs (cell_at cells like) ws) c.as_slice.ensures.value there.1 in
    let found : AreFound m firsts (lists_of lists) (cells ++ cell_at cells like ∷ []) backs =
    like_found m firsts (lists_of lists) cells backs ways c.requires.found c.requires.low room are like (omega (arith, there.0, many)) has in
    let pushed_next : c.repeat.new.self.nexts.items ≡ nexts ++ get_or nexts like 0 ∷ [] = c.in_ok-repeat.ensures.nexts in
    let pushed_start : c.repeat.new.self.starts.items ≡ starts ++ get_or starts like 0 ∷ [] = c.in_ok-repeat.ensures.starts in
    let more_next : length c.repeat.new.self.nexts.items ≡ length nexts + 1 = ap (λ (xs : List ℕ). length xs) pushed_next ∙ length-append nexts (get_or nexts like 0 ∷ []) in
    let more_start : length c.repeat.new.self.starts.items ≡ length starts + 1 = ap (λ (xs : List ℕ). length xs) pushed_start ∙ length-append starts (get_or starts like 0 ∷ []) in
    let pushed : cells_of c.repeat.new.self.nexts.items c.repeat.new.self.starts.items ≡ cells ++ cell_at cells like ∷ [] =
    repeated nexts starts c.repeat.new.self.nexts.items c.repeat.new.self.starts.items like c.requires.even pushed_next pushed_start in
    let same_lists : lists_of c.repeat.new.self.sets.lists.items ≡ lists_of lists = ap (λ sets. lists_of sets.lists.items) c.in_ok-repeat.ensures.sets in
    let same_backs : c.repeat.new.self.backs.items ≡ backs = ap (λ v. v.items) c.in_ok-repeat.ensures.backs in (
      subst (λ (ls : List (List ℕ)). AreFound m firsts ls (cells_of c.repeat.new.self.nexts.items c.repeat.new.self.starts.items) c.repeat.new.self.backs.items) (sym same_lists)
          (subst (λ (bs : List Back). AreFound m firsts (lists_of lists) (cells_of c.repeat.new.self.nexts.items c.repeat.new.self.starts.items) bs) (sym same_backs)
          (subst (λ (cs : List Cell). AreFound m firsts (lists_of lists) cs backs) (sym pushed) found)),
      omega (arith, more_next, more_start, c.requires.even),
      more_next,
    )
