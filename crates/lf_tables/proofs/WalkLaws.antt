-- A line through the sets, and one run back.
use Rattle.std.proofs.Common.{◌≡◌, ℕ, suc, ◌+◌, ◌<◌, inl, inr, List, [], ◌∷◌, ◌++◌, length, get_or, take, drop, reverse, refl, sym, ap, ◌∙◌, subst, arith, Bool, true, false, Option, None}
use Rattle.std.specs.List.{Contains}
use Rattle.std.proofs.lemmas.List.{take_more, drop_more, reverse-append, get_or_default, get_or-take, get_or_past, length-take}
use Rattle.std.proofs.lemmas.Bool.{cases_lt}
use Rattle.lf_core.specs.declared.marked.Move.{Move}
use Rattle.lf_core.specs.Marked.{Machine, IsRun, IsWholeRun, stop}
use Rattle.lf_core.specs.Runs.{RunsToEnd}
use Rattle.lf_tables.specs.declared.ways.Back.{Back}
use Rattle.lf_tables.specs.Ways.{back_at}
use Rattle.lf_tables.specs.Tabled.{Cell, set_at, cell_of, after, set_after, IsWayBack, IsCell, IsEndOf, IsTabled}
use Rattle.lf_tables.proofs.Reach.{LeadTo, is_one}
use Rattle.lf_tables.proofs.CellLaws.{has_move_to, cell_leads}

after_push : (next : ℕ → ℕ → ℕ) (line : List ℕ) (s b : ℕ) → after next s (line ++ b ∷ []) ≡ next (after next s line) b
after_push next [] s b = refl
after_push next (c ∷ line) s b = after_push next line (next s c) b

-- the set after one byte more
pub after_more : (class_of : List ℕ) (classes : ℕ) (cells : List Cell) (line : List ℕ) (k : ℕ) → k < length line → set_after class_of classes cells (take (k + 1) line) ≡ (cell_of class_of classes cells (set_after class_of classes cells (take k line)) (get_or line k 0)).next
after_more class_of classes cells line k lt =
    ap (set_after class_of classes cells) (take_more line k 0 lt)
    ∙ after_push (λ s b. (cell_of class_of classes cells s b).next) (take k line) 0 (get_or line k 0)

-- one move of the way back
walk_more : (m : Machine) (points next : List ℕ) (b place : ℕ) (x : Back) (rest : List ℕ) (moves : List Move) → IsWayBack m points b x → x.step.to ≡ get_or next place 0 → RunsToEnd m (get_or next place 0) rest (reverse moves) → RunsToEnd m (get_or points x.before 0) (b ∷ rest) (reverse (moves ++ x.step ∷ []))
walk_more m points next b place x rest moves way to ends =
    let turned : reverse (moves ++ x.step ∷ []) ≡ x.step ∷ reverse moves = reverse-append moves (x.step ∷ []) in
    let more : RunsToEnd m x.step.to rest (reverse moves) = subst (λ (p : ℕ). RunsToEnd m p rest (reverse moves)) (sym to) ends in
    subst (λ (run : List Move). RunsToEnd m (get_or points x.before 0) (b ∷ rest) run) (sym turned)
    ((has_move_to (m.moves (get_or points x.before 0) b) x.step way.by, more.0), more.1)

module _ (m : Machine) (sets : List (List ℕ)) (class_of : List ℕ) (classes : ℕ) (cells : List Cell) (backs : List Back) (ends : List (Option ℕ)) (is : IsTabled m sets class_of classes cells backs ends) where
  -- after bytes stands a set
  after_low : (line : List ℕ) (s : ℕ) → s < length sets → ((i : ℕ) → get_or line i 0 < 256) → after (λ s b. (cell_of class_of classes cells s b).next) s line < length sets
  after_low [] s lt bytes = lt
  after_low (b ∷ line) s lt bytes = after_low line (cell_of class_of classes cells s b).next (is.led s b lt (bytes 0)).next (λ i. bytes (suc i))

  take_bytes : (line : List ℕ) (k : ℕ) → ((i : ℕ) → get_or line i 0 < 256) → (i : ℕ) → get_or (take k line) i 0 < 256
  take_bytes line k bytes i = elim (cases_lt i k) [
    | inl lt ↦ omega (arith, bytes i, get_or-take k line i 0 lt)
    | inr ge ↦ omega (arith, get_or_past (take k line) i 0 (omega (arith, ge, length-take k line)))
  ]

  pub set_low : (line : List ℕ) (k : ℕ) → ((i : ℕ) → get_or line i 0 < 256) → set_after class_of classes cells (take k line) < length sets
  set_low line k bytes = after_low (take k line) 0 is.some (take_bytes line k bytes)

  pub last_low : (line : List ℕ) → ((i : ℕ) → get_or line i 0 < 256) → set_after class_of classes cells line < length sets
  last_low line bytes = after_low line 0 is.some bytes

  module _ (line : List ℕ) (bytes : (i : ℕ) → get_or line i 0 < 256) (at : ℕ) (lt : at < length line) where
    abbrev pub cell : Cell
    cell = cell_of class_of classes cells (set_after class_of classes cells (take at line)) (get_or line at 0)

    pub led : IsCell m sets backs (set_at sets (set_after class_of classes cells (take at line))) (get_or line at 0) cell
    led = is.led (set_after class_of classes cells (take at line)) (get_or line at 0) (set_low line at bytes) (bytes at)

    module _ (place : ℕ) (there : place < length (set_at sets (set_after class_of classes cells (take (at + 1) line)))) where
      next : cell.next ≡ set_after class_of classes cells (take (at + 1) line)
      next = sym (after_more class_of classes cells line at lt)

      here : place < length (set_at sets cell.next)
      here = subst (λ (s : ℕ). place < length (set_at sets s)) (sym next) there

      pub back_low : cell.start + place < length backs
      back_low = omega (arith, here, led.within)

      pub before_low : (back_at backs (cell.start + place)).before < length (set_at sets (set_after class_of classes cells (take at line)))
      before_low = (led.ways place here).place

      pub back_more : (moves : List Move) → RunsToEnd m (get_or (set_at sets (set_after class_of classes cells (take (at + 1) line))) place 0) (drop (at + 1) line) (reverse moves) → RunsToEnd m (get_or (set_at sets (set_after class_of classes cells (take at line))) (back_at backs (cell.start + place)).before 0) (drop at line) (reverse (moves ++ (back_at backs (cell.start + place)).step ∷ []))
      back_more moves ends_there =
          let ends_here : RunsToEnd m (get_or (set_at sets cell.next) place 0) (drop (at + 1) line) (reverse moves) =
          subst (λ (s : ℕ). RunsToEnd m (get_or (set_at sets s) place 0) (drop (at + 1) line) (reverse moves)) (sym next) ends_there in
          subst (λ (bs : List ℕ). RunsToEnd m (get_or (set_at sets (set_after class_of classes cells (take at line))) (back_at backs (cell.start + place)).before 0) bs (reverse (moves ++ (back_at backs (cell.start + place)).step ∷ []))) (sym (drop_more line at 0 lt))
          (walk_more m (set_at sets (set_after class_of classes cells (take at line))) (set_at sets cell.next) (get_or line at 0) place (back_at backs (cell.start + place)) (drop (at + 1) line) moves (led.ways place here) (led.from place here) ends_here)

  -- a run stays in the sets
  stays : (line : List ℕ) (run : List Move) (s p : ℕ) → s < length sets → ((i : ℕ) → get_or line i 0 < 256) → IsRun m.moves p line run → Contains (set_at sets s) p → Contains (set_at sets (after (λ s b. (cell_of class_of classes cells s b).next) s line)) (stop p run)
  stays [] [] s p lt bytes r h = h
  stays [] (x ∷ run) s p lt bytes r h = absurd r
  stays (b ∷ line) [] s p lt bytes r h = absurd r
  stays (b ∷ line) (x ∷ run) s p lt bytes r h =
      let one : IsCell m sets backs (set_at sets s) b (cell_of class_of classes cells s b) = is.led s b lt (bytes 0) in
      let lead : LeadTo m (set_at sets s) b (set_at sets (cell_of class_of classes cells s b).next) = cell_leads m sets backs (set_at sets s) b (cell_of class_of classes cells s b) one in
      stays line run (cell_of class_of classes cells s b).next x.to one.next (λ i. bytes (suc i)) r.1 (lead.all p x h r.0)

  -- where no end stands in the last set there is no whole run
  pub no_run : (line : List ℕ) (run : List Move) → ((i : ℕ) → get_or line i 0 < 256) → IsEndOf m (set_at sets (set_after class_of classes cells line)) None → IsWholeRun m line run → ⊥
  no_run line run bytes none whole =
      let in_first : Contains (set_at sets 0) m.first = subst (λ (ps : List ℕ). Contains ps m.first) (sym is.begins) (is_one m.first) in
      let (k, lt, e) = stays line run 0 m.first is.some bytes whole.0 in_first in
      let points : List ℕ = set_at sets (set_after class_of classes cells line) in
      let same : get_or (set_at sets (set_after class_of classes cells line)) k 0 ≡ stop m.first run = get_or_default points k 0 (stop m.first run) lt ∙ e in
      none_true (m.is_end (stop m.first run)) whole.1 (sym (ap m.is_end same) ∙ none.none refl k lt)
    where
      none_true : (b : Bool) → b ≡ true → b ≡ false → ⊥
      none_true b t f = cc

  -- a run from the first set's only point is a whole run
  pub from_first : (line : List ℕ) (place : ℕ) (run : List Move) → place < length (set_at sets 0) → RunsToEnd m (get_or (set_at sets 0) place 0) line run → IsWholeRun m line run
  from_first line place run lt ends_there =
      let one : place < length (m.first ∷ []) = subst (λ (ps : List ℕ). place < length ps) is.begins lt in
      let e : place ≡ 0 = omega (arith, one) in
      let point : get_or (set_at sets 0) place 0 ≡ m.first = ap (λ (ps : List ℕ). get_or ps place 0) is.begins ∙ ap (λ (k : ℕ). get_or (m.first ∷ []) k 0) e in
      subst (λ (p : ℕ). RunsToEnd m p line run) point ends_there
