-- A machine and the one that is written out have the same points, moves, ends and runs.
use Rattle.std.proofs.Common.{◌≡◌, ℕ, ◌<◌, ◌≤◌, inl, inr, List, [], ◌∷◌, length, get_or, sym, ap, ◌∙◌, subst, arith}
use Rattle.std.specs.Prelude.{slice_index_or, All, Contains, ◌↔◌}
use Rattle.std.proofs.lemmas.Bool.{cases_lt}
use Rattle.std.proofs.lemmas.List.{get_or_past}
use Rattle.std.proofs.lemmas.List.Elements.{All-contains}
use Rattle.std.proofs.lemmas.List.FromFn.{length-map-range_with_len, get_or-map-range_with_len}
use Rattle.lf_core.specs.declared.marked.Move.{Move}
use Rattle.lf_core.specs.Marked.{Machine, IsMachine, IsRun, IsWholeRun, NoneTwice, stop}
use Rattle.lf_core.specs.Written.{points_of, moves_at, is_end_at, machine_of, written_row, written}

pub written_points : (m : Machine) → points_of (written m) ≡ m.count
written_points m = length-map-range_with_len (written_row m) 0 m.count

pub written_is_end : (m : Machine) (p : ℕ) → p < m.count → is_end_at (written m) p ≡ m.is_end p
written_is_end m p h = get_or-map-range_with_len m.is_end 0 m.count p p _ h (omega arith)

length_row : (m : Machine) (p : ℕ) → length (written_row m p) ≡ 256
unfolding written_row
length_row m p = length-map-range_with_len (m.moves p) 0 256

row_at : (m : Machine) (p b : ℕ) → b < 256 → get_or (written_row m p) b [] ≡ m.moves p b
unfolding written_row
row_at m p b h = get_or-map-range_with_len (m.moves p) 0 256 b b [] h (omega arith)

row_is : (m : Machine) (p : ℕ) → p < m.count → get_or (written m).rows p [] ≡ written_row m p
row_is m p h = get_or-map-range_with_len (written_row m) 0 m.count p p [] h (omega arith)

pub written_moves : (m : Machine) (p b : ℕ) → p < m.count → b < 256 → moves_at (written m) p b ≡ m.moves p b
written_moves m p b hp hb = ap (λ (row : List (List Move)). slice_index_or row b []) (row_is m p hp) ∙ row_at m p b hb

no_moves : (m : Machine) (p b : ℕ) → p < m.count → 256 ≤ b → moves_at (written m) p b ≡ []
no_moves m p b hp hb =
    ap (λ (row : List (List Move)). slice_index_or row b []) (row_is m p hp)
    ∙ get_or_past (written_row m p) b [] (omega (arith, length_row m p, hb))

-- of a lawful machine, at any number
pub same_moves : (m : Machine) (p b : ℕ) → IsMachine m → p < m.count → moves_at (written m) p b ≡ m.moves p b
same_moves m p b lawful hp =
    elim (cases_lt b 256) [
      | inl lt ↦ written_moves m p b hp lt
      | inr ge ↦ no_moves m p b hp ge ∙ sym (lawful.bytes p b hp ge)
    ]

pub move_stays : (m : Machine) (p b : ℕ) (x : Move) → IsMachine m → p < m.count → Contains (m.moves p b) x → x.to < m.count
move_stays m p b x lawful hp h = All-contains (λ (y : Move). y.to < m.count) (m.moves p b) x (lawful.stays p b hp) h

-- what is written out is lawful too
pub written_is_machine : (m : Machine) → IsMachine m → IsMachine (machine_of (written m))
written_is_machine m lawful =
    let n : points_of (written m) ≡ m.count = written_points m in
    record {
      begins = omega (arith, n, lawful.begins);
      once = λ p b h. subst (λ (xs : List Move). NoneTwice xs) (sym (same_moves m p b lawful (omega (arith, n, h)))) (lawful.once p b (omega (arith, n, h)));
      stays = λ p b h.
          subst (λ (xs : List Move). All (λ (y : Move). y.to < points_of (written m)) xs) (sym (same_moves m p b lawful (omega (arith, n, h))))
          (subst (λ (k : ℕ). All (λ (y : Move). y.to < k) (m.moves p b)) (sym n) (lawful.stays p b (omega (arith, n, h))));
      bytes = λ p b h k. no_moves m p b (omega (arith, n, h)) k;
    }

pub written_run : (m : Machine) (p : ℕ) (line : List ℕ) (run : List Move) → IsMachine m → p < m.count → IsRun m.moves p line run → IsRun (moves_at (written m)) p line run
written_run m p [] [] lawful hp h = h
written_run m p (b ∷ line) (x ∷ run) lawful hp h = (
  subst (λ (xs : List Move). Contains xs x) (sym (same_moves m p b lawful hp)) h.0,
  written_run m x.to line run lawful (move_stays m p b x lawful hp h.0) h.1,
)
written_run m p [] (x ∷ run) lawful hp h = absurd h
written_run m p (b ∷ line) [] lawful hp h = absurd h

pub run_written : (m : Machine) (p : ℕ) (line : List ℕ) (run : List Move) → IsMachine m → p < m.count → IsRun (moves_at (written m)) p line run → IsRun m.moves p line run
run_written m p [] [] lawful hp h = h
run_written m p (b ∷ line) (x ∷ run) lawful hp h =
    let there : Contains (m.moves p b) x = subst (λ (xs : List Move). Contains xs x) (same_moves m p b lawful hp) h.0 in
    (there, run_written m x.to line run lawful (move_stays m p b x lawful hp there) h.1)
run_written m p [] (x ∷ run) lawful hp h = absurd h
run_written m p (b ∷ line) [] lawful hp h = absurd h

-- a run stops at a point
pub stop_below : (m : Machine) (p : ℕ) (line : List ℕ) (run : List Move) → IsMachine m → p < m.count → IsRun m.moves p line run → stop p run < m.count
stop_below m p [] [] lawful hp h = hp
stop_below m p (b ∷ line) (x ∷ run) lawful hp h = stop_below m x.to line run lawful (move_stays m p b x lawful hp h.0) h.1
stop_below m p [] (x ∷ run) lawful hp h = absurd h
stop_below m p (b ∷ line) [] lawful hp h = absurd h

-- both have the same whole runs
pub same_whole_runs : (m : Machine) (line : List ℕ) (run : List Move) → IsMachine m → IsWholeRun m line run ↔ IsWholeRun (machine_of (written m)) line run
same_whole_runs m line run lawful = (
  λ h. (
    written_run m m.first line run lawful lawful.begins h.0,
    written_is_end m (stop m.first run) (stop_below m m.first line run lawful lawful.begins h.0) ∙ h.1,
  ),
  λ h.
      let back : IsRun m.moves m.first line run = run_written m m.first line run lawful lawful.begins h.0 in
      (back, sym (written_is_end m (stop m.first run) (stop_below m m.first line run lawful lawful.begins back)) ∙ h.1),
)
