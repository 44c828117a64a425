-- Lines block by block.
use Rattle.std.proofs.Common.{◌≡◌, ℕ, ◌+◌, ◌*◌, ◌<◌, true, List, [], ◌∷◌, ◌++◌, length, take, drop, sym, ap, ◌∙◌, subst, arith}
use Rattle.std.specs.Prelude.{◌↔◌}
use Rattle.std.specs.List.{Contains}
use Rattle.std.proofs.Math.Nat.{suc-mul}
use Rattle.std.proofs.Math.Numerals.{add-one}
use Rattle.std.proofs.Math.Seq.{take-length, take-add}
use Rattle.std.proofs.lemmas.List.{take-append-drop, drop-drop, append-nil}
use Rattle.lf_core.specs.declared.marked.Move.{Move}
use Rattle.lf_core.specs.Marked.{Machine, IsMachine, IsWholeRun, stop}
use Rattle.lf_sets.specs.declared.forest.Node.{Node}
use Rattle.lf_core.specs.Runs.{RunsToEnd}
use Rattle.lf_sets.specs.Reached.{IsLedTo, ArePoints, AreReached}
use Rattle.lf_sets.specs.Forests.{point_at, HasPoint, IsTraced}
use Rattle.lf_sets.proofs.Runs.{led_join, led_cut, led_below, whole_led}
use Rattle.lf_sets.proofs.Levels.{trail_leads}

next_start : (k size : ℕ) → (k + 1) * size ≡ k * size + size
next_start k size = ap (λ (n : ℕ). n * size) (add-one k) ∙ suc-mul k size

block_is : (line block : List ℕ) (k size : ℕ) → length block ≡ size → block ≡ take (length block) (drop (k * size) line) → block ≡ take size (drop (k * size) line)
block_is line block k size long is = is ∙ ap (λ (n : ℕ). take n (drop (k * size) line)) long

pub block_next : (line block : List ℕ) (k size : ℕ) → length block ≡ size → block ≡ take (length block) (drop (k * size) line) → take ((k + 1) * size) line ≡ take (k * size) line ++ block
block_next line block k size long is =
    ap (λ (n : ℕ). take n line) (next_start k size) ∙ take-add (k * size) size line
    ∙ ap (λ (bs : List ℕ). take (k * size) line ++ bs) (sym (block_is line block k size long is))

pub block_rest : (line block : List ℕ) (k size : ℕ) → length block ≡ size → block ≡ take (length block) (drop (k * size) line) → drop (k * size) line ≡ block ++ drop ((k + 1) * size) line
block_rest line block k size long is =
    sym (take-append-drop size (drop (k * size) line))
    ∙ ap (λ (bs : List ℕ). bs ++ drop size (drop (k * size) line)) (sym (block_is line block k size long is))
    ∙ ap (λ (bs : List ℕ). block ++ bs) (drop-drop size (k * size) line ∙ ap (λ (n : ℕ). drop n line) (sym (next_start k size)))

pub level_led : (m : Machine) (points block : List ℕ) (nodes : List Node) (level p : ℕ) → IsTraced m points block (length block) nodes level → HasPoint nodes level p → IsLedTo m points block p
level_led m points block nodes level p traced (place, from, lt, is) =
    subst (IsLedTo m points block) is
    (subst (λ (bs : List ℕ). IsLedTo m points bs (point_at nodes place)) (take-length block)
    (trail_leads m points block nodes (length block) place (omega arith) (traced.trails place from lt)))

pub level_has : (m : Machine) (points block : List ℕ) (nodes : List Node) (level p : ℕ) → IsTraced m points block (length block) nodes level → IsLedTo m points block p → HasPoint nodes level p
level_has m points block nodes level p traced led = traced.all p (subst (λ (bs : List ℕ). IsLedTo m points bs p) (sym (take-length block)) led)

-- one checkpoint more
pub reached_next : (m : Machine) (before block line points new : List ℕ) (nodes : List Node) (level : ℕ) → line ≡ before ++ block → AreReached m before points → IsTraced m points block (length block) nodes level → ((p : ℕ) → Contains new p ↔ HasPoint nodes level p) → AreReached m line new
reached_next m before block line points new nodes level is are traced same = record {
  reached = λ p h. subst (λ (bs : List ℕ). IsLedTo m (m.first ∷ []) bs p) (sym is)
      (led_join m before block points p are (level_led m points block nodes level p traced ((same p).0 h)));
  all = λ p h. (same p).1 (level_has m points block nodes level p traced
      (led_cut m before block points p are (subst (λ (bs : List ℕ). IsLedTo m (m.first ∷ []) bs p) is h)));
}

-- each node of the level is of a point of the machine
pub level_below : (m : Machine) (points block : List ℕ) (nodes : List Node) (level place : ℕ) → IsMachine m → ArePoints m points → IsTraced m points block (length block) nodes level → HasPoint nodes level place → place < m.count
level_below m points block nodes level p lawful below traced h = led_below m points block p lawful below (level_led m points block nodes level p traced h)

-- where no node of the last level is of an end, there is no whole run
pub no_whole : (m : Machine) (line block points : List ℕ) (first : ℕ) (nodes : List Node) (level : ℕ) (run : List Move) → block ≡ drop first line → AreReached m (take first line) points → IsTraced m points block (length block) nodes level → ((p : ℕ) → HasPoint nodes level p → m.is_end p ≡ true → ⊥) → IsWholeRun m line run → ⊥
no_whole m line block points first nodes level run is are traced none whole =
    let p : ℕ = stop m.first run in
    let cut : line ≡ take first line ++ block = sym (take-append-drop first line) ∙ ap (λ (bs : List ℕ). take first line ++ bs) (sym is) in
    let led : IsLedTo m points block p = led_cut m (take first line) block points p are (subst (λ (bs : List ℕ). IsLedTo m (m.first ∷ []) bs p) cut (whole_led m line run whole)) in
    none p (level_has m points block nodes level p traced led) whole.1

-- the run over the last block
pub last_ends : (m : Machine) (line block : List ℕ) (first p : ℕ) (run : List Move) → block ≡ drop first line → RunsToEnd m p (block ++ []) run → RunsToEnd m p (drop first line) run
last_ends m line block first p run is h = subst (λ (bs : List ℕ). RunsToEnd m p bs run) (append-nil block ∙ is) h
