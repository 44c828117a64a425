-- A literal has one whole run, over its bytes.
use Rattle.std.proofs.Common.{◌≡◌, ℕ, List, [], ◌∷◌, refl, ap, ◌∙◌}
use Rattle.lf_machine.specs.Paths.{Step, IsPath, last}
use Rattle.lf_machine.specs.Parts.{IsWhole}
use Rattle.lf_machine.specs.Unquoted.{Within, left}
use Rattle.lf_machine.specs.Literal.{passing, LiteralCan, LiteralDone, literal_run, literal_part}

literal-path : (line rest : List ℕ) (run : List (Step Within)) → IsPath LiteralCan (left rest) line run → LiteralDone (last (left rest) run) → (line ≡ rest) × (run ≡ literal_run rest)
literal-path [] [] [] p d = (refl, refl)
literal-path [] (x ∷ rest) [] p d = absurd d
literal-path [] rest (m ∷ run) p d = absurd p
literal-path (b ∷ line) rest [] p d = absurd p
literal-path (b ∷ line) [] (m ∷ run) p d = absurd p.0
literal-path (b ∷ line) (x ∷ rest) (m ∷ run) p d =
    let q : IsPath LiteralCan (left rest) line run = rw (p.0.1) at p.1 in
    let f : LiteralDone (last (left rest) run) = rw (p.0.1) at d in
    let r = literal-path line rest run q f in
    (ap (λ (z : ℕ). z ∷ line) p.0.0 ∙ ap (λ (z : List ℕ). x ∷ z) r.0, ap (λ (z : Step Within). z ∷ run) p.0.1 ∙ ap (λ (z : List (Step Within)). passing rest ∷ z) r.1)

path-literal : (rest : List ℕ) → IsPath LiteralCan (left rest) rest (literal_run rest) × LiteralDone (last (left rest) (literal_run rest))
path-literal [] = (tt, tt)
path-literal (x ∷ rest) = let r = path-literal rest in (((refl, refl), r.0), r.1)

-- a literal has one whole run, over its bytes
pub literal-sound : (bytes line : List ℕ) (run : List (Step Within)) → IsWhole (literal_part bytes) line run → (line ≡ bytes) × (run ≡ literal_run bytes)
literal-sound [] [] [] h = (refl, refl)
literal-sound (x ∷ rest) [] [] h = absurd h
literal-sound bytes [] (m ∷ run) h = absurd h
literal-sound bytes (b ∷ line) [] h = absurd h
literal-sound [] (b ∷ line) (m ∷ run) h = absurd h.0
literal-sound (x ∷ rest) (b ∷ line) (m ∷ run) h =
    let q : IsPath LiteralCan (left rest) line run = rw (h.0.1) at h.1 in
    let f : LiteralDone (last (left rest) run) = rw (h.0.1) at h.2 in
    let r = literal-path line rest run q f in
    (ap (λ (z : ℕ). z ∷ line) h.0.0 ∙ ap (λ (z : List ℕ). x ∷ z) r.0, ap (λ (z : Step Within). z ∷ run) h.0.1 ∙ ap (λ (z : List (Step Within)). passing rest ∷ z) r.1)

pub literal-complete : (bytes : List ℕ) → IsWhole (literal_part bytes) bytes (literal_run bytes)
literal-complete [] = tt
literal-complete (x ∷ rest) = let r = path-literal rest in ((refl, refl), r.0, r.1)
