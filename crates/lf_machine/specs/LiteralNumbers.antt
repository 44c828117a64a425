-- A literal by numbers: a point after each byte.
use Rattle.std.proofs.Common.{◌≡◌, ℕ, ◌+◌, ◌-◌, ◌<◌, inl, inr, List, [], ◌∷◌, length, get_or, drop, true, cond, ltb, ◌==◌, ◌&&◌, refl, sym, ap, ◌∙◌, arith, Contains, add-one, length-drop}
use Rattle.std.proofs.lemmas.Bool.Decides.{leb_tells}
use Rattle.std.proofs.Math.Seq.{drop-cons}
use Rattle.std.proofs.lemmas.Bool.{eqb-true, eq-eqb, lt-ltb, ltb-true, and_parts, and_from}
use Rattle.std.proofs.Math.ListN.{drop_of_length-le}
use Rattle.lf_core.specs.declared.marked.Move.{Move}
use Rattle.lf_machine.specs.Paths.{Step}
use Rattle.lf_machine.specs.Lists.{one-there, there-one, Rises, cond-there, there-cond, rises-guard}
use Rattle.lf_machine.specs.Numbered.{numbered}
use Rattle.lf_machine.specs.Unquoted.{Within, inside, missing, lone, opened, closed, left}
use Rattle.lf_machine.specs.Literal.{passing, LiteralNext, LiteralDone, IsOver}
use Rattle.lf_machine.specs.SlotMoves.{is_nil}

-- the move over the literal's byte at a place: to the place itself
abbrev pub literal_at : List ℕ → ℕ → ℕ → List Move
literal_at bytes i byte = cond (ltb i (length bytes) && get_or bytes i 0 == byte) (record { mark = 0; to = i } ∷ []) []

-- the number of a state
abbrev pub literal_number : List ℕ → Within → ℕ
literal_number bytes (left rest) = length bytes - (length rest + 1)
literal_number bytes (inside s) = 0
literal_number bytes missing = 0
literal_number bytes lone = 0
literal_number bytes opened = 0
literal_number bytes closed = 0

-- the states that have a number
abbrev pub LiteralValid : List ℕ → Within → Type 0
LiteralValid bytes (left rest) = (n : ℕ) × (n < length bytes) × (rest ≡ drop (n + 1) bytes)
LiteralValid bytes (inside s) = ⊥
LiteralValid bytes missing = ⊥
LiteralValid bytes lone = ⊥
LiteralValid bytes opened = ⊥
LiteralValid bytes closed = ⊥

-- the state of a number
abbrev pub literal_state : List ℕ → ℕ → Within
literal_state bytes n = left (drop (n + 1) bytes)

number-of : (bytes rest : List ℕ) (n : ℕ) → n < length bytes → rest ≡ drop (n + 1) bytes → length bytes - (length rest + 1) ≡ n
number-of bytes rest n l e =
    let d : length rest ≡ length bytes - (n + 1) = ap length e ∙ length-drop (n + 1) bytes in
    omega (arith, d)

drop-here : (bytes : List ℕ) (i : ℕ) → i < length bytes → drop i bytes ≡ get_or bytes i 0 ∷ drop (i + 1) bytes
drop-here bytes i h = rw add-one (drop-cons bytes i 0 h)

pub literal-range : (bytes : List ℕ) (s : Within) → LiteralValid bytes s → literal_number bytes s < length bytes
literal-range bytes (left rest) v = let e = number-of bytes rest v.0 v.1 v.2 in let l = v.1 in rw e l
literal-range bytes (inside s) v = absurd v
literal-range bytes missing v = absurd v
literal-range bytes lone v = absurd v
literal-range bytes opened v = absurd v
literal-range bytes closed v = absurd v

pub literal-back : (bytes : List ℕ) (s : Within) → LiteralValid bytes s → literal_state bytes (literal_number bytes s) ≡ s
literal-back bytes (left rest) v = let e = number-of bytes rest v.0 v.1 v.2 in ap (literal_state bytes) e ∙ ap left (sym v.2)
literal-back bytes (inside s) v = absurd v
literal-back bytes missing v = absurd v
literal-back bytes lone v = absurd v
literal-back bytes opened v = absurd v
literal-back bytes closed v = absurd v

pub literal-goes : (bytes : List ℕ) (i byte : ℕ) (m : Move) → Contains (literal_at bytes i byte) m → (a : Step Within) × LiteralNext (drop i bytes) byte a × LiteralValid bytes a.to × (m ≡ numbered (literal_number bytes) a)
literal-goes bytes i byte m h =
    let c = cond-there (ltb i (length bytes) && get_or bytes i 0 == byte) (record { mark = 0; to = i } ∷ []) m h in
    let d = and_parts (ltb i (length bytes)) (get_or bytes i 0 == byte) c.0 in
    let l = ltb-true i (length bytes) d.0 in
    let e = one-there (record { mark = 0; to = i }) m c.1 in
    let n = number-of bytes (drop (i + 1) bytes) i l refl in (
      passing (drop (i + 1) bytes),
      rw (drop-here bytes i l) (sym (eqb-true (get_or bytes i 0) byte d.1), refl),
      (i, l, refl),
      e ∙ ap (λ (x : ℕ). let k : Move = record { mark = 0; to = x } in k) (sym n),
    )

pub literal-gone : (bytes : List ℕ) (i byte : ℕ) (a : Step Within) → LiteralNext (drop i bytes) byte a → LiteralValid bytes a.to × Contains (literal_at bytes i byte) (numbered (literal_number bytes) a)
literal-gone bytes i byte a h =
    elim (leb_tells (length bytes) i) [
      | inl k ↦ let f : ⊥ = rw (drop_of_length-le bytes k.1) at h in absurd f
      | inr k ↦
          let c : LiteralNext (get_or bytes i 0 ∷ drop (i + 1) bytes) byte a = rw (drop-here bytes i k.1) at h in
          let n = number-of bytes (drop (i + 1) bytes) i k.1 refl in
          let mv : Move = record { mark = 0; to = i } in
          let e : numbered (literal_number bytes) a ≡ mv = ap (numbered (literal_number bytes)) c.1 ∙ ap (λ (x : ℕ). let z : Move = record { mark = 0; to = x } in z) n in
          let v : LiteralValid bytes a.to = rw (c.1) (i, k.1, refl) in
          let t = and_from (ltb i (length bytes)) (get_or bytes i 0 == byte) (lt-ltb i (length bytes) k.1) (eq-eqb (get_or bytes i 0) byte (sym c.0)) in
          (v, rw e (there-cond (ltb i (length bytes) && get_or bytes i 0 == byte) (mv ∷ []) mv t (there-one mv)))
    ]

pub literal-rises : (bytes : List ℕ) (i byte : ℕ) → Rises 0 259 (literal_at bytes i byte)
literal-rises bytes i byte =
    let d : Rises 0 259 (record { mark = 0; to = i } ∷ []) = (omega arith, omega arith) in
    rises-guard (ltb i (length bytes) && get_or bytes i 0 == byte) 0 259 (record { mark = 0; to = i } ∷ []) (omega arith) d

over-nil : (rest : List ℕ) → IsOver rest → rest ≡ []
over-nil [] h = refl
over-nil (x ∷ rest) h = absurd h

pub literal-ends : (bytes : List ℕ) (n : ℕ) → n < length bytes → (n + 1 == length bytes) ≡ true → LiteralDone (literal_state bytes n)
literal-ends bytes n l h =
    let e = eqb-true (n + 1) (length bytes) h in
    let d : drop (n + 1) bytes ≡ [] = drop_of_length-le bytes (omega arith) in
    rw d tt

pub literal-ended : (bytes : List ℕ) (n : ℕ) → n < length bytes → LiteralDone (literal_state bytes n) → (n + 1 == length bytes) ≡ true
literal-ended bytes n l h =
    let d : length bytes - (n + 1) ≡ 0 = sym (length-drop (n + 1) bytes) ∙ ap length (over-nil (drop (n + 1) bytes) h) in
    eq-eqb (n + 1) (length bytes) (omega (arith, d))

pub literal-bare : (bytes : List ℕ) → is_nil bytes ≡ true → IsOver bytes
literal-bare [] h = tt
literal-bare (x ∷ rest) h = cc

pub literal-bared : (bytes : List ℕ) → IsOver bytes → is_nil bytes ≡ true
literal-bared [] h = refl
literal-bared (x ∷ rest) h = absurd h
