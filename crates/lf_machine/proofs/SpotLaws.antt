-- The spot of a point tells where the moves from it are listed.
use Rattle.std.proofs.Common.{◌≡◌, ℕ, zero, suc, ◌+◌, ◌-◌, ◌<◌, ◌≤◌, inl, inr, List, [], ◌∷◌, ◌++◌, length, get_or, Bool, false, ltb, refl, sym, ap, subst, ◌∙◌, arith, add-one, append_assoc, length-append}
use Rattle.std.proofs.lemmas.Bool.Decides.{nat_tests, leb_tells}
use Rattle.std.proofs.lemmas.List.{get_or_default, get_or-append_right}
use Rattle.std.proofs.Math.ListN.{get_or-append}
use Rattle.std.proofs.Math.Seq.{get_or-append_seam}
use Rattle.lf_format.specs.declared.format.Piece.{Piece}
use Rattle.lf_machine.specs.LineMachine.{line_points}
use Rattle.lf_machine.specs.PieceNumbers.{piece_count, piece_is_done}
use Rattle.lf_machine.specs.Spots.{spot_of, piece_spots, spots_from, IsSpotOf}
use Rattle.lf_machine.specs.declared.spots.Spot.{Spot}

here : (p : Piece) (ps : List Piece) (base point : ℕ) → base ≤ point → point < base + piece_count p → IsSpotOf (p ∷ ps) base point 0 base (piece_is_done p (point - base))
here p ps base point h g = record {
  within = omega arith;
  first = (h, g, refl);
  moves = λ byte. refl;
  done = refl;
  points = omega arith;
  fewer = omega arith;
}

later : (p : Piece) (ps : List Piece) (base point part start : ℕ) (stops : Bool) → base + piece_count p ≤ point → IsSpotOf ps (base + piece_count p) point part start stops → IsSpotOf (p ∷ ps) base point (suc part) start stops
later p ps base point part start stops h is =
    let past : ltb point (base + piece_count p) ≡ false = grind (arith, nat_tests) in
    record {
      within = let w = is.within in omega (arith, w);
      first = is.first;
      moves = λ byte. rw past (is.moves byte);
      done = rw past is.done;
      points = let q = is.points in omega (arith, q);
      fewer = let q = is.fewer in omega (arith, q);
    }

abbrev pub no_spot : Spot
no_spot = record { part = 0; base = 0; done = false }

module _ (number base : ℕ) (p : Piece) where
  pub own-none : piece_spots number base p 0 ≡ []
  unfolding piece_spots
  own-none = refl

  -- one more point
  pub own-more : (old now new : List Spot) (n : ℕ) (done : Bool) → now ≡ old ++ piece_spots number base p n → done ≡ piece_is_done p n → new ≡ now ++ record { part = number; base = base; done = done } ∷ [] → new ≡ old ++ piece_spots number base p (n + 1)
  unfolding piece_spots
  own-more old now new n done h e g =
      g ∙ ap (λ (b : Bool). now ++ record { part = number; base = base; done = b } ∷ []) e
      ∙ ap (λ (xs : List Spot). xs ++ spot_of number base p n ∷ []) h ∙ append_assoc old (piece_spots number base p n) (spot_of number base p n ∷ [])
      ∙ ap (λ (k : ℕ). old ++ piece_spots number base p k) (sym (add-one n))

  own-length : (n : ℕ) → length (piece_spots number base p n) ≡ n
  unfolding piece_spots
  own-length zero = refl
  own-length (suc n) = let r = own-length n in omega (arith, length-append (piece_spots number base p n) (spot_of number base p n ∷ []), r)

  own-at : (n at : ℕ) → at < n → get_or (piece_spots number base p n) at no_spot ≡ spot_of number base p at
  unfolding piece_spots
  own-at zero at h = absurd (omega (arith, h))
  own-at (suc n) at h =
      let many = own-length n in
      elim (leb_tells n at) [
        | inl k ↦
            let z : at ≡ n = omega (arith, k.1, h) in
            let y : at ≡ length (piece_spots number base p n) = omega (arith, z, many) in
            ap (λ (i : ℕ). get_or (piece_spots number base p n ++ spot_of number base p n ∷ []) i no_spot) y
            ∙ get_or-append_seam (piece_spots number base p n) (spot_of number base p n) [] no_spot
            ∙ ap (spot_of number base p) (sym z)
        | inr k ↦ get_or-append (piece_spots number base p n) (spot_of number base p n ∷ []) no_spot at (omega (arith, k.1, many)) ∙ own-at n at k.1
      ]

abbrev pub spot_at : ℕ → ℕ → List Piece → ℕ → Spot
spot_at number base ps at = get_or (spots_from number base ps) at no_spot

pub spots-length : (ps : List Piece) (number base : ℕ) → length (spots_from number base ps) ≡ line_points ps
spots-length [] number base = refl
spots-length (p ∷ ps) number base =
    let a = own-length number base p (piece_count p) in
    let r = spots-length ps (number + 1) (base + piece_count p) in
    omega (arith, length-append (piece_spots number base p (piece_count p)) (spots_from (number + 1) (base + piece_count p) ps), a, r)

in-first : (p : Piece) (ps : List Piece) (number base at : ℕ) → at < piece_count p → spot_at number base (p ∷ ps) at ≡ spot_of number base p at
in-first p ps number base at h =
    let a = own-length number base p (piece_count p) in
    get_or-append (piece_spots number base p (piece_count p)) (spots_from (number + 1) (base + piece_count p) ps) no_spot at (omega (arith, a, h))
    ∙ own-at number base p (piece_count p) at h

in-later : (p : Piece) (ps : List Piece) (number base at : ℕ) → piece_count p ≤ at → spot_at number base (p ∷ ps) at ≡ spot_at (number + 1) (base + piece_count p) ps (at - piece_count p)
in-later p ps number base at h =
    get_or-append_right (piece_spots number base p (piece_count p)) (spots_from (number + 1) (base + piece_count p) ps) (piece_count p) at no_spot (own-length number base p (piece_count p)) h

-- the spot tells of the point; its part has the number behind the first one's
abbrev Tells : List Piece → ℕ → ℕ → ℕ → Spot → Type 0
Tells ps number base point s = (part : ℕ) × (s.part ≡ number + part) × IsSpotOf ps base point part s.base s.done

spots-tell : (ps : List Piece) (number base point : ℕ) → base ≤ point → point < base + line_points ps → Tells ps number base point (spot_at number base ps (point - base))
spots-tell [] number base point h g = absurd (omega arith)
spots-tell (p ∷ ps) number base point h g =
    elim (leb_tells (base + piece_count p) point) [
      | inl k ↦
          let past : piece_count p ≤ point - base = omega (arith, k.1) in
          let e = in-later p ps number base (point - base) past in
          let z : (point - base) - piece_count p ≡ point - (base + piece_count p) = omega arith in
          let s : spot_at number base (p ∷ ps) (point - base) ≡ spot_at (number + 1) (base + piece_count p) ps (point - (base + piece_count p)) = e ∙ ap (spot_at (number + 1) (base + piece_count p) ps) z in
          let r = spots-tell ps (number + 1) (base + piece_count p) point k.1 (omega (arith, g)) in
          let t : Spot = spot_at (number + 1) (base + piece_count p) ps (point - (base + piece_count p)) in
          subst (Tells (p ∷ ps) number base point) (sym s) (suc r.0, r.1 ∙ omega arith, later p ps base point r.0 t.base t.done k.1 r.2)
      | inr k ↦
          let s = in-first p ps number base (point - base) (omega (arith, k.1)) in
          subst (Tells (p ∷ ps) number base point) (sym s) (0, omega arith, here p ps base point h k.1)
    ]

-- the spot of a point of the line
pub spot-tells : (ps lay : List Piece) (spots : List Spot) (point : ℕ) (s : Spot) → spots ≡ spots_from 0 1 lay → lay ≡ ps → 1 ≤ point → point < line_points ps + 1 → s ≡ get_or spots (point - 1) s → IsSpotOf ps 1 point s.part s.base s.done
spot-tells ps lay spots point s e same h g is =
    let same_spots : spots ≡ spots_from 0 1 ps = e ∙ ap (spots_from 0 1) same in
    let many : length spots ≡ line_points ps = ap length same_spots ∙ spots-length ps 0 1 in
    let k : s ≡ spot_at 0 1 ps (point - 1) = is ∙ get_or_default spots (point - 1) s no_spot (omega (arith, many, h, g)) ∙ ap (λ (xs : List Spot). get_or xs (point - 1) no_spot) same_spots in
    let r = subst (Tells ps 0 1 point) (sym k) (spots-tell ps 0 1 point h (omega (arith, g))) in
    let n : r.0 ≡ s.part = sym (r.1 ∙ omega arith) in
    subst (λ (p : ℕ). IsSpotOf ps 1 point p s.base s.done) n r.2

-- there is a spot for each point behind the first
pub spots-many : (ps lay : List Piece) (spots : List Spot) (point count : ℕ) → spots ≡ spots_from 0 1 lay → lay ≡ ps → 1 ≤ point → point < line_points ps + 1 → count ≡ length spots → point - 1 < count
spots-many ps lay spots point count e same h g n =
    let many : length spots ≡ line_points ps = ap length e ∙ spots-length lay 0 1 ∙ ap line_points same in
    omega (arith, many, n, h, g)
