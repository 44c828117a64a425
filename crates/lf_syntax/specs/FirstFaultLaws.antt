-- In a text of parts joined by a byte, the first part with a fault decides.
use Rattle.std.proofs.Common.{◌≡◌, ℕ, zero, suc, ◌-◌, ◌+◌, ◌<◌, ◌≤◌, inl, inr, eqb, Bool, true, false, cond, List, [], ◌∷◌, ◌++◌, length, take, refl, sym, ap, subst, ◌∙◌, append-nil, append_assoc, length-append, arith}
use Rattle.std.proofs.lemmas.Bool.{cases_lt}
use Rattle.std.proofs.lemmas.List.{take-append-le}
use Rattle.std.proofs.Math.Seq.{take-append-add}
use Rattle.lf_syntax.specs.LeafLaws.{bool_cases, eqb-is}
use Rattle.lf_syntax.specs.Grammar.{Grammar, Each, Spells, Nested}
use Rattle.lf_syntax.specs.Places.{IsViable, FaultPlace}
use Rattle.lf_syntax.specs.Cuts.{avoids, onto_first, cuts, front_of, from_first, further_cuts, ended, separated}
use Rattle.lf_syntax.specs.CutLaws.{Free, free, nested-free, leaf-free, cuts-on, cuts-end, rejoined, cut_parts}

-- the text ends, or goes on with the byte
abbrev AtByte : ℕ → List ℕ → Type 0
AtByte b [] = Unit {0}
AtByte b (x ∷ w) = eqb x b ≡ true

module _ (b : ℕ) where
  front-free : (w : List ℕ) → Free b (front_of b w)
  front-free [] = tt
  front-free (x ∷ w) =
      elim (bool_cases (eqb x b)) [
        | inl t ↦ subst (λ (y : Bool). Free b (cond y [] (x ∷ front_of b w))) (sym t) tt
        | inr f ↦ subst (λ (y : Bool). Free b (cond y [] (x ∷ front_of b w))) (sym f) (f, front-free w)
      ]

  from-at : (w : List ℕ) → AtByte b (from_first b w)
  from-at [] = tt
  from-at (x ∷ w) =
      elim (bool_cases (eqb x b)) [
        | inl t ↦ subst (λ (y : Bool). AtByte b (cond y (x ∷ w) (from_first b w))) (sym t) t
        | inr f ↦ subst (λ (y : Bool). AtByte b (cond y (x ∷ w) (from_first b w))) (sym f) (from-at w)
      ]

  pub front-from : (w : List ℕ) → front_of b w ++ from_first b w ≡ w
  front-from [] = refl
  front-from (x ∷ w) =
      elim (eqb x b) as (λ y. cond y [] (x ∷ front_of b w) ++ cond y (x ∷ w) (from_first b w) ≡ x ∷ w) [
        | true ↦ refl
        | false ↦ ap (λ (v : List ℕ). x ∷ v) (front-from w)
      ]

  pub cuts-front : (w : List ℕ) → cuts b w ≡ front_of b w ∷ further_cuts b (from_first b w)
  cuts-front [] = refl
  cuts-front (x ∷ w) =
      elim (eqb x b) as (λ y. cond y ([] ∷ cuts b w) (onto_first x (cuts b w)) ≡ cond y [] (x ∷ front_of b w) ∷ further_cuts b (cond y (x ∷ w) (from_first b w))) [
        | true ↦ refl
        | false ↦ ap (λ (ps : List (List ℕ)). onto_first x ps) (cuts-front w)
      ]

  pub front-on : (u r : List ℕ) → Free b u → front_of b (u ++ r) ≡ u ++ front_of b r
  front-on [] r h = refl
  front-on (x ∷ u) r h =
      ap (λ (y : Bool). cond y [] (x ∷ front_of b (u ++ r))) h.0 ∙ ap (λ (v : List ℕ). x ∷ v) (front-on u r h.1)

  pub from-on : (u r : List ℕ) → Free b u → from_first b (u ++ r) ≡ from_first b r
  from-on [] r h = refl
  from-on (x ∷ u) r h = ap (λ (y : Bool). cond y (x ∷ (u ++ r)) (from_first b (u ++ r))) h.0 ∙ from-on u r h.1

  free-take : (n : ℕ) (u : List ℕ) → Free b u → Free b (take n u)
  free-take zero u h = tt
  free-take (suc n) [] h = tt
  free-take (suc n) (x ∷ u) h = (h.0, free-take n u h.1)

  each-right : (P : List ℕ → Type 0) (ws vs : List (List ℕ)) → Each P (ws ++ vs) → Each P vs
  each-right P [] vs h = h
  each-right P (w ∷ ws) vs h = each-right P ws vs h.1

  each-both : (P : List ℕ → Type 0) (ws vs : List (List ℕ)) → Each P ws → Each P vs → Each P (ws ++ vs)
  each-both P [] vs h k = k
  each-both P (w ∷ ws) vs h k = (h.0, each-both P ws vs h.1 k)

  cuts-ended : (P : List ℕ → Type 0) → ((w : List ℕ) → P w → Free b w) → (ws : List (List ℕ)) (r : List ℕ) → Each P ws → cuts b (ended b ws ++ r) ≡ ws ++ cuts b r
  cuts-ended P f [] r h = refl
  cuts-ended P f (w ∷ ws) r h =
      ap (λ (v : List ℕ). cuts b v) (append_assoc w (b ∷ ended b ws) r)
      ∙ cuts-on b w (ended b ws ++ r) (f w h.0)
      ∙ ap (λ (ps : List (List ℕ)). w ∷ ps) (cuts-ended P f ws r h.1)

  -- what is left after the piece, cut anywhere: the piece is still the first
  cut_after : (piece after r : List ℕ) (k : ℕ) → Free b piece → AtByte b after → suc k ≤ length after → front_of b ((piece ++ take (suc k) after) ++ r) ≡ piece
  cut_after piece [] r k f at h = absurd (omega arith)
  cut_after piece (x ∷ z) r k f at h =
      ap (λ (v : List ℕ). front_of b v) (append_assoc piece (x ∷ take k z) r)
      ∙ front-on piece (x ∷ (take k z ++ r)) f
      ∙ ap (λ (y : Bool). piece ++ cond y [] (x ∷ front_of b (take k z ++ r))) at
      ∙ append-nil piece

  module _ (rule part : Grammar) (d : ℕ) (a : avoids b rule ≡ true) (c : avoids b part ≡ true) (done : List (List ℕ)) (each : Each (Spells (Nested rule d) part) done) where
    abbrev P : List ℕ → Type 0
    P = Spells (Nested rule d) part

    abbrev L : List ℕ → Type 0
    L = Spells (Nested rule d) (separated b part)

    abbrev E : List ℕ
    E = ended b done

    part-free : (w : List ℕ) → P w → Free b w
    part-free = free b (Nested rule d) (nested-free b rule a d) (leaf-free b) part c

    next : (r : List ℕ) → L (E ++ r) → P (front_of b r)
    next r h =
        let all : Each P (cuts b (E ++ r)) = cut_parts b rule part d (E ++ r) a c h in
        let there : Each P (done ++ cuts b r) = subst (λ (ps : List (List ℕ)). Each P ps) (cuts-ended P part-free done r each) all in
        let right : Each P (front_of b r ∷ further_cuts b (from_first b r)) = subst (λ (ps : List (List ℕ)). Each P ps) (cuts-front r) (each-right P done (cuts b r) there) in
        right.0

    whole : (w : List ℕ) → P w → L (E ++ w)
    whole w h =
        let all : Each P (done ++ (w ∷ [])) = each-both P done (w ∷ []) each (h, tt) in
        let e : cuts b (E ++ w) ≡ done ++ (w ∷ []) = cuts-ended P part-free done w each ∙ ap (λ (ps : List (List ℕ)). done ++ ps) (cuts-end b w (part-free w h)) in
        rejoined b (Nested rule d) part (E ++ w) (subst (λ (ps : List (List ℕ)). Each P ps) (sym e) all)

    -- the prefix of the whole text that reaches so far into what is left
    reach : (rest r : List ℕ) (m : ℕ) → take (length E + m) (E ++ rest) ++ r ≡ E ++ (take m rest ++ r)
    reach rest r m = ap (λ (v : List ℕ). v ++ r) (take-append-add E rest m) ∙ append_assoc E (take m rest) r

    module _ (rest : List ℕ) (place : ℕ) (f : FaultPlace P (front_of b rest) place) where
      abbrev piece : List ℕ
      piece = front_of b rest

      abbrev after : List ℕ
      after = from_first b rest

      short-take : (m : ℕ) → m ≤ length piece → take m rest ≡ take m piece
      short-take m h = ap (λ (v : List ℕ). take m v) (sym (front-from rest)) ∙ take-append-le m piece after h

      lengths : length rest ≡ length piece + length after
      lengths = ap (λ (v : List ℕ). length v) (sym (front-from rest)) ∙ length-append piece after

      lives : IsViable L (take (length E + place) (E ++ rest))
      lives =
          let r = f.at.viable.0 in
          let e : take (length E + place) (E ++ rest) ++ r ≡ E ++ (take place piece ++ r) = reach rest r place ∙ ap (λ (v : List ℕ). E ++ (v ++ r)) (short-take place f.at.within) in
          (r, subst L (sym e) (whole (take place piece ++ r) f.at.viable.1))

      within_piece : (m : ℕ) (r : List ℕ) → place < m → m ≤ length piece → P (front_of b (take m rest ++ r)) → ⊥
      within_piece m r more h p =
          let e : front_of b (take m rest ++ r) ≡ take m piece ++ front_of b r =
          ap (λ (v : List ℕ). front_of b (v ++ r)) (short-take m h) ∙ front-on (take m piece) r (free-take m piece (front-free rest)) in
          f.at.longest m more h (front_of b r, subst P e p)

      past_piece : (k : ℕ) (r : List ℕ) → suc k ≤ length after → P (front_of b (take (length piece + suc k) rest ++ r)) → ⊥
      past_piece k r h p =
          let e : take (length piece + suc k) rest ≡ piece ++ take (suc k) after = ap (λ (v : List ℕ). take (length piece + suc k) v) (sym (front-from rest)) ∙ take-append-add piece after (suc k) in
          let q : front_of b (take (length piece + suc k) rest ++ r) ≡ piece = ap (λ (v : List ℕ). front_of b (v ++ r)) e ∙ cut_after piece after r k (front-free rest) (from-at rest) h in
          f.fault (subst P q p)

      no_longer : (m : ℕ) (r : List ℕ) → place < m → m ≤ length rest → P (front_of b (take m rest ++ r)) → ⊥
      no_longer m r more most p =
          elim (cases_lt (length piece) m) [
            | inr h ↦ within_piece m r more h p
            | inl h ↦
                let k = m - length piece - 1 in
                let e : m ≡ length piece + suc k = omega (arith, h) in
                let fits : suc k ≤ length after = omega (arith, lengths, most, h) in
                past_piece k r fits (subst (λ (n : ℕ). P (front_of b (take n rest ++ r))) e p)
          ]

      pub first_fault : FaultPlace L (E ++ rest) (length E + place)
      first_fault = record {
        at = record {
          within = let w : place ≤ length piece = f.at.within in omega (arith, w, lengths, length-append E rest);
          viable = lives;
          longest = λ longer more most viable.
              let m = longer - length E in
              let e : longer ≡ length E + m = omega (arith, more) in
              let h : L (take (length E + m) (E ++ rest) ++ viable.0) = subst (λ (n : ℕ). L (take n (E ++ rest) ++ viable.0)) e viable.1 in
              let p : P (front_of b (take m rest ++ viable.0)) = next (take m rest ++ viable.0) (subst L (reach rest viable.0 m) h) in
              no_longer m viable.0 (omega (arith, more)) (omega (arith, most, length-append E rest)) p;
        };
        fault = λ h. f.fault (next rest h);
      }
