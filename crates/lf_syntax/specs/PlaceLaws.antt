-- The place of a fault: at most one, and found by any scan.
use Rattle.std.proofs.Common.{◌≡◌, ℕ, zero, suc, ◌+◌, ◌<◌, ◌≤◌, ◌⊎◌, inl, inr, Bool, true, Option, Some, None, List, [], ◌∷◌, ◌++◌, length, get_or, take, drop, refl, sym, subst, add-one, zero-add, arith}
use Rattle.std.proofs.lemmas.Bool.{cases_lt}
use Rattle.std.proofs.Math.Seq.{drop-cons, drop-length}
use Rattle.lf_syntax.specs.LeafLaws.{bool_cases}
use Rattle.lf_syntax.specs.Places.{IsViable, IsLongest, FaultPlace, IsScan, Carries}

one_longest : (L : List ℕ → Type 0) (text : List ℕ) (p q : ℕ) → IsLongest L text p → IsLongest L text q → p ≤ q
one_longest L text p q a b =
    elim (cases_lt q p) [ inl lt ↦ absurd (b.longest p lt a.within a.viable) | inr h ↦ h ]

-- AT MOST ONE PLACE
pub one_place : (L : List ℕ → Type 0) (text : List ℕ) (p q : ℕ) → FaultPlace L text p → FaultPlace L text q → p ≡ q
one_place L text p q a b =
    let x : p ≤ q = one_longest L text p q a.at b.at in
    let y : q ≤ p = one_longest L text q p b.at a.at in
    omega arith

-- no byte goes on
pub stuck : (R : List ℕ → Type 0) (b : ℕ) (w : List ℕ) → ((v : List ℕ) → R (b ∷ v) → ⊥) → (v : List ℕ) × R v → FaultPlace R (b ∷ w) 0
stuck R b w none lives = record {
  at = record { within = omega arith; viable = lives; longest = λ longer more within viable. no_longer longer more viable };
  fault = none w;
}
  where
    no_longer : (longer : ℕ) → 0 < longer → IsViable R (take longer (b ∷ w)) → ⊥
    no_longer zero more viable = omega arith
    no_longer (suc m) more viable = none (take m w ++ viable.0) viable.1

-- the text ends too early
pub short : (R : List ℕ → Type 0) → (R [] → ⊥) → (v : List ℕ) × R v → FaultPlace R [] 0
short R none lives = record {
  at = record { within = omega arith; viable = lives; longest = λ longer more within viable. absurd (omega arith) };
  fault = none;
}

-- a fault of what is left after a byte
pub shift : (R Q : List ℕ → Type 0) (b : ℕ) (w : List ℕ) (p : ℕ) → ((v : List ℕ) → R (b ∷ v) → Q v) → ((v : List ℕ) → Q v → R (b ∷ v)) → FaultPlace Q w p → FaultPlace R (b ∷ w) (suc p)
shift R Q b w p to from f = record {
  at = record {
    within = let h : p ≤ length w = f.at.within in omega arith;
    viable = (f.at.viable.0, from (take p w ++ f.at.viable.0) f.at.viable.1);
    longest = no_longer;
  };
  fault = λ h. f.fault (to w h);
}
  where
    no_longer : (longer : ℕ) → suc p < longer → longer ≤ length (b ∷ w) → IsViable R (take longer (b ∷ w)) → ⊥
    no_longer zero more within viable = omega arith
    no_longer (suc m) more within viable = f.at.longest m (omega arith) (omega arith) (viable.0, to (take m w ++ viable.0) viable.1)

option_cases : (S : Type 0) (o : Option S) → (o ≡ None) ⊎ ((s : S) × (o ≡ Some s))
option_cases S None = inl refl
option_cases S (Some s) = inr (s, refl)

-- EXACTLY ONE: each text is a sentence or has a place (and not both, by `fault`)
module _ (S : Type 0) (after : S → ℕ → Option S) (ends : S → Bool) (Left : S → List ℕ → Type 0) (IsGood : S → Type 0) (scan : IsScan S after ends Left IsGood) where
  pub one_of_two : (text : List ℕ) (s : S) → IsGood s → Left s text ⊎ ((p : ℕ) × FaultPlace (Left s) text p)
  one_of_two [] s good =
      elim (bool_cases (ends s)) [
        | inl t ↦ inl (scan.stops s t)
        | inr f ↦ inr (0, short (Left s) (λ h. let t : ends s ≡ true = scan.stop s h in cc) (scan.lives s good))
      ]
  one_of_two (b ∷ w) s good =
      elim (option_cases S (after s b)) [
        | inl none ↦ inr (0, stuck (Left s) b w (λ v h. rw none at (scan.take_byte s b v h)) (scan.lives s good))
        | inr some ↦
            let t = some.0 in
            let better = rw some.1 at (scan.keeps s b good) in
            let to = λ (v : List ℕ) (h : Left s (b ∷ v)). rw some.1 at (scan.take_byte s b v h) in
            let from = λ (v : List ℕ) (h : Left t v). scan.taken_byte s b v (rw some.1 h) in
            elim (one_of_two w t better) [
              | inl h ↦ inl (from w h)
              | inr f ↦ inr (suc f.0, shift (Left s) (Left t) b w f.0 to from f.1)
            ]
      ]

-- two languages that have the same texts have the same places
pub same_place : (L R : List ℕ → Type 0) (text : List ℕ) (p : ℕ) → ((w : List ℕ) → R w → L w) → ((w : List ℕ) → L w → R w) → FaultPlace R text p → FaultPlace L text p
same_place L R text p to from f = record {
  at = record {
    within = f.at.within;
    viable = (f.at.viable.0, to (take p text ++ f.at.viable.0) f.at.viable.1);
    longest = λ longer more within viable. f.at.longest longer more within (viable.0, from (take longer text ++ viable.0) viable.1);
  };
  fault = λ h. f.fault (from text h);
}

-- THE LOOP: from the whole text on, byte by byte
pub carries_all : (L R : List ℕ → Type 0) (text : List ℕ) → ((w : List ℕ) → R w → L w) → ((w : List ℕ) → L w → R w) → Carries L text 0 R text
carries_all L R text to from = record {
  sentence = to text;
  place = λ p f. subst (λ (n : ℕ). FaultPlace L text n) (sym (zero-add p)) (same_place L R text p to from f);
}

carries_on : (L R Q : List ℕ → Type 0) (text : List ℕ) (i b : ℕ) (w : List ℕ) → ((v : List ℕ) → R (b ∷ v) → Q v) → ((v : List ℕ) → Q v → R (b ∷ v)) → Carries L text i R (b ∷ w) → Carries L text (i + 1) Q w
carries_on L R Q text i b w to from c = record {
  sentence = λ h. c.sentence (from w h);
  place = λ p f. subst (λ (n : ℕ). FaultPlace L text n) (omega arith) (c.place (suc p) (shift R Q b w p to from f));
}

pub carries_byte : (L R Q : List ℕ → Type 0) (text : List ℕ) (i : ℕ) → i < length text → ((v : List ℕ) → R (get_or text i 0 ∷ v) → Q v) → ((v : List ℕ) → Q v → R (get_or text i 0 ∷ v)) → Carries L text i R (drop i text) → Carries L text (i + 1) Q (drop (i + 1) text)
carries_byte L R Q text i below to from c =
    let e = drop-cons text i 0 below in
    rw add-one (rw add-one at (carries_on L R Q text i (get_or text i 0) (drop (suc i) text) to from (rw e at c)))

pub carries_stuck : (L R : List ℕ → Type 0) (text : List ℕ) (i : ℕ) → i < length text → ((v : List ℕ) → R (get_or text i 0 ∷ v) → ⊥) → (v : List ℕ) × R v → Carries L text i R (drop i text) → FaultPlace L text i
carries_stuck L R text i below none lives c =
    let e = drop-cons text i 0 below in
    subst (λ (n : ℕ). FaultPlace L text n) (omega arith) ((rw e at c).place 0 (stuck R (get_or text i 0) (drop (suc i) text) none lives))

pub carries_short : (L R : List ℕ → Type 0) (text : List ℕ) (i : ℕ) → i ≡ length text → (R [] → ⊥) → (v : List ℕ) × R v → Carries L text i R (drop i text) → FaultPlace L text (length text)
carries_short L R text i e none lives c =
    let d = subst (λ (n : ℕ). Carries L text n R (drop n text)) e c in
    subst (λ (n : ℕ). FaultPlace L text n) (omega arith) ((rw drop-length at d).place 0 (short R none lives))

pub carries_sentence : (L R : List ℕ → Type 0) (text : List ℕ) (i : ℕ) → i ≡ length text → R [] → Carries L text i R (drop i text) → L text
carries_sentence L R text i e h c =
    let d = subst (λ (n : ℕ). Carries L text n R (drop n text)) e c in
    (rw drop-length at d).sentence h
