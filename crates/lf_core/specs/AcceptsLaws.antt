-- How a machine over letters goes on from its first letter, and a machine that goes step by step as another.
use Rattle.std.proofs.Common.{◌≡◌, ℕ, List, [], ◌∷◌, Option, None, Some, Bool, true, false, cond, refl, sym, ◌∙◌, ap, ◌⊎◌, inl, inr}
use Rattle.lf_core.specs.Domain.{accepts}
use Rattle.lf_core.specs.Choices.{option_cases}

module _ {S : Type 0} (next : S → ℕ → Option S) (ends : S → Bool) where
  pub accepts-step : (s t : S) (c : ℕ) (cs : List ℕ) → next s c ≡ Some t → accepts next ends s (c ∷ cs) ≡ accepts next ends t cs
  accepts-step s t c cs h = ap (λ (o : Option S). elim o [ None ↦ false | Some t ↦ accepts next ends t cs ]) h

  on_first : (o : Option S) (cs : List ℕ) → elim o [ None ↦ false | Some t ↦ accepts next ends t cs ] ≡ true → (t : S) × (o ≡ Some t) × (accepts next ends t cs ≡ true)
  on_first None cs h = cc
  on_first (Some t) cs h = (t, refl, h)

  -- a text that is accepted goes on from its first letter
  pub accepts-first : (s : S) (c : ℕ) (cs : List ℕ) → accepts next ends s (c ∷ cs) ≡ true → (t : S) × (next s c ≡ Some t) × (accepts next ends t cs ≡ true)
  accepts-first s c cs h = on_first (next s c) cs h

-- what a test guards
pub guarded : {A : Type 0} (b : Bool) (o : Option A) (t : A) → cond b o None ≡ Some t → (b ≡ true) × (o ≡ Some t)
guarded true o t h = (refl, h)
guarded false o t h = cc

module _ {S : Type 0} (next : S → ℕ → Option S) (ends : S → Bool) where
  pub accepts-stop : (s : S) (c : ℕ) (cs : List ℕ) → next s c ≡ None → accepts next ends s (c ∷ cs) ≡ false
  accepts-stop s c cs h = ap (λ (o : Option S). elim o [ None ↦ false | Some t ↦ accepts next ends t cs ]) h

abbrev pub map_option : {S T : Type 0} → (S → T) → Option S → Option T
map_option f None = None
map_option f (Some s) = Some (f s)

-- a machine goes step by step as another, on the images of its states
pub record IsImage {S T : Type 0} (next : S → ℕ → Option S) (ends : S → Bool) (next' : T → ℕ → Option T) (ends' : T → Bool) (image : S → T) (P : S → Type 0) : Type 0 where
  pub goes : (s : S) (c : ℕ) → P s → next' (image s) c ≡ map_option image (next s c)
  pub keeps : (s : S) (c : ℕ) (t : S) → P s → next s c ≡ Some t → P t
  pub same : (s : S) → P s → ends' (image s) ≡ ends s

pub accepts-image : {S T : Type 0} (next : S → ℕ → Option S) (ends : S → Bool) (next' : T → ℕ → Option T) (ends' : T → Bool) (image : S → T) (P : S → Type 0) → IsImage next ends next' ends' image P → (text : List ℕ) (s : S) → P s → accepts next' ends' (image s) text ≡ accepts next ends s text
accepts-image next ends next' ends' image P is [] s h = is.same s h
accepts-image next ends next' ends' image P is (c ∷ cs) s h =
    elim (option_cases (next s c)) [
      | inl none ↦ accepts-stop next' ends' (image s) c cs (is.goes s c h ∙ ap (map_option image) none) ∙ sym (accepts-stop next ends s c cs none)
      | inr some ↦
          accepts-step next' ends' (image s) (image some.0) c cs (is.goes s c h ∙ ap (map_option image) some.1)
          ∙ accepts-image next ends next' ends' image P is cs some.0 (is.keeps s c some.0 h some.1)
          ∙ sym (accepts-step next ends s some.0 c cs some.1)
    ]
