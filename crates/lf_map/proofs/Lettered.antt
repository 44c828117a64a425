-- A string of which a front has been read.
use Rattle.std.proofs.Common.{◌≡◌, ℕ, Bool, true, false, cond, List, [], ◌∷◌, ◌++◌, refl, sym, ap, ◌∙◌, append-nil, append_assoc}
use Rattle.std.specs.Prelude.{Option, None, Some}
use Rattle.lf_map.specs.declared.strings.Stage.{Stage}
use Rattle.lf_map.specs.declared.strings.Stage.TheVariants.{Fresh}
use Rattle.lf_map.specs.Letters.{letter_by, stage_after, is_end, with_letter, letters_of, after_string}

pub record Spelled (text done : List ℕ) (stage : Stage) (rest : List ℕ) : Type 0 where
  pub letters : letters_of Fresh text ≡ done ++ letters_of stage rest
  pub after : after_string Fresh text ≡ after_string stage rest

pub begin : (text : List ℕ) → Spelled text [] Fresh text
begin text = record { letters = refl; after = refl }

with-append : (letter : Option ℕ) (done w : List ℕ) → done ++ with_letter letter w ≡ (done ++ with_letter letter []) ++ w
with-append None done w = ap (λ (v : List ℕ). v ++ w) (sym (append-nil done))
with-append (Some x) done w = sym (append_assoc done (x ∷ []) w)

module _ (text done : List ℕ) (stage : Stage) (rest : List ℕ) (s : Spelled text done stage rest) where
  pub none_left : rest ≡ [] → done ≡ letters_of Fresh text
  none_left e = sym (s.letters ∙ ap (λ (w : List ℕ). done ++ letters_of stage w) e ∙ append-nil done)

  pub none_after : rest ≡ [] → rest ≡ after_string Fresh text
  none_after e = e ∙ sym (s.after ∙ ap (λ (w : List ℕ). after_string stage w) e)

  module _ (b : ℕ) (more : List ℕ) (e : rest ≡ b ∷ more) where
    pub ended : is_end stage b ≡ true → done ≡ letters_of Fresh text
    ended t =
        sym (s.letters ∙ ap (λ (w : List ℕ). done ++ letters_of stage w) e
        ∙ ap (λ (y : Bool). done ++ cond y [] (with_letter (letter_by stage b) (letters_of (stage_after stage b) more))) t ∙ append-nil done)

    pub after_end : is_end stage b ≡ true → more ≡ after_string Fresh text
    after_end t =
        sym (s.after ∙ ap (λ (w : List ℕ). after_string stage w) e ∙ ap (λ (y : Bool). cond y more (after_string (stage_after stage b) more)) t)

    pub on : (next : Stage) (longer : List ℕ) (letter : Option ℕ) → is_end stage b ≡ false → next ≡ stage_after stage b → letter ≡ letter_by stage b → longer ≡ done ++ with_letter letter [] → Spelled text longer next more
    on next longer letter f n l a = record {
      letters =
          s.letters ∙ ap (λ (w : List ℕ). done ++ letters_of stage w) e
          ∙ ap (λ (y : Bool). done ++ cond y [] (with_letter (letter_by stage b) (letters_of (stage_after stage b) more))) f
          ∙ ap (λ (x : Option ℕ). done ++ with_letter x (letters_of (stage_after stage b) more)) (sym l)
          ∙ ap (λ (x : Stage). done ++ with_letter letter (letters_of x more)) (sym n)
          ∙ with-append letter done (letters_of next more)
          ∙ ap (λ (w : List ℕ). w ++ letters_of next more) (sym a);
      after =
          s.after ∙ ap (λ (w : List ℕ). after_string stage w) e
          ∙ ap (λ (y : Bool). cond y more (after_string (stage_after stage b) more)) f
          ∙ ap (λ (x : Stage). after_string x more) (sym n);
    }
