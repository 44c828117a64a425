-- A machine whose states say what was read: it accepts exactly the texts that its ends show.
use Rattle.std.proofs.Common.{◌≡◌, ℕ, zero, suc, ◌+◌, ◌<◌, ◌≤◌, ◌⊎◌, inl, inr, List, [], ◌∷◌, ◌++◌, length, Option, Some, Bool, true, sym, ap, ◌∙◌, arith, append_assoc, append-nil, length-append}
use Rattle.std.specs.Prelude.{ℤ}
use Rattle.lf_core.specs.Domain.{accepts, LetterMachine, IsDomain}
use Rattle.lf_core.specs.AcceptsLaws.{accepts-first, accepts-step, accepts-image, IsImage}
use Rattle.lf_core.specs.declared.values.Value.{Value}
use Rattle.lf_core.specs.declared.values.Value.TheVariants.{Num}
use Rattle.lf_number.specs.Numbers.{IsNum, num_text}

-- each state shows the letters that lead to it, and each is led to
pub record IsReading {S : Type 0} (next : S → ℕ → Option S) (start : S) (shown : S → List ℕ) (P : S → Type 0) : Type 0 where
  pub begins : P start
  pub empty : shown start ≡ []
  pub keeps : (s : S) (c : ℕ) (t : S) → P s → next s c ≡ Some t → P t
  pub more : (s t : S) (c : ℕ) → P s → next s c ≡ Some t → shown t ≡ shown s ++ c ∷ []
  pub before : (t : S) → P t → (t ≡ start) ⊎ ((s : S) × (c : ℕ) × P s × (next s c ≡ Some t))

module _ {S : Type 0} (next : S → ℕ → Option S) (ends : S → Bool) (start : S) (shown : S → List ℕ) (P : S → Type 0) (is : IsReading next start shown P) where
  pub reads-shown : (text : List ℕ) (s : S) → P s → accepts next ends s text ≡ true → (t : S) × P t × (ends t ≡ true) × (shown t ≡ shown s ++ text)
  reads-shown [] s h a = (s, h, a, sym (append-nil (shown s)))
  reads-shown (c ∷ cs) s h a =
      let f = accepts-first next ends s c cs a in
      let g = reads-shown cs f.0 (is.keeps s c f.0 h f.1) f.2 in
      (g.0, g.1, g.2, g.3 ∙ ap (λ (t : List ℕ). t ++ cs) (is.more s f.0 c h f.1) ∙ append_assoc (shown s) (c ∷ []) cs)

  reaches-start : (t : S) (tail : List ℕ) → t ≡ start → accepts next ends start (shown t ++ tail) ≡ accepts next ends t tail
  reaches-start t tail e = rw (e, is.empty)

  reaches-within : (k : ℕ) (t : S) (tail : List ℕ) → length (shown t) ≤ k → P t → accepts next ends start (shown t ++ tail) ≡ accepts next ends t tail
  reaches-within zero t tail h p =
      elim (is.before t p) [
        | inl e ↦ reaches-start t tail e
        | inr b ↦
            let l : length (shown t) ≡ length (shown b.0) + 1 = ap length (is.more b.0 t b.1 b.2 b.3) ∙ length-append (shown b.0) (b.1 ∷ []) in
            absurd (omega arith)
      ]
  reaches-within (suc k) t tail h p =
      elim (is.before t p) [
        | inl e ↦ reaches-start t tail e
        | inr b ↦
            let m = is.more b.0 t b.1 b.2 b.3 in
            let l : length (shown t) ≡ length (shown b.0) + 1 = ap length m ∙ length-append (shown b.0) (b.1 ∷ []) in
            ap (λ (x : List ℕ). accepts next ends start (x ++ tail)) m
            ∙ ap (accepts next ends start) (append_assoc (shown b.0) (b.1 ∷ []) tail)
            ∙ reaches-within k b.0 (b.1 ∷ tail) (omega arith) b.2
            ∙ accepts-step next ends b.0 t b.1 tail b.3
      ]

  -- the letters that a state shows lead to it
  pub reaches-shown : (t : S) → P t → accepts next ends start (shown t) ≡ ends t
  reaches-shown t p =
      ap (accepts next ends start) (sym (append-nil (shown t))) ∙ reaches-within (length (shown t)) t [] (omega arith) p

-- the machine accepts exactly the texts of the numbers with the property
pub record AcceptsNumbers (P : ℤ → Type 0) (f : ℤ → List ℕ) (machine : LetterMachine) : Type 0 where
  pub sound : (text : List ℕ) → accepts machine.next machine.is_end machine.first text ≡ true → (n : ℤ) × P n × (f n ≡ text)
  pub complete : (n : ℤ) → P n → accepts machine.next machine.is_end machine.first (f n) ≡ true

-- the states of a reading that end are the numbers with the property
pub record ShowsNumbers {S : Type 0} (ends : S → Bool) (shown : S → List ℕ) (Q : S → Type 0) (P : ℤ → Type 0) (f : ℤ → List ℕ) : Type 0 where
  pub tells : (t : S) → Q t → ends t ≡ true → (n : ℤ) × P n × (f n ≡ shown t)
  pub told : (n : ℤ) → P n → (t : S) × Q t × (ends t ≡ true) × (shown t ≡ f n)

module _ {S : Type 0} (next : S → ℕ → Option S) (ends : S → Bool) (start : S) (shown : S → List ℕ) (Q : S → Type 0) (is : IsReading next start shown Q)
    (P : ℤ → Type 0) (f : ℤ → List ℕ) (numbers : ShowsNumbers ends shown Q P f)
    (machine : LetterMachine) (point : S → ℕ) (image : IsImage next ends machine.next machine.is_end point Q) (first : machine.first ≡ point start) where
  accepts-same : (text : List ℕ) → accepts machine.next machine.is_end machine.first text ≡ accepts next ends start text
  accepts-same text =
      ap (λ (at : ℕ). accepts machine.next machine.is_end at text) first
      ∙ accepts-image next ends machine.next machine.is_end point Q image text start is.begins

  -- a reading whose ends are numbers, under numbers of its states
  pub reading_accepts : AcceptsNumbers P f machine
  reading_accepts = record {
    sound = λ text a.
        let r = reads-shown next ends start shown Q is text start is.begins (sym (accepts-same text) ∙ a) in
        let n = numbers.tells r.0 r.1 r.2 in
        (n.0, n.1, n.2 ∙ r.3 ∙ ap (λ (t : List ℕ). t ++ text) is.empty);
    complete = λ n p.
        let t = numbers.told n p in
        accepts-same (f n) ∙ ap (accepts next ends start) (sym t.3) ∙ reaches-shown next ends start shown Q is t.0 t.1 ∙ t.2;
  }

-- A domain of numbers: what holds of numbers, lifted to values.
module _ (P : ℤ → Type 0) (f : ℤ → List ℕ) (machine : LetterMachine) (size : ℕ) (numbers : AcceptsNumbers P f machine)
    (apart : (n m : ℤ) → P n → P m → f n ≡ f m → n ≡ m) where
  num_complete : (v : Value) → IsNum P v → accepts machine.next machine.is_end machine.first (num_text f v) ≡ true
  num_complete (Num n) h = numbers.complete n h
  num_complete v h = absurd h

  num_distinct : (v w : Value) → IsNum P v → IsNum P w → num_text f v ≡ num_text f w → v ≡ w
  num_distinct (Num n) (Num m) h g e = ap Num (apart n m h g e)
  num_distinct (Num n) w h g e = absurd g
  num_distinct v w h g e = absurd h

  pub num_laws : machine.first < machine.count
      → ((point letter after : ℕ) → point < machine.count → machine.next point letter ≡ Some after → (letter < 256) × (after < machine.count))
      → machine.count ≤ size → IsDomain (IsNum P) (num_text f) machine size
  num_laws begins stays small = record {
    sound = λ text a. let n = numbers.sound text a in (Num n.0, n.1, n.2);
    complete = num_complete;
    distinct = num_distinct;
    begins = begins;
    stays = stays;
    small = small;
  }
