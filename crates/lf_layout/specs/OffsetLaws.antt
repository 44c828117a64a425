-- The places of an offset read the offsets under a day, and never `-0000`.
use Rattle.std.proofs.Common.{◌≡◌, ℕ, zero, suc, ◌+◌, ◌*◌, ◌/◌, ◌%◌, ◌<◌, ◌≤◌, inl, inr, List, [], ◌∷◌, ◌++◌, Some, Bool, true, false, cond, not, ◌&&◌, ◌==◌, ltb, refl, sym, ap, ◌∙◌, arith, append_assoc}
use Rattle.std.specs.Prelude.{ℤ, pos, negsuc, unsigned_abs}
use Rattle.std.proofs.lemmas.Bool.Decides.{nat_tests}
use Rattle.std.proofs.lemmas.Bool.{cases_Bool}
use Rattle.std.proofs.lemmas.Option.{cond_some}
use Rattle.jiff_core.proofs.SignedLemmas.{signed_arith}
use Rattle.lf_layout.specs.Texts.{two, sign_letter, letter_if, offset_text}
use Rattle.lf_layout.specs.Layouts.{IsOffset}
use Rattle.lf_layout.specs.Places.{after_number, after_place, places_if, offset_places}
use Rattle.lf_layout.specs.PlaceLaws.{run, run-step, run-first}
use Rattle.lf_layout.specs.FieldLaws.{IsField, byte-writes, byte-reads, number-writes, number-reads}
use Rattle.lf_layout.specs.declared.place.Number.TheVariants.{OffsetHour, OffsetMinute}
use Rattle.lf_layout.specs.declared.place.Place.{Place}
use Rattle.lf_layout.specs.declared.place.Place.TheVariants.{Sign, Tens, Ones}

-- 1 for a negative offset, and else 0
abbrev sign_code : ℤ → ℕ
sign_code (pos n) = 0
sign_code (negsuc n) = 1

-- a letter that may stand

pub may-write : (here : Bool) (byte memories memory : ℕ) (rest : List Place) (tail : List ℕ) → run (places_if here byte memories ++ rest) memory (letter_if here byte ++ tail) ≡ run rest memory tail
may-write true byte memories memory rest tail = byte-writes byte memories memory rest tail
may-write false byte memories memory rest tail = refl

pub may-read : (here : Bool) (byte memories memory : ℕ) (rest : List Place) (whole : List ℕ) → run (places_if here byte memories ++ rest) memory whole ≡ true → (tail : List ℕ) × (whole ≡ letter_if here byte ++ tail) × (run rest memory tail ≡ true)
may-read true byte memories memory rest whole h = byte-reads byte memories memory rest whole h
may-read false byte memories memory rest whole h = (whole, refl, h)

sign-goes : (offset : ℤ) → after_place Sign 0 (sign_letter offset) ≡ Some (sign_code offset)
sign-goes (pos n) = refl
sign-goes (negsuc n) = refl

-- 1 after a minus sign and the hours 00
abbrev zero_so_far : ℕ → ℕ → ℕ
zero_so_far sign hours = cond ((sign == 1) && (hours == 0)) 1 0

hours-go : (sign hours : ℕ) → hours < 24 → after_number OffsetHour sign hours ≡ Some (zero_so_far sign hours)
hours-go sign hours h = let t : ltb hours 24 ≡ true = grind (arith, nat_tests) in rw t refl

hours-went : (sign hours to : ℕ) → after_number OffsetHour sign hours ≡ Some to → (hours < 24) × (zero_so_far sign hours ≡ to)
hours-went sign hours to h =
    let g = cond_some (ltb hours 24) (zero_so_far sign hours) to h in
    (grind (arith, nat_tests, g.0), g.1)

minutes-go : (sign hours minutes : ℕ) → minutes < 60 → (sign ≡ 1 → 0 < hours + minutes) → after_number OffsetMinute (zero_so_far sign hours) minutes ≡ Some 0
minutes-go sign hours minutes h k =
    let t : (ltb minutes 60 && not ((zero_so_far sign hours == 1) && (minutes == 0))) ≡ true = grind (arith, nat_tests) in
    rw t refl

minutes-went : (sign hours minutes to : ℕ) → after_number OffsetMinute (zero_so_far sign hours) minutes ≡ Some to → (minutes < 60) × (sign ≡ 1 → 0 < hours + minutes) × (0 ≡ to)
minutes-went sign hours minutes to h =
    let g = cond_some (ltb minutes 60 && not ((zero_so_far sign hours == 1) && (minutes == 0))) 0 to h in
    (grind (arith, nat_tests, g.0), λ s. grind (arith, nat_tests, g.0, s), g.1)

abbrev Tells : ℕ → ℕ → ℕ → Type 0
Tells letter sign minutes =
    (offset : ℤ) × IsOffset offset × (sign_letter offset ≡ letter) × (unsigned_abs offset ≡ minutes)

tells : (letter sign minutes : ℕ) → after_place Sign 0 letter ≡ Some sign → minutes < 1440 → (sign ≡ 1 → 0 < minutes) → Tells letter sign minutes
tells letter sign minutes h l k =
    elim (cases_Bool (letter == 43)) [
      | inl t ↦
          let e : 43 ≡ letter = grind (arith, nat_tests) in
          (pos minutes, (omega (arith, signed_arith), omega (arith, signed_arith)), e, refl)
      | inr f ↦
          let g = cond_some (letter == 45) 1 sign (rw f at h) in
          let e : 45 ≡ letter = grind (arith, nat_tests, g.0) in
          let s : 0 < minutes = k (sym g.1) in
          negative minutes letter e s l
    ]
  where
    negative : (minutes letter : ℕ) → 45 ≡ letter → 0 < minutes → minutes < 1440 → Tells letter 1 minutes
    negative zero letter e s l = absurd (omega arith)
    negative (suc n) letter e s l = (negsuc n, (omega (arith, signed_arith), omega (arith, signed_arith)), e, refl)

pub abs-most : (offset : ℤ) → IsOffset offset → unsigned_abs offset ≤ 1439
abs-most (pos n) h = omega (arith, signed_arith, h.0, h.1)
abs-most (negsuc n) h = omega (arith, signed_arith, h.0, h.1)

negative-some : (offset : ℤ) → sign_code offset ≡ 1 → 0 < unsigned_abs offset / 60 + unsigned_abs offset % 60
negative-some (pos n) e = absurd (omega (arith, e))
negative-some (negsuc n) e = omega arith

offset-joined : (colon : Bool) (whole u v w tail : List ℕ) (letter a b n : ℕ) (offset : ℤ) → whole ≡ letter ∷ u → u ≡ two a ++ v → v ≡ letter_if colon 58 ++ w → w ≡ two b ++ tail → sign_letter offset ≡ letter → unsigned_abs offset ≡ n → a ≡ n / 60 → b ≡ n % 60 → whole ≡ offset_text colon offset ++ tail
offset-joined true whole u v w tail letter a b n offset e f g h i j k l = cc
offset-joined false whole u v w tail letter a b n offset e f g h i j k l = cc

pub offset-field : (colon : Bool) → IsField (offset_places colon) 0 (λ (offset : ℤ) (to : ℕ). IsOffset offset × (to ≡ 0)) (offset_text colon)
offset-field colon = record {
  writes = λ offset to g rest tail.
      let n = unsigned_abs offset in
      let sign = sign_code offset in
      let most = abs-most offset g.0 in
      let text : List ℕ = letter_if colon 58 ++ two (n % 60) in
      ap (λ (places : List Place). run (Sign ∷ Tens 2 ∷ Ones OffsetHour ∷ places) 0 (sign_letter offset ∷ two (n / 60) ++ (letter_if colon 58 ++ two (n % 60)) ++ tail)) (append_assoc (places_if colon 58 2) (Tens 2 ∷ Ones OffsetMinute ∷ []) rest)
      ∙ run-step Sign (Tens 2 ∷ Ones OffsetHour ∷ places_if colon 58 2 ++ Tens 2 ∷ Ones OffsetMinute ∷ rest) 0 sign (sign_letter offset) (two (n / 60) ++ (letter_if colon 58 ++ two (n % 60)) ++ tail) (sign-goes offset)
      ∙ number-writes 2 OffsetHour sign (n / 60) (zero_so_far sign (n / 60)) (omega (arith, most)) (hours-go sign (n / 60) (omega (arith, most))) (places_if colon 58 2 ++ Tens 2 ∷ Ones OffsetMinute ∷ rest) ((letter_if colon 58 ++ two (n % 60)) ++ tail)
      ∙ ap (run (places_if colon 58 2 ++ Tens 2 ∷ Ones OffsetMinute ∷ rest) (zero_so_far sign (n / 60))) (append_assoc (letter_if colon 58) (two (n % 60)) tail)
      ∙ may-write colon 58 2 (zero_so_far sign (n / 60)) (Tens 2 ∷ Ones OffsetMinute ∷ rest) (two (n % 60) ++ tail)
      ∙ number-writes 2 OffsetMinute (zero_so_far sign (n / 60)) (n % 60) 0 (omega arith) (minutes-go sign (n / 60) (n % 60) (omega arith) (negative-some offset)) rest tail
      ∙ ap (λ (m : ℕ). run rest m tail) (sym g.1);
  reads = λ rest whole h.
      let s = run-first Sign (Tens 2 ∷ Ones OffsetHour ∷ places_if colon 58 2 ++ Tens 2 ∷ Ones OffsetMinute ∷ rest) 0 whole
      (ap (λ (places : List Place). run (Sign ∷ Tens 2 ∷ Ones OffsetHour ∷ places) 0 whole) (sym (append_assoc (places_if colon 58 2) (Tens 2 ∷ Ones OffsetMinute ∷ []) rest)) ∙ h) in
      let a = number-reads 2 OffsetHour s.2 (places_if colon 58 2 ++ Tens 2 ∷ Ones OffsetMinute ∷ rest) s.1 s.5 in
      let aw = hours-went s.2 a.0 a.1 a.4 in
      let b = may-read colon 58 2 a.1 (Tens 2 ∷ Ones OffsetMinute ∷ rest) a.2 a.6 in
      let c = number-reads 2 OffsetMinute a.1 rest b.0 b.2 in
      let cw = minutes-went s.2 a.0 c.0 c.1 (ap (λ (m : ℕ). after_number OffsetMinute m c.0) aw.1 ∙ c.4) in
      let t = tells s.0 s.2 (60 * a.0 + c.0) s.4 (omega (arith, aw.0, cw.0)) (λ e. let k = cw.1 e in omega (arith, k)) in
      (t.0, 0, c.2, (t.1, refl), offset-joined colon whole s.1 a.2 b.0 c.2 s.0 a.0 c.0 (60 * a.0 + c.0) t.0 s.3 a.5 b.1 c.5 t.2 t.3 (omega (arith, cw.0)) (omega (arith, cw.0)), ap (λ (m : ℕ). run rest m c.2) cw.2 ∙ c.6);
}
