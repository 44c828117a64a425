-- The fields of a layout: which places read them, and with what memory they go on.
use Rattle.std.proofs.Common.{◌≡◌, ℕ, ◌+◌, ◌-◌, ◌*◌, ◌/◌, ◌%◌, ◌<◌, List, [], ◌∷◌, ◌++◌, Option, None, Some, true, cond, ltb, ◌==◌, refl, sym, ap, ◌∙◌, arith, append_assoc}
use Rattle.std.proofs.lemmas.Bool.Decides.{nat_tests}
use Rattle.std.proofs.lemmas.Option.{cond_some}
use Rattle.lf_core.specs.AcceptsLaws.{guarded}
use Rattle.lf_layout.specs.Texts.{two, three, clock_text}
use Rattle.lf_layout.specs.Places.{after_number, is_digit, after_place, clock_places}
use Rattle.lf_layout.specs.PlaceLaws.{run, run-step, run-first, digit-less}
use Rattle.lf_layout.specs.declared.place.Number.{Number}
use Rattle.lf_layout.specs.declared.place.Number.TheVariants.{Hour, Minute}
use Rattle.lf_layout.specs.declared.place.Place.{Place}
use Rattle.lf_layout.specs.declared.place.Place.TheVariants.{Byte, Forget, Digit, Tens, Ones}

-- From the memory, the places read the texts of those that go somewhere, and nothing else.
pub record IsField {A : Type 0} (places : List Place) (from : ℕ) (Goes : A → ℕ → Type 0) (text : A → List ℕ) : Type 0 where
  pub writes : (a : A) (to : ℕ) → Goes a to → (rest : List Place) (tail : List ℕ) → run (places ++ rest) from (text a ++ tail) ≡ run rest to tail
  pub reads : (rest : List Place) (whole : List ℕ) → run (places ++ rest) from whole ≡ true → (a : A) × (to : ℕ) × (tail : List ℕ) × Goes a to × (whole ≡ text a ++ tail) × (run rest to tail ≡ true)

-- two fields, one after the other
pub then : {A B : Type 0} (ps qs : List Place) (from : ℕ) (G : A → ℕ → Type 0) (H : B → ℕ → Type 0) (t : A → List ℕ) (u : B → List ℕ)
    → IsField ps from G t → ((k : ℕ) (a : A) → G a k → IsField qs k H u)
    → IsField (ps ++ qs) from (λ (p : A × B) (to : ℕ). (k : ℕ) × G p.0 k × H p.1 to) (λ (p : A × B). t p.0 ++ u p.1)
then ps qs from G H t u is next = record {
  writes = λ p to g rest tail.
      let m = next g.0 p.0 g.1 in
      ap (λ (places : List Place). run places from ((t p.0 ++ u p.1) ++ tail)) (append_assoc ps qs rest)
      ∙ ap (run (ps ++ (qs ++ rest)) from) (append_assoc (t p.0) (u p.1) tail)
      ∙ is.writes p.0 g.0 g.1 (qs ++ rest) (u p.1 ++ tail)
      ∙ m.writes p.1 to g.2 rest tail;
  reads = λ rest whole h.
      let a = is.reads (qs ++ rest) whole (ap (λ (places : List Place). run places from whole) (sym (append_assoc ps qs rest)) ∙ h) in
      let m = next a.1 a.0 a.3 in
      let b = m.reads rest a.2 a.5 in
      ((a.0, b.0), b.1, b.2, (a.1, a.3, b.3), a.4 ∙ ap (λ (x : List ℕ). t a.0 ++ x) b.4 ∙ sym (append_assoc (t a.0) (u b.0) b.2), b.5);
}

-- the same field of other values
pub relabelled : {A B : Type 0} (places : List Place) (from : ℕ) (G : A → ℕ → Type 0) (H : B → ℕ → Type 0) (t : A → List ℕ) (u : B → List ℕ)
    → IsField places from G t
    → ((b : B) (to : ℕ) → H b to → (a : A) × G a to × (t a ≡ u b))
    → ((a : A) (to : ℕ) → G a to → (b : B) × H b to × (t a ≡ u b))
    → IsField places from H u
relabelled places from G H t u is back forth = record {
  writes = λ b to h rest tail.
      let a = back b to h in
      ap (λ (x : List ℕ). run (places ++ rest) from (x ++ tail)) (sym a.2) ∙ is.writes a.0 to a.1 rest tail;
  reads = λ rest whole h.
      let a = is.reads rest whole h in
      let b = forth a.0 a.1 a.3 in
      (b.0, a.1, a.2, b.1, a.4 ∙ ap (λ (x : List ℕ). x ++ a.2) b.2, a.5);
}

-- a byte

pub byte-writes : (byte memories memory : ℕ) (rest : List Place) (tail : List ℕ) → run (Byte byte memories ∷ rest) memory (byte ∷ tail) ≡ run rest memory tail
byte-writes byte memories memory rest tail =
    let t : (byte == byte) ≡ true = grind (arith, nat_tests) in
    run-step (Byte byte memories) rest memory memory byte tail (rw t refl)

pub byte-reads : (byte memories memory : ℕ) (rest : List Place) (whole : List ℕ) → run (Byte byte memories ∷ rest) memory whole ≡ true → (tail : List ℕ) × (whole ≡ byte ∷ tail) × (run rest memory tail ≡ true)
byte-reads byte memories memory rest whole h =
    let f = run-first (Byte byte memories) rest memory whole h in
    let g = cond_some (f.0 == byte) memory f.2 f.4 in
    let e : f.0 ≡ byte = grind (arith, nat_tests, g.0) in
    (f.1, f.3 ∙ ap (λ (c : ℕ). c ∷ f.1) e, ap (λ (m : ℕ). run rest m f.1) g.1 ∙ f.5)

pub forget-writes : (byte memories memory : ℕ) (rest : List Place) (tail : List ℕ) → run (Forget byte memories ∷ rest) memory (byte ∷ tail) ≡ run rest 0 tail
forget-writes byte memories memory rest tail =
    let t : (byte == byte) ≡ true = grind (arith, nat_tests) in
    run-step (Forget byte memories) rest memory 0 byte tail (rw t refl)

pub forget-reads : (byte memories memory : ℕ) (rest : List Place) (whole : List ℕ) → run (Forget byte memories ∷ rest) memory whole ≡ true → (tail : List ℕ) × (whole ≡ byte ∷ tail) × (run rest 0 tail ≡ true)
forget-reads byte memories memory rest whole h =
    let f = run-first (Forget byte memories) rest memory whole h in
    let g = cond_some (f.0 == byte) 0 f.2 f.4 in
    let e : f.0 ≡ byte = grind (arith, nat_tests, g.0) in
    (f.1, f.3 ∙ ap (λ (c : ℕ). c ∷ f.1) e, ap (λ (m : ℕ). run rest m f.1) g.1 ∙ f.5)

-- digits

digit-is : (d : ℕ) → d < 10 → is_digit (48 + d) ≡ true
digit-is d h = grind (arith, nat_tests)

tens-goes : (memories memory d : ℕ) → d < 10 → after_place (Tens memories) memory (48 + d) ≡ Some (10 * memory + d)
tens-goes memories memory d h =
    let e : 48 + d - 48 ≡ d = omega arith in
    rw (digit-is d h, e) refl

ones-goes : (number : Number) (memory d : ℕ) → d < 10 → after_place (Ones number) memory (48 + d) ≡ after_number number (memory / 10) (10 * (memory % 10) + d)
ones-goes number memory d h =
    let e : 48 + d - 48 ≡ d = omega arith in
    rw (digit-is d h, e) refl

pub number-writes : (memories : ℕ) (number : Number) (memory n to : ℕ) → n < 100 → after_number number memory n ≡ Some to → (rest : List Place) (tail : List ℕ) → run (Tens memories ∷ Ones number ∷ rest) memory (two n ++ tail) ≡ run rest to tail
number-writes memories number memory n to h e rest tail =
    let q : (10 * memory + n / 10) / 10 ≡ memory = omega arith in
    let r : 10 * ((10 * memory + n / 10) % 10) + n % 10 ≡ n = omega arith in
    let g : after_place (Ones number) (10 * memory + n / 10) (48 + n % 10) ≡ Some to = ones-goes number (10 * memory + n / 10) (n % 10) (omega arith) ∙ ap (λ (x : ℕ). after_number number x (10 * ((10 * memory + n / 10) % 10) + n % 10)) q ∙ ap (after_number number memory) r ∙ e in
    run-step (Tens memories) (Ones number ∷ rest) memory (10 * memory + n / 10) (48 + n / 10) ((48 + n % 10) ∷ tail) (tens-goes memories memory (n / 10) (omega arith))
    ∙ run-step (Ones number) rest (10 * memory + n / 10) to (48 + n % 10) tail g

pub number-reads : (memories : ℕ) (number : Number) (memory : ℕ) (rest : List Place) (whole : List ℕ) → run (Tens memories ∷ Ones number ∷ rest) memory whole ≡ true → (n : ℕ) × (to : ℕ) × (tail : List ℕ) × (n < 100) × (after_number number memory n ≡ Some to) × (whole ≡ two n ++ tail) × (run rest to tail ≡ true)
number-reads memories number memory rest whole h =
    let f = run-first (Tens memories) (Ones number ∷ rest) memory whole h in
    let g = cond_some (is_digit f.0) (10 * memory + (f.0 - 48)) f.2 f.4 in
    let d = digit-less f.0 g.0 in
    let s = run-first (Ones number) rest f.2 f.1 f.5 in
    let k = guarded (is_digit s.0) (after_number number (f.2 / 10) (10 * (f.2 % 10) + (s.0 - 48))) s.2 s.4 in
    let c = digit-less s.0 k.0 in
    let n = 10 * (f.0 - 48) + (s.0 - 48) in
    let q : f.2 / 10 ≡ memory = omega (arith, g.1, d.0, d.1) in
    let r : 10 * (f.2 % 10) + (s.0 - 48) ≡ n = omega (arith, g.1, d.0, d.1) in
    let x : f.0 ≡ 48 + n / 10 = omega (arith, d.0, d.1, c.0, c.1) in
    let y : s.0 ≡ 48 + n % 10 = omega (arith, d.0, d.1, c.0, c.1) in
    (n, s.2, s.1, omega (arith, d.0, d.1, c.0, c.1), ap (λ (m : ℕ). after_number number m n) (sym q) ∙ ap (after_number number (f.2 / 10)) (sym r) ∙ k.1, f.3 ∙ ap (λ (xs : List ℕ). f.0 ∷ xs) s.3 ∙ ap (λ (b : ℕ). b ∷ (s.0 ∷ s.1)) x ∙ ap (λ (b : ℕ). (48 + n / 10) ∷ (b ∷ s.1)) y, s.5)

digit-writes : (d : ℕ) (rest : List Place) (tail : List ℕ) → d < 10 → run (Digit ∷ rest) 0 ((48 + d) ∷ tail) ≡ run rest 0 tail
digit-writes d rest tail h = run-step Digit rest 0 0 (48 + d) tail (rw (digit-is d h) refl)

digit-reads : (rest : List Place) (whole : List ℕ) → run (Digit ∷ rest) 0 whole ≡ true → (d : ℕ) × (tail : List ℕ) × (d < 10) × (whole ≡ (48 + d) ∷ tail) × (run rest 0 tail ≡ true)
digit-reads rest whole h =
    let f = run-first Digit rest 0 whole h in
    let g = cond_some (is_digit f.0) 0 f.2 f.4 in
    let d = digit-less f.0 g.0 in
    let e : f.0 ≡ 48 + (f.0 - 48) = omega (arith, d.0) in
    (f.0 - 48, f.1, omega (arith, d.1), f.3 ∙ ap (λ (c : ℕ). c ∷ f.1) e, ap (λ (m : ℕ). run rest m f.1) g.1 ∙ f.5)

three-joined : (whole u v tail : List ℕ) (a b c n : ℕ) → whole ≡ (48 + a) ∷ u → u ≡ (48 + b) ∷ v → v ≡ (48 + c) ∷ tail → a ≡ n / 100 → b ≡ n % 100 / 10 → c ≡ n % 100 % 10 → whole ≡ three n ++ tail
three-joined whole u v tail a b c n e f g h i j = cc

-- three digits
pub three-field : IsField (Digit ∷ Digit ∷ Digit ∷ []) 0 (λ (n to : ℕ). (n < 1000) × (to ≡ 0)) three
three-field = record {
  writes = λ n to g rest tail.
      digit-writes (n / 100) (Digit ∷ Digit ∷ rest) ((48 + n % 100 / 10) ∷ ((48 + n % 100 % 10) ∷ tail)) (omega (arith, g.0))
      ∙ digit-writes (n % 100 / 10) (Digit ∷ rest) ((48 + n % 100 % 10) ∷ tail) (omega arith)
      ∙ digit-writes (n % 100 % 10) rest tail (omega arith)
      ∙ ap (λ (m : ℕ). run rest m tail) (sym g.1);
  reads = λ rest whole h.
      let a = digit-reads (Digit ∷ Digit ∷ rest) whole h in
      let b = digit-reads (Digit ∷ rest) a.1 a.4 in
      let c = digit-reads rest b.1 b.4 in
      let n = 100 * a.0 + 10 * b.0 + c.0 in
      let x : a.0 ≡ n / 100 = omega (arith, a.2, b.2, c.2) in
      let y : b.0 ≡ n % 100 / 10 = omega (arith, a.2, b.2, c.2) in
      let z : c.0 ≡ n % 100 % 10 = omega (arith, a.2, b.2, c.2) in
      (n, 0, c.1, (omega (arith, a.2, b.2, c.2), refl), three-joined whole a.1 b.1 c.1 a.0 b.0 c.0 n a.3 b.3 c.3 x y z, c.4);
}

-- the time of a day

under : (n limit to : ℕ) → cond {A = Option ℕ} (ltb n limit) (Some 0) None ≡ Some to → (n < limit) × (0 ≡ to)
under n limit to e = let g = cond_some (ltb n limit) 0 to e in (grind (arith, nat_tests, g.0), g.1)

under-is : (n limit : ℕ) → n < limit → cond {A = Option ℕ} (ltb n limit) (Some 0) None ≡ Some 0
under-is n limit h = let t : ltb n limit ≡ true = grind (arith, nat_tests) in rw t refl

clock-joined : (whole u v w x tail : List ℕ) (a b c s : ℕ) → whole ≡ two a ++ u → u ≡ 58 ∷ v → v ≡ two b ++ w → w ≡ 58 ∷ x → x ≡ two c ++ tail → a ≡ s / 3600 → b ≡ s / 60 % 60 → c ≡ s % 60 → whole ≡ clock_text s ++ tail
clock-joined whole u v w x tail a b c s e f g h k i j l = cc

pub clock-field : IsField clock_places 0 (λ (second to : ℕ). (second < 86400) × (to ≡ 0)) clock_text
clock-field = record {
  writes = λ s to g rest tail.
      number-writes 1 Hour 0 (s / 3600) 0 (omega (arith, g.0)) (under-is (s / 3600) 24 (omega (arith, g.0))) (Byte 58 1 ∷ Tens 1 ∷ Ones Minute ∷ Byte 58 1 ∷ Tens 1 ∷ Ones Minute ∷ rest) (58 ∷ two (s / 60 % 60) ++ 58 ∷ two (s % 60) ++ tail)
      ∙ byte-writes 58 1 0 (Tens 1 ∷ Ones Minute ∷ Byte 58 1 ∷ Tens 1 ∷ Ones Minute ∷ rest) (two (s / 60 % 60) ++ 58 ∷ two (s % 60) ++ tail)
      ∙ number-writes 1 Minute 0 (s / 60 % 60) 0 (omega arith) (under-is (s / 60 % 60) 60 (omega arith)) (Byte 58 1 ∷ Tens 1 ∷ Ones Minute ∷ rest) (58 ∷ two (s % 60) ++ tail)
      ∙ byte-writes 58 1 0 (Tens 1 ∷ Ones Minute ∷ rest) (two (s % 60) ++ tail)
      ∙ number-writes 1 Minute 0 (s % 60) 0 (omega arith) (under-is (s % 60) 60 (omega arith)) rest tail
      ∙ ap (λ (m : ℕ). run rest m tail) (sym g.1);
  reads = λ rest whole h.
      let a = number-reads 1 Hour 0 (Byte 58 1 ∷ Tens 1 ∷ Ones Minute ∷ Byte 58 1 ∷ Tens 1 ∷ Ones Minute ∷ rest) whole h in
      let b = byte-reads 58 1 a.1 (Tens 1 ∷ Ones Minute ∷ Byte 58 1 ∷ Tens 1 ∷ Ones Minute ∷ rest) a.2 a.6 in
      let ha = under a.0 24 a.1 a.4 in
      let c = number-reads 1 Minute 0 (Byte 58 1 ∷ Tens 1 ∷ Ones Minute ∷ rest) b.0 (ap (λ (m : ℕ). run (Tens 1 ∷ Ones Minute ∷ Byte 58 1 ∷ Tens 1 ∷ Ones Minute ∷ rest) m b.0) ha.1 ∙ b.2) in
      let hc = under c.0 60 c.1 c.4 in
      let d = byte-reads 58 1 c.1 (Tens 1 ∷ Ones Minute ∷ rest) c.2 c.6 in
      let e = number-reads 1 Minute 0 rest d.0 (ap (λ (m : ℕ). run (Tens 1 ∷ Ones Minute ∷ rest) m d.0) hc.1 ∙ d.2) in
      let he = under e.0 60 e.1 e.4 in
      let s = 3600 * a.0 + 60 * c.0 + e.0 in
      let x : a.0 ≡ s / 3600 = omega (arith, hc.0, he.0) in
      let y : c.0 ≡ s / 60 % 60 = omega (arith, hc.0, he.0) in
      let z : e.0 ≡ s % 60 = omega (arith, hc.0, he.0) in
      (s, 0, e.2, (omega (arith, ha.0, hc.0, he.0), refl), clock-joined whole a.2 b.0 c.2 d.0 e.2 a.0 c.0 e.0 s a.5 b.1 c.5 d.1 e.5 x y z, ap (λ (m : ℕ). run rest m e.2) he.1 ∙ e.6);
}
