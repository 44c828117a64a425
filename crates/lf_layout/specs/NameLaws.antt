-- The places of a month's name read the names of the months.
use Rattle.std.proofs.Common.{◌≡◌, ℕ, zero, suc, ◌+◌, ◌*◌, ◌/◌, ◌%◌, ◌<◌, List, ◌∷◌, Option, Some, Bool, true, ◌&&◌, ◌==◌, refl, sym, ap, ◌∙◌, arith}
use Rattle.std.proofs.lemmas.Bool.Decides.{nat_tests}
use Rattle.std.proofs.lemmas.Bool.{and_parts}
use Rattle.lf_layout.specs.Texts.{month_letter}
use Rattle.lf_layout.specs.Names.{first_month, month_of_name}
use Rattle.lf_layout.specs.Places.{starts_name, goes_on, ends_name, after_name, and_then, after_place}
use Rattle.lf_layout.specs.PlaceLaws.{run, run-step, run-first, and_then-some, first_month-found, first_month-finds}
use Rattle.lf_core.specs.Choices.{unwrap}
use Rattle.lf_layout.specs.declared.place.Place.{Place}
use Rattle.lf_layout.specs.declared.place.Place.TheVariants.{NameFirst, NameSecond, NameThird}

abbrev ReadsName : ℕ → Type 0
ReadsName month = month_of_name (month_letter month 0) (month_letter month 1) (month_letter month 2) ≡ month

pub name-month : (month : ℕ) → month < 12 → ReadsName month
unfolding month_of_name first_month month_letter
name-month zero h = refl
name-month (suc zero) h = refl
name-month (suc (suc zero)) h = refl
name-month (suc (suc (suc zero))) h = refl
name-month (suc (suc (suc (suc zero)))) h = refl
name-month (suc (suc (suc (suc (suc zero))))) h = refl
name-month (suc (suc (suc (suc (suc (suc zero)))))) h = refl
name-month (suc (suc (suc (suc (suc (suc (suc zero))))))) h = refl
name-month (suc (suc (suc (suc (suc (suc (suc (suc zero)))))))) h = refl
name-month (suc (suc (suc (suc (suc (suc (suc (suc (suc zero))))))))) h = refl
name-month (suc (suc (suc (suc (suc (suc (suc (suc (suc (suc zero)))))))))) h = refl
name-month (suc (suc (suc (suc (suc (suc (suc (suc (suc (suc (suc zero))))))))))) h = refl
name-month (suc (suc (suc (suc (suc (suc (suc (suc (suc (suc (suc (suc month)))))))))))) h = absurd (omega arith)

same_names : (a b : ℕ) → a < 12 → b < 12 → month_letter a 0 ≡ month_letter b 0 → month_letter a 1 ≡ month_letter b 1 → month_letter a 2 ≡ month_letter b 2 → a ≡ b
same_names a b h k x y z =
    sym (name-month a h)
    ∙ ap (λ (l : ℕ). month_of_name l (month_letter a 1) (month_letter a 2)) x
    ∙ ap (λ (l : ℕ). month_of_name (month_letter b 0) l (month_letter a 2)) y
    ∙ ap (λ (l : ℕ). month_of_name (month_letter b 0) (month_letter b 1) l) z
    ∙ name-month b k

equal : (a b : ℕ) → (a == b) ≡ true → a ≡ b
equal a b h = grind (arith, nat_tests)

same : (a b : ℕ) → a ≡ b → (a == b) ≡ true
same a b h = grind (arith, nat_tests)

both : (a b : Bool) → a ≡ true → b ≡ true → (a && b) ≡ true
both a b h k = rw h k

pub name-writes : (over month to : ℕ) → month < 12 → after_name over month ≡ Some to → (rest : List Place) (tail : List ℕ) → run (NameFirst ∷ NameSecond ∷ NameThird ∷ rest) over (month_letter month 0 ∷ (month_letter month 1 ∷ (month_letter month 2 ∷ tail))) ≡ run rest to tail
name-writes over month to h e rest tail =
    let f = first_month-finds (starts_name (month_letter month 0)) month h (same (month_letter month 0) (month_letter month 0) refl) in
    let fi = equal (month_letter f.0 0) (month_letter month 0) f.2 in
    let m1 = 12 * over + f.0 in
    let r1 : m1 % 12 ≡ f.0 = omega (arith, f.3) in
    let q1 : m1 / 12 ≡ over = omega (arith, f.3) in
    let g = first_month-finds (goes_on (m1 % 12) (month_letter month 1)) month h (both (month_letter month 0 == month_letter (m1 % 12) 0) (month_letter month 1 == month_letter month 1) (same (month_letter month 0) (month_letter (m1 % 12) 0) (sym fi ∙ ap (λ (x : ℕ). month_letter x 0) (sym r1))) (same (month_letter month 1) (month_letter month 1) refl)) in
    let gp = and_parts (month_letter g.0 0 == month_letter (m1 % 12) 0) (month_letter g.0 1 == month_letter month 1) g.2 in
    let g0 : month_letter g.0 0 ≡ month_letter month 0 = equal (month_letter g.0 0) (month_letter (m1 % 12) 0) gp.0 ∙ ap (λ (x : ℕ). month_letter x 0) r1 ∙ fi in
    let g1 : month_letter g.0 1 ≡ month_letter month 1 = equal (month_letter g.0 1) (month_letter month 1) gp.1 in
    let m2 = 12 * (m1 / 12) + g.0 in
    let r2 : m2 % 12 ≡ g.0 = omega (arith, g.3) in
    let q2 : m2 / 12 ≡ over = omega (arith, g.3, q1) in
    let k0 : month_letter (m2 % 12) 0 ≡ month_letter month 0 = ap (λ (x : ℕ). month_letter x 0) r2 ∙ g0 in
    let k1 : month_letter (m2 % 12) 1 ≡ month_letter month 1 = ap (λ (x : ℕ). month_letter x 1) r2 ∙ g1 in
    let k = first_month-finds (ends_name (m2 % 12) (month_letter month 2)) month h (both ((month_letter month 0 == month_letter (m2 % 12) 0) && (month_letter month 1 == month_letter (m2 % 12) 1)) (month_letter month 2 == month_letter month 2) (both (month_letter month 0 == month_letter (m2 % 12) 0) (month_letter month 1 == month_letter (m2 % 12) 1) (same (month_letter month 0) (month_letter (m2 % 12) 0) (sym k0)) (same (month_letter month 1) (month_letter (m2 % 12) 1) (sym k1))) (same (month_letter month 2) (month_letter month 2) refl)) in
    let kp = and_parts ((month_letter k.0 0 == month_letter (m2 % 12) 0) && (month_letter k.0 1 == month_letter (m2 % 12) 1)) (month_letter k.0 2 == month_letter month 2) k.2 in
    let kq = and_parts (month_letter k.0 0 == month_letter (m2 % 12) 0) (month_letter k.0 1 == month_letter (m2 % 12) 1) kp.0 in
    let found : k.0 ≡ month = same_names k.0 month k.3 h (equal (month_letter k.0 0) (month_letter (m2 % 12) 0) kq.0 ∙ k0) (equal (month_letter k.0 1) (month_letter (m2 % 12) 1) kq.1 ∙ k1) (equal (month_letter k.0 2) (month_letter month 2) kp.1) in
    let last : after_place NameThird m2 (month_letter month 2) ≡ Some to = ap (λ (o : Option ℕ). and_then o (λ x. after_name (m2 / 12) x)) k.1 ∙ ap (λ (x : ℕ). after_name x k.0) q2 ∙ ap (after_name over) found ∙ e in
    run-step NameFirst (NameSecond ∷ NameThird ∷ rest) over m1 (month_letter month 0) (month_letter month 1 ∷ (month_letter month 2 ∷ tail)) (ap (λ (o : Option ℕ). and_then o (λ x. Some (12 * over + x))) f.1)
    ∙ run-step NameSecond (NameThird ∷ rest) m1 m2 (month_letter month 1) (month_letter month 2 ∷ tail) (ap (λ (o : Option ℕ). and_then o (λ x. Some (12 * (m1 / 12) + x))) g.1)
    ∙ run-step NameThird rest m2 to (month_letter month 2) tail last

name-joined : (whole u v tail : List ℕ) (a b c x y z : ℕ) → whole ≡ a ∷ u → u ≡ b ∷ v → v ≡ c ∷ tail → x ≡ a → y ≡ b → z ≡ c → whole ≡ x ∷ (y ∷ (z ∷ tail))
name-joined whole u v tail a b c x y z e f g h i j = cc

pub name-reads : (over : ℕ) (rest : List Place) (whole : List ℕ) → run (NameFirst ∷ NameSecond ∷ NameThird ∷ rest) over whole ≡ true → (month : ℕ) × (to : ℕ) × (tail : List ℕ) × (month < 12) × (after_name over month ≡ Some to) × (whole ≡ month_letter month 0 ∷ (month_letter month 1 ∷ (month_letter month 2 ∷ tail))) × (run rest to tail ≡ true)
name-reads over rest whole h =
    let s = run-first NameFirst (NameSecond ∷ NameThird ∷ rest) over whole h in
    let a = and_then-some (first_month (starts_name s.0) 12 0) (λ x. Some (12 * over + x)) s.2 s.4 in
    let f = first_month-found (starts_name s.0) 12 0 a.0 a.1 in
    let m1 = unwrap (12 * over + a.0) s.2 a.2 in
    let t = run-first NameSecond (NameThird ∷ rest) s.2 s.1 s.5 in
    let b = and_then-some (first_month (goes_on (s.2 % 12) t.0) 12 0) (λ x. Some (12 * (s.2 / 12) + x)) t.2 t.4 in
    let g = first_month-found (goes_on (s.2 % 12) t.0) 12 0 b.0 b.1 in
    let gp = and_parts (month_letter b.0 0 == month_letter (s.2 % 12) 0) (month_letter b.0 1 == t.0) g.0 in
    let m2 = unwrap (12 * (s.2 / 12) + b.0) t.2 b.2 in
    let u = run-first NameThird rest t.2 t.1 t.5 in
    let c = and_then-some (first_month (ends_name (t.2 % 12) u.0) 12 0) (λ x. after_name (t.2 / 12) x) u.2 u.4 in
    let k = first_month-found (ends_name (t.2 % 12) u.0) 12 0 c.0 c.1 in
    let kp = and_parts ((month_letter c.0 0 == month_letter (t.2 % 12) 0) && (month_letter c.0 1 == month_letter (t.2 % 12) 1)) (month_letter c.0 2 == u.0) k.0 in
    let kq = and_parts (month_letter c.0 0 == month_letter (t.2 % 12) 0) (month_letter c.0 1 == month_letter (t.2 % 12) 1) kp.0 in
    let r1 : s.2 % 12 ≡ a.0 = omega (arith, m1, f.2) in
    let r2 : t.2 % 12 ≡ b.0 = omega (arith, m2, g.2) in
    let q2 : t.2 / 12 ≡ over = omega (arith, m1, m2, f.2, g.2) in
    let l0 : month_letter c.0 0 ≡ s.0 = equal (month_letter c.0 0) (month_letter (t.2 % 12) 0) kq.0 ∙ ap (λ (x : ℕ). month_letter x 0) r2 ∙ equal (month_letter b.0 0) (month_letter (s.2 % 12) 0) gp.0 ∙ ap (λ (x : ℕ). month_letter x 0) r1 ∙ equal (month_letter a.0 0) s.0 f.0 in
    let l1 : month_letter c.0 1 ≡ t.0 = equal (month_letter c.0 1) (month_letter (t.2 % 12) 1) kq.1 ∙ ap (λ (x : ℕ). month_letter x 1) r2 ∙ equal (month_letter b.0 1) t.0 gp.1 in
    let l2 : month_letter c.0 2 ≡ u.0 = equal (month_letter c.0 2) u.0 kp.1 in
    (c.0, u.2, u.1, k.2, ap (λ (x : ℕ). after_name x c.0) (sym q2) ∙ c.2, name-joined whole s.1 t.1 u.1 s.0 t.0 u.0 (month_letter c.0 0) (month_letter c.0 1) (month_letter c.0 2) s.3 t.3 u.3 l0 l1 l2, u.5)
