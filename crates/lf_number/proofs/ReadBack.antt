-- How a text is read: one number can have it, and that number's text is compared.
use Rattle.std.proofs.Common.{◌≡◌, ℕ, suc, ◌-◌, ◌≤◌, ◌^◌, List, [], ◌++◌, min, Bool, true, false, ◌==◌, refl, sym, ap, subst, ◌∙◌, to_z, of_z, arith}
use Rattle.std.specs.Prelude.{ℤ, pos, negsuc, ◌≤ℤ◌, FitsSigned, Option, None, Some, MatchOption, ◌≢◌}
use Rattle.std.specs.Int.{w64}
use Rattle.std.proofs.lemmas.Int.{ints, to_z-of_z}
use Rattle.std.proofs.lemmas.Bool.Decides.{nat_tests, Decides-eqb}
use Rattle.std.proofs.lemmas.Slice.Eq.{slice_eq-Decides}
use Rattle.std.specs.Cmp.Lexicographic.{pointwise}
use Rattle.std.proofs.Math.Dec.{eqb}
use Rattle.lf_core.specs.declared.values.Value.{Value}
use Rattle.lf_core.specs.declared.values.Value.TheVariants.{Num}
use Rattle.lf_number.specs.Numbers.{decimal, number_text, is_negative, magnitude, num_text, IsBetween, HoldsNumber}
use Rattle.lf_number.specs.Machines.{value_after, has_minus}
use Rattle.lf_number.specs.Digits.{ten, value-digits, value-other, digits-head, minus-no_digit}
use Rattle.lf_core.specs.Choices.{unwrap}

-- what `signed` tells of a sign and a magnitude
abbrev pub IsSigned : Bool → ℕ → Option ℤ → Type 0
IsSigned negative value r = MatchOption r ((m : ℤ) → FitsSigned w64 m → is_negative m ≡ negative → magnitude m ≢ value) (λ m. (is_negative m ≡ negative) × (magnitude m ≡ value))

pub magnitude-fits : (n : ℤ) → FitsSigned w64 n → magnitude n ≤ 2 ^ 63
magnitude-fits (pos k) f = omega (arith, ints)
magnitude-fits (negsuc k) f = omega (arith, ints)

same-sign : (n m : ℤ) → is_negative m ≡ is_negative n → magnitude m ≡ magnitude n → m ≡ n
same-sign (pos k) (pos l) s e = ap pos e
same-sign (pos k) (negsuc l) s e = cc
same-sign (negsuc k) (pos l) s e = cc
same-sign (negsuc k) (negsuc l) s e = let z : l ≡ k = omega arith in ap negsuc z

signed-is : (n : ℤ) (negative : Bool) (value : ℕ) (r : Option ℤ) → FitsSigned w64 n → is_negative n ≡ negative → magnitude n ≡ value → IsSigned negative value r → r ≡ Some n
signed-is n negative value None f s e h = absurd (h n f s e)
signed-is n negative value (Some m) f s e h = ap Some (same-sign n m (h.0 ∙ sym s) (h.1 ∙ sym e))

apart : (c : ℕ) → 48 ≤ c → (c == 45) ≡ false
apart c h = grind (arith, nat_tests)

minus-digits : (n : ℕ) → has_minus (decimal n) ≡ false
minus-digits n =
    let r = digits-head 10 ten n in
    let t : (r.0 == 45) ≡ false = apart r.0 r.3 in
    ap has_minus r.2 ∙ t

text-sign : (n : ℤ) → has_minus (number_text n) ≡ is_negative n
text-sign (pos n) = minus-digits n
text-sign (negsuc n) = refl

text-value : (n : ℤ) → value_after 10 0 (number_text n) ≡ magnitude n
text-value (pos n) = value-digits 10 ten n
text-value (negsuc n) = value-other 10 ten 45 (decimal (suc n)) 0 minus-no_digit ∙ value-digits 10 ten (suc n)

pub candidate-is : (n : ℤ) (text : List ℕ) (negative : Bool) (value : ℕ) (r : Option ℤ) → FitsSigned w64 n → number_text n ≡ text → negative ≡ has_minus text → value ≡ min (value_after 10 0 text) (2 ^ 64 - 1) → IsSigned negative value r → r ≡ Some n
candidate-is n text negative value r f e s v h =
    let k : is_negative n ≡ negative = sym (text-sign n) ∙ ap has_minus e ∙ sym s in
    let m : value_after 10 0 text ≡ magnitude n = ap (value_after 10 0) (sym e) ∙ text-value n in
    signed-is n negative value r f k (omega (arith, magnitude-fits n f, v, m)) h

fits-between : (lo hi n : ℤ) → FitsSigned w64 lo → FitsSigned w64 hi → lo ≤ℤ n → n ≤ℤ hi → FitsSigned w64 n
fits-between lo hi n f g l m = omega (arith, ints)

not-below : (lo m : ℤ) → pos 0 ≤ℤ lo → lo ≤ℤ m → pos 0 ≤ℤ m
not-below lo m l h = omega (arith, ints)

between-same : (lo hi n low high : ℤ) → low ≡ lo → high ≡ hi → IsBetween lo hi n → IsBetween low high n
between-same lo hi n low high l m h =
    (subst (λ (x : ℤ). x ≤ℤ n) (sym l) h.0, subst (λ (x : ℤ). n ≤ℤ x) (sym m) h.1)

-- a held number, not negative, whose text tells the magnitude is the one that is found
pub only-value : (r : ℕ) (f : ℤ → List ℕ) → ((k : ℕ) → value_after r 0 (f (pos k)) ≡ k) → (lo hi : ℤ) (text : List ℕ) (found : Option Value) → FitsSigned w64 lo → FitsSigned w64 hi → pos 0 ≤ℤ lo → ((n : ℤ) → FitsSigned w64 n → pos 0 ≤ℤ n → IsBetween (to_z w64 (of_z w64 lo)) (to_z w64 (of_z w64 hi)) n → value_after r 0 text ≡ magnitude n → found ≡ Some (Num n)) → (v : Value) → HoldsNumber lo hi v → num_text f v ≡ text → found ≡ Some v
only-value r f back lo hi text found fl fh low only (Num (pos k)) h e =
    only (pos k) (fits-between lo hi (pos k) fl fh h.0 h.1) (not-below lo (pos k) low h.0) (between-same lo hi (pos k) _ _ (to_z-of_z w64 lo fl) (to_z-of_z w64 hi fh) h) (ap (value_after r 0) (sym e) ∙ back k)
only-value r f back lo hi text found fl fh low only (Num (negsuc k)) h e =
    let l : pos 0 ≤ℤ negsuc k = not-below lo (negsuc k) low h.0 in
    absurd (omega (arith, ints))
only-value r f back lo hi text found fl fh low only v h e = absurd h

-- where the found value has another text, no value has the text
pub no-other : (f : Value → List ℕ) (text : List ℕ) (found : Option Value) (value v : Value) → found ≡ Some value → (f value ≡ text → ⊥) → found ≡ Some v → f v ≡ text → ⊥
no-other f text found value v is apart only e =
    let z : v ≡ value = unwrap v value (sym only ∙ is) in
    apart (subst (λ (x : Value). f x ≡ text) z e)

-- a text written into an empty list, compared with another
pub written-apart : (old new text plain other : List ℕ) (same : Bool) → old ≡ [] → new ≡ old ++ text → plain ≡ new → same ≡ pointwise eqb plain other → same ≡ false → text ≡ other → ⊥
written-apart old new text plain other same o n p s f e =
    let t : plain ≡ text = p ∙ n ∙ ap (λ (x : List ℕ). x ++ text) o in
    let h = slice_eq-Decides Decides-eqb plain other same s in
    let y : same ≡ true = h.1 (t ∙ e) in
    cc
