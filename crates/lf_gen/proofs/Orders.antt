-- The order of lines: the shorter first, and of equal length by bytes.
use Rattle.std.proofs.Common.{◌≡◌, ℕ, ◌<◌, ◌≤◌, ◌⊎◌, inl, inr, List, [], ◌∷◌, ◌++◌, length, false, Ordering, Less, Equal, Greater, nat_cmp, refl, ap, subst, ◌∙◌, arith, length-append}
use Rattle.std.specs.Ordering.{ordering_then, is_gt, MatchOrdering}
use Rattle.std.proofs.lemmas.Cmp.{nat_list_cmp_total, nat_cmp_total, tied_itself, ranked}
use Rattle.lf_gen.specs.Compared.{line_cmp}
use Rattle.lf_gen.specs.First.{bytes_cmp, LineLt}

pub then-assoc : (p q r : Ordering) → ordering_then p (ordering_then q r) ≡ ordering_then (ordering_then p q) r
then-assoc Less q r = refl
then-assoc Equal q r = refl
then-assoc Greater q r = refl

-- lists of one length are compared part by part
pub bytes-append : (a b c d : List ℕ) → length a ≡ length b → bytes_cmp (a ++ c) (b ++ d) ≡ ordering_then (bytes_cmp a b) (bytes_cmp c d)
bytes-append [] [] c d e = refl
bytes-append [] (y ∷ b) c d e = absurd (omega (arith, e))
bytes-append (x ∷ a) [] c d e = absurd (omega (arith, e))
bytes-append (x ∷ a) (y ∷ b) c d e =
    ap (ordering_then (nat_cmp x y)) (bytes-append a b c d (omega (arith, e)))
    ∙ then-assoc (nat_cmp x y) (bytes_cmp a b) (bytes_cmp c d)

pub bytes-same : (a : List ℕ) → bytes_cmp a a ≡ Equal
bytes-same a = tied_itself nat_list_cmp_total a

pub nat-same : (n : ℕ) → nat_cmp n n ≡ Equal
nat-same n = tied_itself nat_cmp_total n

-- neither is greater, one after the other
pub then-not_above : (p q : Ordering) → is_gt p ≡ false → is_gt q ≡ false → is_gt (ordering_then p q) ≡ false
then-not_above Less q h g = refl
then-not_above Equal q h g = g
then-not_above Greater q h g = h

-- The line is less, or the same.
abbrev pub LineUpTo : List ℕ → List ℕ → Type 0
LineUpTo a b = LineLt a b ⊎ (a ≡ b)

less_by : (a b : ℕ) (o : Ordering) → a < b → MatchOrdering o (a < b) (a ≡ b) (b < a) → o ≡ Less
less_by a b Less h m = refl
less_by a b Equal h m = absurd (omega (arith, h, m))
less_by a b Greater h m = absurd (omega (arith, h, m))

pub nat-less : (a b : ℕ) → a < b → nat_cmp a b ≡ Less
nat-less a b h = less_by a b (nat_cmp a b) h (ranked a b (nat_cmp a b) refl)

pub line-less : (a b : List ℕ) → LineLt a b → line_cmp a b ≡ Less
line-less a b (inl h) = ap (λ (o : Ordering). ordering_then o (bytes_cmp a b)) (nat-less (length a) (length b) h)
line-less a b (inr h) =
    ap (λ (n : ℕ). ordering_then (nat_cmp n (length b)) (bytes_cmp a b)) h.0
    ∙ ap (λ (o : Ordering). ordering_then o (bytes_cmp a b)) (nat-same (length b)) ∙ h.1

pub line-same : (a b : List ℕ) → a ≡ b → line_cmp a b ≡ Equal
line-same a b e =
    ap (λ (c : List ℕ). line_cmp c b) e
    ∙ ap (λ (o : Ordering). ordering_then o (bytes_cmp b b)) (nat-same (length b)) ∙ bytes-same b

up_to-length : (a b : List ℕ) → LineUpTo a b → length a ≤ length b
up_to-length a b (inl (inl h)) = omega (arith, h)
up_to-length a b (inl (inr h)) = omega (arith, h.0)
up_to-length a b (inr e) = omega (arith, ap length e)

-- A lesser line stays less where what follows isn't longer.
pub lt-before : (a b c d : List ℕ) → LineLt a b → length c ≤ length d → (length c < length d) ⊎ (length c ≡ length d) → LineLt (a ++ c) (b ++ d)
lt-before a b c d (inl h) more cases = inl (omega (arith, h, more, length-append a c, length-append b d))
lt-before a b c d (inr h) more (inl less) = inl (omega (arith, h.0, less, length-append a c, length-append b d))
lt-before a b c d (inr h) more (inr same) =
    inr (
      omega (arith, h.0, same, length-append a c, length-append b d),
      bytes-append a b c d h.0 ∙ ap (λ (o : Ordering). ordering_then o (bytes_cmp c d)) h.1,
    )

up_to-cases : (c d : List ℕ) → LineUpTo c d → (length c < length d) ⊎ (length c ≡ length d)
up_to-cases c d (inl (inl h)) = inl h
up_to-cases c d (inl (inr h)) = inr h.0
up_to-cases c d (inr e) = inr (ap length e)

pub lt-up_to : (a b c d : List ℕ) → LineLt a b → LineUpTo c d → LineLt (a ++ c) (b ++ d)
lt-up_to a b c d h g = lt-before a b c d h (up_to-length c d g) (up_to-cases c d g)

pub lt-tail : (a b c d : List ℕ) → LineLt a b → length c ≡ length d → LineLt (a ++ c) (b ++ d)
lt-tail a b c d h e = lt-before a b c d h (omega (arith, e)) (inr e)

-- After one front the lesser line is less.
pub after-front : (a c d : List ℕ) → LineLt c d → LineLt (a ++ c) (a ++ d)
after-front a c d (inl h) = inl (omega (arith, h, length-append a c, length-append a d))
after-front a c d (inr h) =
    inr (
      omega (arith, h.0, length-append a c, length-append a d),
      bytes-append a a c d refl ∙ ap (λ (o : Ordering). ordering_then o (bytes_cmp c d)) (bytes-same a) ∙ h.1,
    )

pub up_to-append : (a b c d : List ℕ) → LineUpTo a b → LineUpTo c d → LineUpTo (a ++ c) (b ++ d)
up_to-append a b c d (inl h) g = inl (lt-up_to a b c d h g)
up_to-append a b c d (inr e) (inl g) = inl (subst (λ (x : List ℕ). LineLt (a ++ c) (x ++ d)) e (after-front a c d g))
up_to-append a b c d (inr e) (inr f) = inr (ap (λ (x : List ℕ). x ++ c) e ∙ ap (λ (x : List ℕ). b ++ x) f)

-- nothing is less than what isn't empty
pub none-up_to : (a : List ℕ) → LineUpTo [] a
none-up_to [] = inr refl
none-up_to (x ∷ a) = inl (inl (omega arith))
