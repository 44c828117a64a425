-- One byte more of the least word.
use Rattle.std.proofs.Common.{◌≡◌, ℕ, suc, ◌+◌, ◌<◌, ◌≤◌, ◌⊎◌, inl, inr, Bool, false, List, [], ◌∷◌, ◌++◌, length, take, get_or, refl, sym, ap, ◌∙◌, subst, arith, length-append, append_assoc, add-one}
use Rattle.std.specs.List.{Contains}
use Rattle.std.proofs.lemmas.Bool.{cases_lt}
use Rattle.std.proofs.lemmas.List.{take_more, take_all, length-take-le, append-nil}
use Rattle.std.proofs.lemmas.List.Elements.{Contains-get_or, Contains-push_cases}
use Rattle.lf_core.specs.Marked.{Machine, IsMachine, NoneTwice}
use Rattle.lf_core.specs.WrittenLaws.{move_stays}
use Rattle.lf_product.specs.declared.pair.Pair.{Pair}
use Rattle.lf_product.specs.Distance.{differed_by, PairStep, Suffices}
use Rattle.lf_product.specs.Walk.{NotAbove, Shares, SharesAt, SharesFrom, IsLeast, IsNextOf, AreBelow, IsLevel, IsLeastWord}
use Rattle.lf_product.proofs.Ambiguity.{byte_low}
use Rattle.lf_product.proofs.RunPairs.{suffices_from_shares}

-- a pair that stands for none
abbrev pub no_pair : Pair
no_pair = record { left = 0; right = 0; differed = false }

pub pair_is : (p q : Pair) → p.left ≡ q.left → p.right ≡ q.right → p.differed ≡ q.differed → p ≡ q
pair_is p q e f g =
    ap (λ (v : ℕ). record { left = v; right = p.right; differed = p.differed }) e
    ∙ ap (λ (v : ℕ). record { left = q.left; right = v; differed = p.differed }) f
    ∙ ap (λ (v : Bool). record { left = q.left; right = q.right; differed = v }) g

pub none_twice-push : {X : Type 0} (xs : List X) (x : X) → NoneTwice xs → (Contains xs x → ⊥) → NoneTwice (xs ++ x ∷ [])
none_twice-push [] x once new = (λ h. let lt = h.1 in absurd (omega (arith, lt)), tt)
none_twice-push (y ∷ ys) x once new = (
  λ h. elim (Contains-push_cases ys x y h) [ inl before ↦ once.0 before | inr is ↦ new (0, omega arith, sym is) ],
  none_twice-push ys x once.1 (λ h. new (suc h.0, let lt = h.1 in omega (arith, lt), h.2)),
)

-- what was taken begins the least word with the property, and the level is what it leads to
pub record Begins (m : Machine) (P : List ℕ → Type 0) (taken : List ℕ) (k : ℕ) (level : List Pair) : Type 0 where
  pub to_start : (cs : List ℕ) (p : Pair) → Contains level p → SharesAt m cs p → P (taken ++ cs)
  pub from_start : (cs : List ℕ) → length cs ≡ k → P (taken ++ cs) → SharesFrom m level cs
  pub least : (cs bs : List ℕ) → length cs ≡ length taken → length bs ≡ k → P (cs ++ bs) → NotAbove taken cs

notabove_cases : (as' bs : List ℕ) → length bs ≡ length as' → NotAbove as' bs → ((cs ds : List ℕ) → NotAbove (as' ++ cs) (bs ++ ds)) ⊎ (as' ≡ bs)
notabove_cases [] [] e h = inr refl
notabove_cases [] (b ∷ bs) e h = absurd (omega (arith, e))
notabove_cases (a ∷ as') [] e h = absurd h
notabove_cases (a ∷ as') (b ∷ bs) e (inl lt) = inl (λ cs ds. inl lt)
notabove_cases (a ∷ as') (b ∷ bs) e (inr (q, h)) =
    elim (notabove_cases as' bs (omega (arith, e)) h) [
      | inl f ↦ inl (λ cs ds. inr (q, f cs ds))
      | inr same ↦ inr (ap (λ (x : ℕ). x ∷ as') q ∙ ap (λ (xs : List ℕ). b ∷ xs) same)
    ]

notabove_more : (as' : List ℕ) (c d : ℕ) → c ≤ d → NotAbove (as' ++ c ∷ []) (as' ++ d ∷ [])
notabove_more [] c d h = elim (cases_lt c d) [ inl lt ↦ inl lt | inr ge ↦ inr (omega (arith, h, ge), tt) ]
notabove_more (a ∷ as') c d h = inr (refl, notabove_more as' c d h)

-- from a pair of the level, a shared rest leads over a next pair
next_from_shares : (m : Machine) (k : ℕ) (level : List Pair) (c : ℕ) (cs : List ℕ) (q : Pair) → length cs ≡ k → Contains level q → IsLeast m (k + 1) q → SharesAt m (c ∷ cs) q → (p : Pair) × IsNextOf m k level c p × SharesAt m cs p
next_from_shares m k level c cs q len listed least (x, y, hx, hy, rest) =
    let d' : Bool = differed_by q.differed x y in
    let p : Pair = record { left = x.to; right = y.to; differed = d' } in
    let some : Suffices m k x.to y.to d' = subst (λ (n : ℕ). Suffices m n x.to y.to d') len (suffices_from_shares m cs x.to y.to d' rest) in
    let step : PairStep m q.left q.right q.differed x.to y.to d' = record { byte = c; left = x; right = y; on_left = hx; on_right = hy; left_to = refl; right_to = refl; value = refl } in (
      p,
      record {
        from = q;
        listed = listed;
        next = record {
          x = x;
          y = y;
          on_left = hx;
          on_right = hy;
          left_is = refl;
          right_is = refl;
          differed_is = refl;
          least = (some, λ j h. let le : k + 1 ≤ suc j = least.1 (suc j) (x.to, y.to, d', step, h) in omega (arith, le));
        };
      },
      rest,
    )

shares_from_next : (m : Machine) (k : ℕ) (level : List Pair) (c : ℕ) (cs : List ℕ) (p : Pair) → (n : IsNextOf m k level c p) → SharesAt m cs p → SharesAt m (c ∷ cs) n.from
shares_from_next m k level c cs p n h =
    let s = n.next in
    (s.x, s.y, s.on_left, s.on_right, subst (λ (d : Bool). Shares m cs s.x.to s.y.to d) s.differed_is (subst (λ (b : ℕ). Shares m cs s.x.to b p.differed) s.right_is (subst (λ (a : ℕ). Shares m cs a p.right p.differed) s.left_is h)))

split_last : (taken cs : List ℕ) (c : ℕ) → (taken ++ c ∷ []) ++ cs ≡ taken ++ (c ∷ cs)
split_last taken cs c = append_assoc taken (c ∷ []) cs

-- a list that is one longer ends in one more
last_of : (cs : List ℕ) (n : ℕ) → length cs ≡ n + 1 → cs ≡ take n cs ++ get_or cs n 0 ∷ []
last_of cs n e = sym (take_all (n + 1) cs (omega (arith, e))) ∙ take_more cs n 0 (omega (arith, e))

least_more : (m : Machine) (P : List ℕ → Type 0) (taken : List ℕ) (k c : ℕ) (level : List Pair) → Begins m P taken (k + 1) level → IsLevel m (k + 1) level → ((b : ℕ) (p : Pair) → b < c → IsNextOf m k level b p → ⊥) → (cs bs : List ℕ) → length cs ≡ length (taken ++ c ∷ []) → length bs ≡ k → P (cs ++ bs) → NotAbove (taken ++ c ∷ []) cs
least_more m P taken k c level g v none cs bs len lenb s =
    let n : ℕ = length taken in
    let e : ℕ = get_or cs n 0 in
    let one : length cs ≡ n + 1 = omega (arith, len, length-append taken (c ∷ [])) in
    let is : cs ≡ take n cs ++ e ∷ [] = last_of cs n one in
    let lenp : length (take n cs) ≡ n = length-take-le n cs (omega (arith, one)) in
    let s' : P (take n cs ++ (e ∷ bs)) = subst P (ap (λ (xs : List ℕ). xs ++ bs) is ∙ split_last (take n cs) bs e) s in
    let lenb' : length (e ∷ bs) ≡ k + 1 = omega (arith, lenb) in
    subst (λ (xs : List ℕ). NotAbove (taken ++ c ∷ []) xs) (sym is)
    (elim (notabove_cases taken (take n cs) lenp (g.least (take n cs) (e ∷ bs) lenp lenb' s')) [
      | inl f ↦ f (c ∷ []) (e ∷ [])
      | inr same ↦
          let q = g.from_start (e ∷ bs) lenb' (subst (λ (xs : List ℕ). P (xs ++ (e ∷ bs))) (sym same) s') in
          let r = next_from_shares m k level e bs q.0 lenb q.1 (v.each_least q.0 q.1) q.2 in
          subst (λ (xs : List ℕ). NotAbove (taken ++ c ∷ []) (xs ++ e ∷ [])) same
          (elim (cases_lt e c) [ inl lt ↦ absurd (none e r.0 lt r.1) | inr ge ↦ notabove_more taken c e ge ])
    ])

-- the least byte with a next pair goes on
pub begins_more : (m : Machine) (P : List ℕ → Type 0) (taken : List ℕ) (k c : ℕ) (level next : List Pair) → Begins m P taken (k + 1) level → IsLevel m (k + 1) level → ((p : Pair) → Contains next p → IsNextOf m k level c p) → ((p : Pair) → IsNextOf m k level c p → Contains next p) → ((b : ℕ) (p : Pair) → b < c → IsNextOf m k level b p → ⊥) → Begins m P (taken ++ c ∷ []) k next
begins_more m P taken k c level next g v from all none = record {
  to_start = λ cs p h s.
      let n = from p h in
      subst P (sym (split_last taken cs c)) (g.to_start (c ∷ cs) n.from n.listed (shares_from_next m k level c cs p n s));
  from_start = λ cs len s.
      let q = g.from_start (c ∷ cs) (omega (arith, len)) (subst P (split_last taken cs c) s) in
      let r = next_from_shares m k level c cs q.0 len q.1 (v.each_least q.0 q.1) q.2 in
      (r.0, all r.0 r.1, r.2);
  least = λ cs bs len lenb s. least_more m P taken k c level g v none cs bs len lenb s;
}

-- at the start
pub begins_first : (m : Machine) (k : ℕ) (level : List Pair) → Begins m (SharesFrom m level) [] k level
begins_first m k level = record { to_start = λ cs p h s. (p, h, s); from_start = λ cs len s. s; least = λ cs bs len lenb s. tt }

-- at the ends
pub least_word_is : (m : Machine) (k : ℕ) (start level : List Pair) (word : List ℕ) → IsLevel m k start → length word ≡ k → Begins m (SharesFrom m start) word 0 level → IsLevel m 0 level → IsLeastWord m start word
least_word_is m k start level word first len g v =
    let p : Pair = get_or level 0 no_pair in
    let listed : Contains level p = Contains-get_or level 0 no_pair v.some in
    record {
      shared = subst (SharesFrom m start) (append-nil word) (g.to_start [] p listed (v.each_least p listed).0);
      least = λ other s.
          let le : k ≤ length other = (first.each_least s.0 s.1).1 (length other) (suffices_from_shares m other s.0.left s.0.right s.0.differed s.2) in
          elim (cases_lt (length word) (length other)) [
            | inl lt ↦ inl lt
            | inr ge ↦
                let e : length word ≡ length other = omega (arith, le, ge, len) in
                inr (e, g.least other [] (sym e) refl (subst (SharesFrom m start) (sym (append-nil other)) s))
          ];
    }

-- a level that isn't at the ends leads on by some byte
pub leads_on : (m : Machine) (k : ℕ) (level : List Pair) → IsMachine m → IsLevel m (k + 1) level → (b : ℕ) × (b < 256) × ((p : Pair) × IsNextOf m k level b p)
leads_on m k level lawful v =
    let q : Pair = get_or level 0 no_pair in
    let listed : Contains level q = Contains-get_or level 0 no_pair v.some in
    let least = v.each_least q listed in
    let some : Suffices m (suc k) q.left q.right q.differed = subst (λ (n : ℕ). Suffices m n q.left q.right q.differed) (add-one k) least.0 in
    let s = some.3 in (
      s.byte,
      byte_low m q.left s.byte s.left lawful (v.below.left q listed) s.on_left,
      (
        record { left = some.0; right = some.1; differed = some.2 },
        record {
          from = q;
          listed = listed;
          next = record {
            x = s.left;
            y = s.right;
            on_left = s.on_left;
            on_right = s.on_right;
            left_is = sym s.left_to;
            right_is = sym s.right_to;
            differed_is = sym s.value;
            least = (some.4, λ j h. let le : k + 1 ≤ suc j = least.1 (suc j) (some.0, some.1, some.2, s, h) in omega (arith, le));
          };
        },
      ),
    )

-- what a byte leads to is a level, where there is some of it
pub level_from_next : (m : Machine) (k : ℕ) (level : List Pair) (byte : ℕ) (next : List Pair) → IsMachine m → AreBelow m level → 0 < length next → ((p : Pair) → Contains next p → IsNextOf m k level byte p) → IsLevel m k next
level_from_next m k level byte next lawful below some from = record {
  some = some;
  below = record {
    left = λ p h. let n = from p h in rw n.next.left_is (move_stays m n.from.left byte n.next.x lawful (below.left n.from n.listed) n.next.on_left);
    right = λ p h. let n = from p h in rw n.next.right_is (move_stays m n.from.right byte n.next.y lawful (below.right n.from n.listed) n.next.on_right);
  };
  each_least = λ p h. (from p h).next.least;
}
