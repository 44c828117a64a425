-- The moves by letters from a point of the domain's machine and what was read of a word.
use Rattle.std.proofs.Common.{◌≡◌, ℕ, zero, suc, ◌+◌, ◌*◌, ◌/◌, ◌%◌, ◌<◌, ◌≤◌, inl, inr, List, [], ◌∷◌, ◌++◌, length, get_or, Option, None, Some, Bool, true, false, cond, ◌&&◌, refl, sym, ap, ◌∙◌, arith, append_assoc, Contains}
use Rattle.std.proofs.lemmas.Nat.{div-mul-add, mod-mul-add, div_below, row_fits}
use Rattle.std.proofs.lemmas.List.Elements.{Contains-append_cases, Contains-append_left, Contains-append_right}
use Rattle.std.proofs.lemmas.Bool.{cases_Bool}
use Rattle.lf_core.specs.declared.marked.Move.{Move}
use Rattle.lf_machine.specs.Paths.{Step}
use Rattle.lf_machine.specs.Letters.{At, inner, letter_step, CanStep, IsDone}
use Rattle.lf_machine.specs.Lists.{none-there, one-there, there-one, Rises, rises-append, rises-guard}
use Rattle.lf_code_table.specs.Table.{index_of, same_list}
use Rattle.lf_machine.specs.LetterMoves.{letter_moves, one_letter, letter_move, letter-moves, letter-moved}
use Rattle.lf_code_table.specs.Prefixes.{Has, index-there, IsPrefix}
use Rattle.lf_machine.specs.Numbered.{numbered}
use Rattle.lf_machine.specs.SlotMachine.{SlotMachine}

-- the number, or 0 where there is none
abbrev pub or_zero : Option ℕ → ℕ
or_zero None = 0
or_zero (Some j) = j

-- whether a list is empty
abbrev pub is_nil : List ℕ → Bool
is_nil [] = true
is_nil (b ∷ bs) = false

pub nil-is : (bs : List ℕ) → is_nil bs ≡ true → bs ≡ []
nil-is [] h = refl
nil-is (b ∷ bs) h = cc

pub is-nil : (bs : List ℕ) → bs ≡ [] → is_nil bs ≡ true
is-nil bs h = rw h refl

-- the move by a byte inside a word
abbrev pub inner_move : ℕ → ℕ → Option ℕ → List Move
inner_move width q None = []
inner_move width q (Some j) = record { mark = 2; to = q * width + j } ∷ []

inner-from : (width q : ℕ) (o : Option ℕ) (m : Move) → Contains (inner_move width q o) m → (j : ℕ) × (o ≡ Some j) × (m ≡ record { mark = 2; to = q * width + j })
inner-from width q None m h = absurd (none-there m h)
inner-from width q (Some j) m h = (j, refl, one-there (record { mark = 2; to = q * width + j }) m h)

inner-rises : (width q : ℕ) (o : Option ℕ) → Rises 2 3 (inner_move width q o)
inner-rises width q None = omega arith
inner-rises width q (Some j) = (omega arith, omega arith)

rises-option : (o : Option ℕ) (width n : ℕ) → Rises (3 + n) (3 + suc n) (letter_move 3 width n o)
rises-option None width n = omega arith
rises-option (Some q) width n = (omega arith, omega arith)

letters-rise : (takes : ℕ → Bool) (word : ℕ → List ℕ) (next : ℕ → Option ℕ) (width : ℕ) (text : List ℕ) (n : ℕ) → Rises 3 (3 + n) (letter_moves takes word next 3 width text n)
unfolding letter_moves
letters-rise takes word next width text zero = omega arith
letters-rise takes word next width text (suc n) =
    let o : Rises (3 + n) (3 + suc n) (one_letter takes word next 3 width text n) =
    rises-guard (takes n) (3 + n) (3 + suc n) (cond (same_list (word n) text) (letter_move 3 width n (next n)) []) (omega arith)
    (rises-guard (same_list (word n) text) (3 + n) (3 + suc n) (letter_move 3 width n (next n)) (omega arith) (rises-option (next n) width n)) in
    rises-append 3 (3 + n) (3 + suc n) (letter_moves takes word next 3 width text n) (one_letter takes word next 3 width text n) (letters-rise takes word next width text n) o

same-at : (s t : At) → s.point ≡ t.point → s.begun ≡ t.begun → s ≡ t
same-at s t e f =
    let g : record { point = s.point; begun = s.begun } ≡ record { point = t.point; begun = s.begun } = ap (λ (n : ℕ). let k : At = record { point = n; begun = s.begun } in k) e in
    let h : record { point = t.point; begun = s.begun } ≡ record { point = t.point; begun = t.begun } = ap (λ (l : List ℕ). let k : At = record { point = t.point; begun = l } in k) f in
    g ∙ h

module _ (sm : SlotMachine) where
  -- what a slot's machine and table keep
  pub record IsLaid : Type 0 where
    pub root : index_of sm.table [] ≡ Some 0
    pub fronts : (read : List ℕ) (b j : ℕ) → index_of sm.table (read ++ b ∷ []) ≡ Some j → IsPrefix sm.takes sm.word (read ++ b ∷ [])
    pub front : (text post : List ℕ) (c x : ℕ) → sm.takes c ≡ true → sm.word c ≡ text ++ x ∷ post → Has sm.table text
    pub bytes : (c : ℕ) → sm.takes c ≡ true → c < 256
    pub begins : sm.first < sm.size
    pub stays : (q c t : ℕ) → q < sm.size → sm.next q c ≡ Some t → t < sm.size

  -- the moves from a point of the domain's machine and what was read of a word
  abbrev pub at_moves : ℕ → List ℕ → ℕ → List Move
  at_moves q read byte = inner_move (length sm.table) q (index_of sm.table (read ++ byte ∷ [])) ++ letter_moves sm.takes sm.word (sm.next q) 3 (length sm.table) (read ++ byte ∷ []) 256

  -- the number of a state
  abbrev pub at_number : At → ℕ
  at_number s = s.point * length sm.table + or_zero (index_of sm.table s.begun)

  -- the states that have a number
  abbrev pub ValidAt : At → Type 0
  ValidAt s = (s.point < sm.size) × Has sm.table s.begun

  -- the state of a number
  abbrev pub at_state : ℕ → At
  at_state n = record { point = n / length sm.table; begun = get_or sm.table (n % length sm.table) [] }

  pub at-rises : (q : ℕ) (read : List ℕ) (byte : ℕ) → Rises 2 259 (at_moves q read byte)
  at-rises q read byte =
      let l : Rises 3 (3 + 256) (letter_moves sm.takes sm.word (sm.next q) 3 (length sm.table) (read ++ byte ∷ []) 256) = letters-rise sm.takes sm.word (sm.next q) (length sm.table) (read ++ byte ∷ []) 256 in
      rises-append 2 3 259 (inner_move (length sm.table) q (index_of sm.table (read ++ byte ∷ []))) (letter_moves sm.takes sm.word (sm.next q) 3 (length sm.table) (read ++ byte ∷ []) 256)
      (inner-rises (length sm.table) q (index_of sm.table (read ++ byte ∷ []))) l

  -- a letter may begin
  abbrev pub at_root : At → Bool
  at_root s = is_nil s.begun && sm.ends s.point

  module _ (is : IsLaid) where
    pub wide : 0 < length sm.table
    wide = (index-there sm.table [] 0 is.root).0

    pub at-range : (s : At) → ValidAt s → at_number s < sm.size * length sm.table
    at-range s v =
        let l = (index-there sm.table s.begun v.1.0 v.1.1).0 in
        let f : s.point * length sm.table + length sm.table ≤ sm.size * length sm.table = row_fits s.point (length sm.table) sm.size (length sm.table) v.0 (omega arith) in
        rw (v.1.1) (omega (arith, f, l))

    pub at-back : (s : At) → ValidAt s → at_state (at_number s) ≡ s
    at-back s v =
        let i = index-there sm.table s.begun v.1.0 v.1.1 in
        let e : at_number s ≡ s.point * length sm.table + v.1.0 = ap (λ (o : Option ℕ). s.point * length sm.table + or_zero o) v.1.1 in
        let d : at_number s / length sm.table ≡ s.point = ap (λ (n : ℕ). n / length sm.table) e ∙ div-mul-add s.point (length sm.table) v.1.0 i.0 in
        let m : at_number s % length sm.table ≡ v.1.0 = ap (λ (n : ℕ). n % length sm.table) e ∙ mod-mul-add s.point (length sm.table) v.1.0 i.0 in
        same-at (at_state (at_number s)) s d (ap (λ (n : ℕ). get_or sm.table n []) m ∙ i.1)

    pub at-first : (n : ℕ) → n < sm.size * length sm.table → n / length sm.table < sm.size
    at-first n h = div_below n (length sm.table) sm.size wide h

    -- the move is a step, by numbers
    abbrev pub Stepped : ℕ → List ℕ → ℕ → Move → Type 0
    Stepped q read byte m = (k : Step At) × CanStep sm (record { point = q; begun = read }) byte k × ValidAt k.to × (m ≡ numbered at_number k)

    pub at-goes : (q : ℕ) (read : List ℕ) (byte : ℕ) (m : Move) → q < sm.size → Contains (at_moves q read byte) m → Stepped q read byte m
    at-goes q read byte m l h =
        elim (Contains-append_cases (inner_move (length sm.table) q (index_of sm.table (read ++ byte ∷ []))) (letter_moves sm.takes sm.word (sm.next q) 3 (length sm.table) (read ++ byte ∷ []) 256) m h) [
          | inl i ↦
              let f = inner-from (length sm.table) q (index_of sm.table (read ++ byte ∷ [])) m i in
              let g = is.fronts read byte f.0 f.1 in
              let e : m ≡ numbered at_number (inner q (read ++ byte ∷ [])) = f.2 ∙ ap (λ (o : Option ℕ). let k : Move = record { mark = 2; to = q * length sm.table + or_zero o } in k) (sym f.1) in
              (inner q (read ++ byte ∷ []), inl (g.0, g.1, g.2, g.3, g.4 ∙ append_assoc read (byte ∷ []) (g.1 ∷ g.2), refl), (l, (f.0, f.1)), e)
          | inr i ↦
              let f = letter-moves sm.takes sm.word (sm.next q) 3 (length sm.table) (read ++ byte ∷ []) 256 m i in
              let z : f.1 * length sm.table ≡ f.1 * length sm.table + 0 = omega arith in
              let e : m ≡ numbered at_number (letter_step f.0 f.1) =
              f.5
              ∙ ap (λ (n : ℕ). let k : Move = record { mark = 3 + f.0; to = n } in k) z
              ∙ ap (λ (o : Option ℕ). let k : Move = record { mark = 3 + f.0; to = f.1 * length sm.table + or_zero o } in k) (sym is.root) in
              (letter_step f.0 f.1, inr (f.0, f.1, f.2, f.3, f.4, refl), (is.stays q f.0 f.1 l f.4, (0, is.root)), e)
        ]

    pub at-gone : (q : ℕ) (read : List ℕ) (byte : ℕ) (k : Step At) → q < sm.size → CanStep sm (record { point = q; begun = read }) byte k → ValidAt k.to × Contains (at_moves q read byte) (numbered at_number k)
    at-gone q read byte k l h =
        elim h [
          | inl i ↦
              let w : sm.word i.0 ≡ (read ++ byte ∷ []) ++ i.1 ∷ i.2 = i.4 ∙ sym (append_assoc read (byte ∷ []) (i.1 ∷ i.2)) in
              let f = is.front (read ++ byte ∷ []) i.2 i.0 i.1 i.3 w in
              let mv : Move = record { mark = 2; to = q * length sm.table + f.0 } in
              let e : numbered at_number k ≡ mv = ap (numbered at_number) i.5 ∙ ap (λ (o : Option ℕ). let x : Move = record { mark = 2; to = q * length sm.table + or_zero o } in x) f.1 in
              let c : Contains (inner_move (length sm.table) q (index_of sm.table (read ++ byte ∷ []))) mv = rw (f.1) (there-one mv) in
              let v : ValidAt k.to = rw (i.5) (l, f) in
              (v, rw e (Contains-append_left (inner_move (length sm.table) q (index_of sm.table (read ++ byte ∷ []))) (letter_moves sm.takes sm.word (sm.next q) 3 (length sm.table) (read ++ byte ∷ []) 256) mv c))
          | inr i ↦
              let mv : Move = record { mark = 3 + i.0; to = i.1 * length sm.table } in
              let z : i.1 * length sm.table + 0 ≡ i.1 * length sm.table = omega arith in
              let e : numbered at_number k ≡ mv =
              ap (numbered at_number) i.5
              ∙ ap (λ (o : Option ℕ). let x : Move = record { mark = 3 + i.0; to = i.1 * length sm.table + or_zero o } in x) is.root
              ∙ ap (λ (n : ℕ). let x : Move = record { mark = 3 + i.0; to = n } in x) z in
              let c : Contains (letter_moves sm.takes sm.word (sm.next q) 3 (length sm.table) (read ++ byte ∷ []) 256) mv =
              letter-moved sm.takes sm.word (sm.next q) 3 (length sm.table) (read ++ byte ∷ []) 256 i.0 i.1 (is.bytes i.0 i.2) i.2 i.3 i.4 in
              let v : ValidAt k.to = rw (i.5) (is.stays q i.0 i.1 l i.4, (0, is.root)) in
              (v, rw e (Contains-append_right (inner_move (length sm.table) q (index_of sm.table (read ++ byte ∷ []))) (letter_moves sm.takes sm.word (sm.next q) 3 (length sm.table) (read ++ byte ∷ []) 256) mv c))
        ]

    pub root-done : (s : At) → at_root s ≡ true → IsDone sm s
    root-done s h = elim (cases_Bool (is_nil s.begun)) [
      | inl t ↦ let g : sm.ends s.point ≡ true = rw t at h in (nil-is s.begun t, g)
      | inr t ↦ let g : false ≡ true = rw t at h in cc
    ]

    pub done-root : (s : At) → IsDone sm s → at_root s ≡ true
    done-root s h = let t = is-nil s.begun h.0 in rw (t, h.1) refl
