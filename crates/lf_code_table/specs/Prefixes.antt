-- What stands in the table of a code's proper prefixes.
use Rattle.std.proofs.Common.{◌≡◌, ℕ, zero, suc, ◌<◌, ◌⊎◌, inl, inr, List, [], ◌∷◌, ◌++◌, length, get_or, Option, None, Some, Bool, true, false, cond, refl, sym, ap, subst, ◌∙◌, arith, append_assoc, append-nil}
use Rattle.std.proofs.lemmas.Bool.Decides.{leb_tells}
use Rattle.lf_code_table.specs.Table.{same_list, same_list-true, true-same_list, index_of, added, with_prefixes, prefix_table}
use Rattle.std.proofs.lemmas.Bool.{cases_Bool}
use Rattle.lf_core.specs.Choices.{option_cases}

-- the text stands in the table
abbrev pub Has : List (List ℕ) → List ℕ → Type 0
Has table text = (j : ℕ) × (index_of table text ≡ Some j)

abbrev next_index : Bool → Option ℕ → Option ℕ
next_index b o = cond b (Some 0) (elim o [ None ↦ None | Some i ↦ Some (suc i) ])

index-cases : (b : Bool) (o : Option ℕ) (j : ℕ) → next_index b o ≡ Some j → ((b ≡ true) × (j ≡ 0)) ⊎ ((i : ℕ) × (o ≡ Some i) × (j ≡ suc i))
index-cases true o j h = inl (refl, cc)
index-cases false None j h = cc
index-cases false (Some i) j h = inr (i, refl, cc)

pub index-there : (table : List (List ℕ)) (text : List ℕ) (j : ℕ) → index_of table text ≡ Some j → (j < length table) × (get_or table j [] ≡ text)
index-there [] text j h = cc
index-there (t ∷ table) text j h =
    elim (index-cases (same_list t text) (index_of table text) j h) [
      | inl a ↦ subst (λ (i : ℕ). (i < length (t ∷ table)) × (get_or (t ∷ table) i [] ≡ text)) (sym a.1) (omega arith, same_list-true t text a.0)
      | inr a ↦
          let r = index-there table text a.0 a.1 in
          subst (λ (i : ℕ). (i < length (t ∷ table)) × (get_or (t ∷ table) i [] ≡ text)) (sym a.2) (omega (arith, r.0), r.1)
    ]

pub index-keeps : (table more : List (List ℕ)) (text : List ℕ) (j : ℕ) → index_of table text ≡ Some j → index_of (table ++ more) text ≡ Some j
index-keeps [] more text j h = cc
index-keeps (t ∷ table) more text j h =
    elim (index-cases (same_list t text) (index_of table text) j h) [
      | inl a ↦ ap (λ (b : Bool). next_index b (index_of (table ++ more) text)) a.0 ∙ ap (λ (i : ℕ). Some i) (sym a.1)
      | inr a ↦
          let r = index-keeps table more text a.0 a.1 in
          ap (λ (o : Option ℕ). next_index (same_list t text) o) (r ∙ sym a.1) ∙ h
    ]

index-new : (table : List (List ℕ)) (text : List ℕ) → Has (table ++ text ∷ []) text
index-new [] text = (0, ap (λ (b : Bool). next_index b None) (true-same_list text))
index-new (t ∷ table) text =
    elim (cases_Bool (same_list t text)) [
      | inl e ↦ (0, ap (λ (b : Bool). next_index b (index_of (table ++ text ∷ []) text)) e)
      | inr e ↦
          let r = index-new table text in
          (suc r.0, ap (λ (b : Bool). next_index b (index_of (table ++ text ∷ []) text)) e ∙ ap (λ (o : Option ℕ). next_index false o) r.1)
    ]

index-either : (table : List (List ℕ)) (x text : List ℕ) (j : ℕ) → index_of (table ++ x ∷ []) text ≡ Some j → Has table text ⊎ (text ≡ x)
index-either [] x text j h =
    elim (index-cases (same_list x text) None j h) [
      | inl a ↦ inr (sym (same_list-true x text a.0))
      | inr a ↦ let f : None ≡ Some a.0 = a.1 in cc
    ]
index-either (t ∷ table) x text j h =
    elim (index-cases (same_list t text) (index_of (table ++ x ∷ []) text) j h) [
      | inl a ↦ inl (0, ap (λ (b : Bool). next_index b (index_of table text)) a.0)
      | inr a ↦
          elim (index-either table x text a.0 a.1) [
            | inl r ↦
                elim (cases_Bool (same_list t text)) [
                  | inl e ↦ inl (0, ap (λ (b : Bool). next_index b (index_of table text)) e)
                  | inr e ↦ inl (suc r.0, ap (λ (b : Bool). next_index b (index_of table text)) e ∙ ap (λ (o : Option ℕ). next_index false o) r.1)
                ]
            | inr r ↦ inr r
          ]
    ]

abbrev add_at : Option ℕ → List (List ℕ) → List ℕ → List (List ℕ)
add_at o table text = elim o [ None ↦ table ++ text ∷ [] | Some i ↦ table ]

added-keeps : (table : List (List ℕ)) (x text : List ℕ) (j : ℕ) → index_of table text ≡ Some j → index_of (added table x) text ≡ Some j
added-keeps table x text j h =
    elim (option_cases (index_of table x)) [
      | inl e ↦ ap (λ (o : Option ℕ). index_of (add_at o table x) text) e ∙ index-keeps table (x ∷ []) text j h
      | inr e ↦ ap (λ (o : Option ℕ). index_of (add_at o table x) text) e.1 ∙ h
    ]

added-itself : (table : List (List ℕ)) (x : List ℕ) → Has (added table x) x
added-itself table x =
    elim (option_cases (index_of table x)) [
      | inl e ↦ let r = index-new table x in (r.0, ap (λ (o : Option ℕ). index_of (add_at o table x) x) e ∙ r.1)
      | inr e ↦ (e.0, ap (λ (o : Option ℕ). index_of (add_at o table x) x) e.1 ∙ e.1)
    ]

added-either : (table : List (List ℕ)) (x text : List ℕ) → Has (added table x) text → Has table text ⊎ (text ≡ x)
added-either table x text h =
    elim (option_cases (index_of table x)) [
      | inl e ↦ index-either table x text h.0 (ap (λ (o : Option ℕ). index_of (add_at o table x) text) (sym e) ∙ h.1)
      | inr e ↦ inl (h.0, ap (λ (o : Option ℕ). index_of (add_at o table x) text) (sym e.1) ∙ h.1)
    ]

prefixes-keep : (rest read : List ℕ) (table : List (List ℕ)) (text : List ℕ) (j : ℕ) → index_of table text ≡ Some j → index_of (with_prefixes table read rest) text ≡ Some j
prefixes-keep [] read table text j h = h
prefixes-keep (b ∷ rest) read table text j h = prefixes-keep rest (read ++ b ∷ []) (added table read) text j (added-keeps table read text j h)

prefixes-there : (rest read : List ℕ) (table : List (List ℕ)) (front post : List ℕ) (x : ℕ) → rest ≡ front ++ x ∷ post → Has (with_prefixes table read rest) (read ++ front)
prefixes-there [] read table [] post x e = cc
prefixes-there [] read table (y ∷ front) post x e = cc
prefixes-there (b ∷ rest) read table [] post x e =
    let r = added-itself table read in
    (r.0, rw (append-nil read) (prefixes-keep rest (read ++ b ∷ []) (added table read) read r.0 r.1))
prefixes-there (b ∷ rest) read table (y ∷ front) post x e =
    let y_is : b ≡ y = cc in
    let t : rest ≡ front ++ x ∷ post = cc in
    let r = prefixes-there rest (read ++ b ∷ []) (added table read) front post x t in
    let q : (read ++ b ∷ []) ++ front ≡ read ++ y ∷ front = append_assoc read (b ∷ []) front ∙ ap (λ (z : ℕ). read ++ z ∷ front) y_is in
    (r.0, rw q at r.1)

-- the text is a proper prefix of what was read and the rest
abbrev Begins : List ℕ → List ℕ → List ℕ → Type 0
Begins read rest text = (front : List ℕ) × (x : ℕ) × (post : List ℕ) × (rest ≡ front ++ x ∷ post) × (text ≡ read ++ front)

prefixes-either : (rest read : List ℕ) (table : List (List ℕ)) (text : List ℕ) → Has (with_prefixes table read rest) text → Has table text ⊎ Begins read rest text
prefixes-either [] read table text h = inl h
prefixes-either (b ∷ rest) read table text h =
    elim (prefixes-either rest (read ++ b ∷ []) (added table read) text h) [
      | inl k ↦
          elim (added-either table read text k) [
            | inl r ↦ inl r
            | inr r ↦ inr ([], b, rest, refl, r ∙ sym (append-nil read))
          ]
      | inr k ↦ inr (b ∷ k.0, k.1, k.2, ap (λ (z : List ℕ). b ∷ z) k.3, k.4 ∙ append_assoc read (b ∷ []) k.0)
    ]

module _ (takes : ℕ → Bool) (word : ℕ → List ℕ) where
  pub table-root : (n : ℕ) → index_of (prefix_table takes word n) [] ≡ Some 0
  unfolding prefix_table
  table-root zero = refl
  table-root (suc n) =
      elim (cases_Bool (takes n)) [
        | inl t ↦ rw t (prefixes-keep (word n) [] (prefix_table takes word n) [] 0 (table-root n))
        | inr t ↦ rw t (table-root n)
      ]

  -- the text is a proper prefix of a letter's word
  abbrev pub IsPrefix : List ℕ → Type 0
  IsPrefix text = (c : ℕ) × (x : ℕ) × (post : List ℕ) × (takes c ≡ true) × (word c ≡ text ++ x ∷ post)

  prefix-of : (n : ℕ) (text : List ℕ) → takes n ≡ true → Begins [] (word n) text → IsPrefix text
  prefix-of n text t h = (n, h.1, h.2, t, h.3 ∙ ap (λ (z : List ℕ). z ++ h.1 ∷ h.2) (sym h.4))

  pub table-prefix : (n : ℕ) (text : List ℕ) → Has (prefix_table takes word n) text → (text ≡ []) ⊎ IsPrefix text
  unfolding prefix_table
  table-prefix zero text h =
      elim (index-cases (same_list [] text) None h.0 h.1) [
        | inl a ↦ inl (sym (same_list-true [] text a.0))
        | inr a ↦ let f : None ≡ Some a.0 = a.1 in cc
      ]
  table-prefix (suc n) text h =
      elim (cases_Bool (takes n)) [
        | inl t ↦
            let k : Has (with_prefixes (prefix_table takes word n) [] (word n)) text = rw t at h in
            elim (prefixes-either (word n) [] (prefix_table takes word n) text k) [
              | inl r ↦ table-prefix n text r
              | inr r ↦ inr (prefix-of n text t r)
            ]
        | inr t ↦ let k : Has (prefix_table takes word n) text = rw t at h in table-prefix n text k
      ]

  pub prefix-table : (n c x : ℕ) (text post : List ℕ) → c < n → takes c ≡ true → word c ≡ text ++ x ∷ post → Has (prefix_table takes word n) text
  unfolding prefix_table
  prefix-table zero c x text post l t e = absurd (omega arith)
  prefix-table (suc n) c x text post l t e =
      elim (leb_tells n c) [
        | inl k ↦
            let z : c ≡ n = omega (arith, k.1) in
            let t2 : takes n ≡ true = ap takes (sym z) ∙ t in
            let e2 : word n ≡ text ++ x ∷ post = ap word (sym z) ∙ e in
            rw t2 (prefixes-there (word n) [] (prefix_table takes word n) text post x e2)
        | inr k ↦
            let r = prefix-table n c x text post k.1 t e in
            elim (cases_Bool (takes n)) [
              | inl s ↦ (r.0, rw s (prefixes-keep (word n) [] (prefix_table takes word n) text r.0 r.1))
              | inr s ↦ (r.0, rw s r.1)
            ]
      ]
