-- What was added is a prefix of what was to be added.
use Rattle.std.proofs.Common.{◌≡◌, ℕ, List, [], ◌++◌, sym, ap, ◌∙◌, append-nil, append_assoc}
use Rattle.std.specs.Prelude.{Result, Ok, Err, OnErr}
use Rattle.lf_core.specs.Adds.{AddsFront}

-- more was to be added
pub front_before : (old new a b : List ℕ) → AddsFront old new a → AddsFront old new (a ++ b)
front_before old new a b h = (h.0, h.1 ++ b, ap (λ x. x ++ b) h.2 ∙ append_assoc h.0 h.1 b, h.3)

-- all of the first part was added
pub front_after : (old mid new a b : List ℕ) → mid ≡ old ++ a → AddsFront mid new b → AddsFront old new (a ++ b)
front_after old mid new a b e h =
    (a ++ h.0, h.1, ap (λ x. a ++ x) h.2 ∙ sym (append_assoc a h.0 h.1), h.3 ∙ ap (λ x. x ++ h.0) e ∙ append_assoc old a h.0)

-- A prefix of the whole was added, and the rest is still to be.
pub record Leaves (old new whole rest : List ℕ) : Type 0 where
  pub done : List ℕ
  pub split : whole ≡ done ++ rest
  pub added : new ≡ old ++ done

-- the first part of the rest was added
pub leaves_less : (old mid new whole a b rest : List ℕ) → Leaves old mid whole rest → rest ≡ a ++ b → new ≡ mid ++ a → Leaves old new whole b
leaves_less old mid new whole a b rest l r e = record {
  done = l.done ++ a;
  split = l.split ∙ ap (λ x. l.done ++ x) r ∙ sym (append_assoc l.done a b);
  added = e ∙ ap (λ x. x ++ a) l.added ∙ append_assoc old l.done a;
}

-- nothing is left
pub leaves_none : (old new whole rest : List ℕ) → Leaves old new whole rest → rest ≡ [] → new ≡ old ++ whole
leaves_none old new whole rest l e =
    l.added ∙ ap (λ x. old ++ x) (sym (append-nil l.done) ∙ ap (λ x. l.done ++ x) (sym e) ∙ sym l.split)

-- a prefix of the rest was added
pub leaves_front : (old mid new whole rest : List ℕ) → Leaves old mid whole rest → AddsFront mid new rest → AddsFront old new whole
leaves_front old mid new whole rest l f =
    let h = front_after old mid new l.done rest l.added f in
    (h.0, h.1, l.split ∙ h.2, h.3)

-- no more was added
pub leaves_stop : (old mid new whole rest : List ℕ) → Leaves old mid whole rest → new ≡ mid → AddsFront old new whole
leaves_stop old mid new whole rest l e = (l.done, rest, l.split, e ∙ l.added)

pub on_err : {T E P : Type 0} (r : Result T E) → P → OnErr r P
on_err (Ok x) p = tt
on_err (Err e) p = p
