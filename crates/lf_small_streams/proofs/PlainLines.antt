-- The lines of a text that is cut byte by byte.
use Rattle.std.proofs.Common.{◌≡◌, ◌≢◌, ℕ, Bool, List, [], ◌∷◌, ◌++◌, map, refl, sym, ap, ◌∙◌, subst, append_assoc}
use Rattle.std.proofs.lemmas.Bool.{ne_eqb}
use Rattle.lf_stream.specs.Cut.{HasNoFeed, line_of, lines_of}
use Rattle.lf_stream.proofs.CutLaws.{lines_ended, lines_open, no_feed_append}

pub last_cut : (notes : Bool) (line : List ℕ) (before after : List (List ℕ)) → HasNoFeed line → line ≢ [] → after ≡ before ++ line_of notes line ∷ [] → after ≡ before ++ lines_of notes line
last_cut notes [] before after none some made = absurd (some refl)
last_cut notes (b ∷ bs) before after none some made =
    made ∙ ap (λ (ls : List (List ℕ)). before ++ ls) (sym (ap (map (line_of notes)) (lines_open (b ∷ bs) none)))

pub feed_cut : (notes : Bool) (line empty text rest : List ℕ) (byte : ℕ) (before mid after : List (List ℕ)) → HasNoFeed line → text ≡ byte ∷ rest → byte ≡ 10 → empty ≡ []
    → mid ≡ before ++ line_of notes line ∷ [] → after ≡ mid ++ lines_of notes (empty ++ rest) → after ≡ before ++ lines_of notes (line ++ text)
feed_cut notes line empty text rest byte before mid after none e feed is one more =
    let ended : lines_of notes (line ++ 10 ∷ rest) ≡ line_of notes line ∷ lines_of notes rest = ap (map (line_of notes)) (lines_ended line rest none) in
    let whole : text ≡ 10 ∷ rest = e ∙ ap (λ (b : ℕ). b ∷ rest) feed in
    more ∙ ap (λ (zs : List ℕ). mid ++ lines_of notes (zs ++ rest)) is
    ∙ ap (λ (ls : List (List ℕ)). ls ++ lines_of notes rest) one
    ∙ append_assoc before (line_of notes line ∷ []) (lines_of notes rest)
    ∙ ap (λ (ls : List (List ℕ)). before ++ ls) (sym ended)
    ∙ ap (λ (zs : List ℕ). before ++ lines_of notes (line ++ zs)) (sym whole)

pub byte_unended : (line longer : List ℕ) (byte : ℕ) → HasNoFeed line → byte ≢ 10 → longer ≡ line ++ byte ∷ [] → HasNoFeed longer
byte_unended line longer byte none other is = subst HasNoFeed (sym is) (no_feed_append line (byte ∷ []) none (rw (ne_eqb byte 10 other) refl))
