-- The whole runs of the states of a line are those of its records.
use Rattle.std.proofs.Common.{◌≡◌, ℕ, List, [], ◌∷◌, ◌++◌, refl, ap, subst, ◌∙◌}
use Rattle.lf_core.specs.declared.values.Value.{Value}
use Rattle.lf_core.specs.declared.values.Value.TheVariants.{Missing}
use Rattle.lf_format.specs.Lines.{IsRecordOf, line_text}
use Rattle.lf_format.specs.Keeps.{EachKept}
use Rattle.lf_format.specs.declared.format.Piece.{Piece}
use Rattle.lf_format.specs.declared.format.Piece.TheVariants.{Literal, Slot}
use Rattle.lf_machine.specs.Paths.{Step}
use Rattle.lf_machine.proofs.RowRuns.{row-sound, row-complete, row-apart}
use Rattle.lf_machine.specs.Pieces.{piece_text, piece_row}
use Rattle.lf_machine.proofs.PieceRuns.{all-exact}
use Rattle.lf_machine.specs.Records.{LineState, LineFilled, pieces_text, pieces_run, spread, record_steps, IsWholeLine}

pub spread-filled : (ps : List Piece) (rec : List Value) → IsRecordOf ps rec → LineFilled ps (spread ps rec)
spread-filled [] [] h = tt
spread-filled [] (v ∷ rec) h = absurd h
spread-filled (Literal bytes ∷ ps) rec h = (refl, spread-filled ps rec h)
spread-filled (Slot s ∷ ps) [] h = absurd h
spread-filled (Slot s ∷ ps) (v ∷ rec) h = (h.0, spread-filled ps rec h.1)

pub spread-text : (ps : List Piece) (rec : List Value) → IsRecordOf ps rec → pieces_text ps (spread ps rec) ≡ line_text ps rec
spread-text [] [] h = refl
spread-text [] (v ∷ rec) h = absurd h
spread-text (Literal bytes ∷ ps) rec h = ap (λ (x : List ℕ). bytes ++ x) (spread-text ps rec h)
spread-text (Slot s ∷ ps) [] h = absurd h
spread-text (Slot s ∷ ps) (v ∷ rec) h = ap (λ (x : List ℕ). piece_text (Slot s) v ++ x) (spread-text ps rec h.1)

pub gather : (ps : List Piece) (vs : List Value) → LineFilled ps vs → (rec : List Value) × IsRecordOf ps rec × (vs ≡ spread ps rec)
gather [] [] h = ([], tt, refl)
gather [] (v ∷ vs) h = absurd h
gather (p ∷ ps) [] h = absurd h
gather (Literal bytes ∷ ps) (v ∷ vs) h = let r = gather ps vs h.1 in (r.0, r.1, ap (λ (x : Value). x ∷ vs) h.0 ∙ ap (λ (x : List Value). Missing ∷ x) r.2)
gather (Slot s ∷ ps) (v ∷ vs) h = let r = gather ps vs h.1 in (v ∷ r.0, (h.0, r.1), ap (λ (x : List Value). v ∷ x) r.2)

pub spread-apart : (ps : List Piece) (rec other : List Value) → IsRecordOf ps rec → IsRecordOf ps other → spread ps rec ≡ spread ps other → rec ≡ other
spread-apart [] [] [] h g e = refl
spread-apart [] [] (u ∷ other) h g e = absurd g
spread-apart [] (v ∷ rec) other h g e = absurd h
spread-apart (Literal bytes ∷ ps) rec other h g e = let t : spread ps rec ≡ spread ps other = cc in spread-apart ps rec other h g t
spread-apart (Slot s ∷ ps) [] other h g e = absurd h
spread-apart (Slot s ∷ ps) (v ∷ rec) [] h g e = absurd g
spread-apart (Slot s ∷ ps) (v ∷ rec) (u ∷ other) h g e =
    let t : spread ps rec ≡ spread ps other = cc in
    let x : v ≡ u = cc in
    let y : rec ≡ other = spread-apart ps rec other h.1 g.1 t in
    cc

pub steps-sound : (ps : List Piece) → EachKept ps → (w : List ℕ) (r : List (Step (LineState ps))) → IsWholeLine ps w r → (rec : List Value) × IsRecordOf ps rec × (w ≡ line_text ps rec) × (r ≡ record_steps ps rec)
steps-sound ps t w r h =
    let f = row-sound piece_row ps (all-exact ps t) w r h in
    let g = gather ps f.0 f.1 in
    (g.0, g.1, f.2 ∙ ap (pieces_text ps) g.2 ∙ spread-text ps g.0 g.1, f.3 ∙ ap (pieces_run ps) g.2)

pub steps-complete : (ps : List Piece) → EachKept ps → (rec : List Value) → IsRecordOf ps rec → IsWholeLine ps (line_text ps rec) (record_steps ps rec)
steps-complete ps t rec h =
    subst (λ (x : List ℕ). IsWholeLine ps x (record_steps ps rec)) (spread-text ps rec h)
    (row-complete piece_row ps (all-exact ps t) (spread ps rec) (spread-filled ps rec h))

pub steps-apart : (ps : List Piece) → EachKept ps → (rec other : List Value) → IsRecordOf ps rec → IsRecordOf ps other → record_steps ps rec ≡ record_steps ps other → rec ≡ other
steps-apart ps t rec other h g e =
    spread-apart ps rec other h g
    (row-apart piece_row ps (all-exact ps t) (spread ps rec) (spread ps other) (spread-filled ps rec h) (spread-filled ps other g) e)
