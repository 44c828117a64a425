-- What a text narrows a format to keeps what a format keeps.
use Rattle.std.proofs.Common.{◌≡◌, ℕ, inl, inr, List, [], ◌∷◌, sym, subst}
use Rattle.std.specs.Prelude.{Ok}
use Rattle.lf_format.specs.declared.format.Piece.{Piece}
use Rattle.lf_format.specs.Keeps.{KeepsFormat}
use Rattle.lf_narrow.specs.Terms.{term_of}
use Rattle.lf_narrow.specs.Effects.{narrowed_slot}
use Rattle.lf_narrow.specs.Narrowed.{pieces_after, Narrows}
use Rattle.lf_narrow.proofs.Kept.{keeps_after, rule_follows}
use Rattle.lf_narrow.proofs.Only.{same_pieces, apart}
use Rattle.lf_narrow.specs.declared.fault.NarrowFault.TheVariants.{Syntax}

pub still_kept : (text : List ℕ) (parts : List (List ℕ)) (pieces after : List Piece) → KeepsFormat pieces → Narrows text parts pieces (Ok after) → KeepsFormat after
still_kept text [] pieces after kept h = subst KeepsFormat (sym (same_pieces after pieces h)) kept
still_kept text (part ∷ parts) pieces after kept (inl none) = absurd (apart after (Syntax none.place) none.is)
still_kept text (part ∷ parts) pieces after kept (inr (inl fails)) = absurd (apart after fails.fault fails.is)
still_kept text (part ∷ parts) pieces after kept (inr (inr goes)) =
    let rule = (term_of part).rule in
    let later = keeps_after (term_of part).slot (narrowed_slot rule) (rule_follows rule) pieces kept goes.1.1 in
    still_kept text parts (pieces_after (term_of part).slot (narrowed_slot rule) 1 pieces) after later goes.2
