use Rattle.std.proofs.Common.{◌≡◌, ◌++◌, List, ℕ, sym, ap, subst, ◌∙◌, true}
use Rattle.std.specs.Prelude.{All}
use Rattle.lf_core.specs.Adds.{AddsFront}
use Rattle.lf_escape.specs.Codings.{coding_takes}
use Rattle.lf_format.specs.Kinds.{plain_text}
use Rattle.lf_format.proofs.Adding.{ok-as, err-as}
use Rattle.lf_format.proofs.Coded.{raw-coded}
use Rattle.lf_format.proofs.CodedValues.{text-letters, other-raw}
use Rattle.lf_format.proofs.writing.write_coded.Goals as goal

pub write_letters-requires : goal.write_letters-requires
write_letters-requires c =
    let slot = c.args.slot.now in
    let plain = text-letters slot.kind c.args.value.now c.in-Text.text c.in-Text.is c.requires.held in
    subst (λ (letters : List ℕ). All (λ letter. coding_takes slot.code letter ≡ true) letters) (plain ∙ sym c.as_slice.ensures) (c.requires.kept.takes c.args.value.now c.requires.held)

pub returns-in_default : goal.returns-in_default
returns-in_default c =
    let slot = c.args.slot.now in
    let v = c.args.value.now in
    let raw = other-raw slot.kind slot.code v c.in_default.not-Text c.requires.held c.requires.kept.fits in
    let same = sym (raw-coded slot.code (plain_text slot.kind v) raw) in
    record {
      ok = ok-as c.write_plain.result (λ e. e ∙ ap (λ (t : List ℕ). c.args.into.now ++ t) same) c.write_plain.ensures.ok;
      err = err-as c.write_plain.result (λ a. subst (λ (t : List ℕ). AddsFront c.args.into.now c.write_plain.new.into t) same a) c.write_plain.ensures.err;
    }
