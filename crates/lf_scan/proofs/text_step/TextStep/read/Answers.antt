use Rattle.lf_scan.specs.Texts.{set_of}
use Rattle.lf_scan.proofs.LetterTexts.{reads-text}
use Rattle.lf_scan.proofs.text_step.TextStep.read.Goals as goal

pub returns-clause-read : goal.returns-clause-read
returns-clause-read c =
    let fits = c.fits.ensures.0 c.if-not-fits.false in
    reads-text (set_of c.args.self.now) c.args.self.now.letters.code c.in_ok-left.len c.args.text.now c.in_ok-left.left.now c.args.into.now c.read.new.into c.in_ok-left.ensures.read fits.0 fits.1
