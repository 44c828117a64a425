use Rattle.std.proofs.Common.{◌≡◌, List, ℕ, ◌∙◌, ◌++◌, ap}
use Rattle.lf_domain.proofs.Prefixes.{word_list-push}
use Rattle.lf_domain.proofs.word_list.WordList.push.Goals as goal

pub invariant_of-self-2 : goal.invariant_of-self-2
invariant_of-self-2 c =
    let e : c.extend.new.self ≡ c.args.word.now = c.in_ok-extend.ensures.ok ∙ ap (λ (xs : List ℕ). xs ++ c.args.word.now) c.new-letters.ensures in
    let v : c.self.inside.words.items ≡ c.args.self.now = c.self.view_is in
    rw c.in_ok-push.ensures.items (word_list-push c.self.inside.words.items _ c.self.invariant (rw (e, v) c.requires.new) (rw (e, v) c.requires.room))
