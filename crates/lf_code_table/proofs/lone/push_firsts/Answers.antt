use Rattle.std.proofs.Common.{◌≡◌, ◌+◌, ◌++◌, ◌∷◌, [], arith, subst, sym, ℕ, List, Option}
use Rattle.lf_code_table.specs.Lone.{HasFirsts}
use Rattle.lf_code_table.proofs.LoneLaws.{firsts-more}
use Rattle.lf_code_table.proofs.lone.push_firsts.Goals as goal

pub loop-byte-init : goal.loop-byte-init
loop-byte-init c = c.requires.none

pub loop-byte-preserved : goal.loop-byte-preserved
loop-byte-preserved c =
    subst (λ (fs : List (Option ℕ)). HasFirsts c.args.texts.now fs (c.loop-byte.byte + 1)) (sym c.in_ok-push.ensures.items)
    (firsts-more c.args.texts.now c.loop-byte.firsts.items c.loop-byte.byte c.find.result c.loop-byte.invariant c.find.ensures.exact)

pub returns-in_ok-push : goal.returns-in_ok-push
returns-in_ok-push c =
    let e : c.loop-byte.byte + 1 ≡ 256 = omega arith in
    subst (λ (fs : List (Option ℕ)). HasFirsts c.args.texts.now fs 256) (sym c.in_ok-push.ensures.items)
    (subst (λ (n : ℕ). HasFirsts c.args.texts.now (c.loop-byte.firsts.items ++ c.find.result ∷ []) n) e
    (firsts-more c.args.texts.now c.loop-byte.firsts.items c.loop-byte.byte c.find.result c.loop-byte.invariant c.find.ensures.exact))
