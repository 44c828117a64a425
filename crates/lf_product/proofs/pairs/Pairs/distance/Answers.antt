use Rattle.std.proofs.Common.{◌≡◌, ℕ, arith, ◌≤◌, ap, sym, subst}
use Rattle.lf_core.specs.Marked.{Machine}
use Rattle.lf_core.specs.Written.{WrittenMachine, machine_of, points_of}
use Rattle.lf_product.specs.declared.pages.TheConstants.{NONE}
use Rattle.lf_product.specs.Distance.{Suffices}
use Rattle.lf_product.proofs.Levels.{inside, none_from_answer, some_from_answer}
use Rattle.lf_product.proofs.pairs.Pairs.distance.Goals as goal

pub get-steps-requires : goal.get-steps-requires
get-steps-requires c =
    let p = c.self.inside in
    let m : Machine = machine_of p.table in
    let n : m.count ≡ points_of c.args.self.now = ap (λ (k : WrittenMachine). points_of k) c.self.view_is in
    inside m p.distances c.args.a c.args.b c.args.differed c.self.invariant.whole (omega (arith, n, c.requires.left)) (omega (arith, n, c.requires.right))

pub returns-then-steps : goal.returns-then-steps
returns-then-steps c =
    let p = c.self.inside in
    let m : Machine = machine_of p.table in
    let n : m.count ≡ points_of c.args.self.now = ap (λ (k : WrittenMachine). points_of k) c.self.view_is in
    subst (λ (k : WrittenMachine). (n : ℕ) → Suffices (machine_of k) n c.args.a c.args.b c.args.differed → ⊥) c.self.view_is
    (none_from_answer m m.count NONE p.distances c.args.a c.args.b c.args.differed c.get-steps.result c.self.invariant.exact (omega (arith, n, c.requires.left)) (omega (arith, n, c.requires.right)) (sym c.get-steps.ensures) c.if-steps.true)

pub returns-else-steps : goal.returns-else-steps
returns-else-steps c =
    let p = c.self.inside in
    let m : Machine = machine_of p.table in
    let n : m.count ≡ points_of c.args.self.now = ap (λ (k : WrittenMachine). points_of k) c.self.view_is in
    subst (λ (k : WrittenMachine). Suffices (machine_of k) c.get-steps.result c.args.a c.args.b c.args.differed × ((n : ℕ) → Suffices (machine_of k) n c.args.a c.args.b c.args.differed → c.get-steps.result ≤ n)) c.self.view_is
    (some_from_answer m m.count NONE p.distances c.args.a c.args.b c.args.differed c.get-steps.result c.self.invariant.exact (omega (arith, n, c.requires.left)) (omega (arith, n, c.requires.right)) (sym c.get-steps.ensures) c.if-steps.false)
