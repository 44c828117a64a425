use Rattle.std.proofs.Common.{arith}
use Rattle.lf_product.proofs.Bits.{shared_bit, no_shared_bit, some_bit_from_test, test_from_some_bit}
use Rattle.lf_product.proofs.byte_set.share.Goals as goal

pub returns-clause-yes : goal.returns-clause-yes
returns-clause-yes c = λ t. shared_bit c.args.a c.args.b (omega arith) (some_bit_from_test _ t)

pub returns-clause-no : goal.returns-clause-no
returns-clause-no c = λ i ha hb. test_from_some_bit _ (λ e. no_shared_bit c.args.a c.args.b i e ha hb)
