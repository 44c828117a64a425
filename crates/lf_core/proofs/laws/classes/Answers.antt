use Rattle.std.proofs.Common.{true, refl}
use Rattle.lf_core.specs.declared.class.TheConstants.Class as classes
use Rattle.lf_core.specs.Class.{is_member}
use Rattle.lf_core.specs.Classes.{is_visible, is_word, is_spaced, is_header, is_no_space, is_iis_word, is_proxy, is_counts, is_decimal}
use Rattle.lf_core.proofs.Agree.{agree, agree_at}
use Rattle.lf_core.proofs.laws.classes.Goals as goal

pub returns-clause-any : goal.returns-clause-any
unfolding agree
returns-clause-any c = λ b low. agree_at (is_member classes.ANY) (λ b. true) 256 b refl low

pub returns-clause-header : goal.returns-clause-header
unfolding agree
returns-clause-header c = λ b low. agree_at (is_member classes.HEADER) is_header 256 b refl low

pub returns-clause-visible : goal.returns-clause-visible
unfolding agree
returns-clause-visible c = λ b low. agree_at (is_member classes.VISIBLE) is_visible 256 b refl low

pub returns-clause-word : goal.returns-clause-word
unfolding agree
returns-clause-word c = λ b low. agree_at (is_member classes.WORD) is_word 256 b refl low

pub returns-clause-spaced : goal.returns-clause-spaced
unfolding agree
returns-clause-spaced c = λ b low. agree_at (is_member classes.SPACED) is_spaced 256 b refl low

pub returns-clause-no_space : goal.returns-clause-no_space
unfolding agree
returns-clause-no_space c = λ b low. agree_at (is_member classes.NO_SPACE) is_no_space 256 b refl low

pub returns-clause-iis_word : goal.returns-clause-iis_word
unfolding agree
returns-clause-iis_word c = λ b low. agree_at (is_member classes.IIS_WORD) is_iis_word 256 b refl low

pub returns-clause-proxy : goal.returns-clause-proxy
unfolding agree
returns-clause-proxy c = λ b low. agree_at (is_member classes.PROXY) is_proxy 256 b refl low

pub returns-clause-counts : goal.returns-clause-counts
unfolding agree
returns-clause-counts c = λ b low. agree_at (is_member classes.COUNTS) is_counts 256 b refl low

pub returns-clause-decimal : goal.returns-clause-decimal
unfolding agree
returns-clause-decimal c = λ b low. agree_at (is_member classes.DECIMAL) is_decimal 256 b refl low
