use Rattle.hol_terms.proofs.TotalOrder.{tm_cmp-same}
use Rattle.hol_terms.proofs.laws.term_order_decides.Goals as goal

pub returns : goal.returns
returns c = λ t u e. tm_cmp-same t u e
