use Rattle.hol_terms.proofs.TotalOrder.{tm_cmp_total}
use Rattle.hol_terms.proofs.laws.term_order_is_total.Goals as goal

pub returns : goal.returns
returns c = tm_cmp_total
