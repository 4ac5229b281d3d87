use Rattle.std.proofs.Common.{[], ◌∙◌, sym, subst}
use Rattle.hol_terms.specs.Tm.{Tm}
use Rattle.hol_terms.specs.Signature.{IsOver}
use Rattle.hol_terms.specs.Definition.{signature_of}
use Rattle.nd_rules.specs.Connectives.{conj_tm}
use Rattle.nd_rules.proofs.Keeping.{rules_grow}
use Rattle.script_core.proofs.Closed.{base_is}
use Rattle.script_tests.proofs.Conjunctions.{p_over, q_over}
use Rattle.script_tests.proofs.exchange.is_exchanged.Goals as goal

pub new-requires : goal.new-requires
new-requires c = base_is _ c.in_ok-k.ensures

pub conjunction-requires : goal.conjunction-requires
conjunction-requires c = c.new.ensures.grows.defs ∙ c.in_ok-k.ensures

pub exchanged-requires-clause-rules : goal.exchanged-requires-clause-rules
exchanged-requires-clause-rules c = rules_grow _ _ _ c.in_ok-rules.ensures.rules c.conjunction.ensures.grows

pub exchanged-requires-clause-over_p : goal.exchanged-requires-clause-over_p
exchanged-requires-clause-over_p c = subst (λ (t : Tm). IsOver (signature_of c.conjunction.new.k.defs) [] t) (sym c.in_ok-p.ensures) (p_over c.conjunction.new.k.defs)

pub exchanged-requires-clause-over_q : goal.exchanged-requires-clause-over_q
exchanged-requires-clause-over_q c = subst (λ (t : Tm). IsOver (signature_of c.conjunction.new.k.defs) [] t) (sym c.in_ok-q.ensures) (q_over c.conjunction.new.k.defs)

pub exchanged-requires-clause-has : goal.exchanged-requires-clause-has
exchanged-requires-clause-has c = c.in_ok-a.ensures.has

pub exchanged-requires-clause-conjunction : goal.exchanged-requires-clause-conjunction
exchanged-requires-clause-conjunction c = c.in_ok-a.ensures.exact ∙ (λ i. conj_tm (sym c.in_ok-p.ensures i) (sym c.in_ok-q.ensures i))
