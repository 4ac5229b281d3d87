use Rattle.std.proofs.Common.{◌≡◌, drop}
use Rattle.hol_terms.specs.Rules.{free_in_none}
use Rattle.flat_terms.specs.Plain.{term_of}
use Rattle.flat_walks.specs.Walk.{var_of}
use Rattle.flat_rules.specs.Sequents.{terms_of}
use Rattle.flat_rules.proofs.hypotheses.is_free_in_none.Given as goal

abbrev pub invariant-loop-hyp : goal.invariant-loop-hyp
invariant-loop-hyp l = free_in_none (var_of (term_of l.tables l.variable)) (terms_of l.tables l.hyps) ≡ free_in_none (var_of (term_of l.tables l.variable)) (terms_of l.tables (drop l.hyp-index l.hyps))
