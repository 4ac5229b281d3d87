use Rattle.std.proofs.Common.{take, map}
use Rattle.hol_terms.specs.Binding.{tm_inst}
use Rattle.flat_instances.specs.Terms.{term_pairs}
use Rattle.flat_instances.specs.TablesGrow.{TablesGrow}
use Rattle.flat_rules.specs.Sequents.{terms_of, AreNumbers}
use Rattle.flat_rules.proofs.hypotheses.instances.Given as goal

abbrev pub invariant-loop-hyp : goal.invariant-loop-hyp
invariant-loop-hyp l = record { grows : TablesGrow l.fn.tables l.tables; done : AreNumbers l.tables l.all.items (map (tm_inst (term_pairs l.fn.tables l.pairs)) (terms_of l.fn.tables (take l.hyp-index l.hyps))) }
