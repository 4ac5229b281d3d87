use Rattle.std.proofs.Common.{◌≡◌, ◌++◌, take, drop}
use Rattle.hol_terms.specs.Sequent.{insert_hyp}
use Rattle.hol_kernel.proofs.hypotheses.place.Given as goal

abbrev pub invariant-loop-i : goal.invariant-loop-i
invariant-loop-i l = insert_hyp l.t l.hyps ≡ take l.i l.hyps ++ insert_hyp l.t (drop l.i l.hyps)
