use Rattle.std.proofs.Common.{◌≡◌, drop}
use Rattle.hol_terms.specs.Sequent.{union}
use Rattle.hol_kernel.proofs.hypotheses.union_of.Given as goal

abbrev pub invariant-loop-t : goal.invariant-loop-t
invariant-loop-t l = union l.a l.b ≡ union (drop l.t-index l.a) l.hyps.items
