use Rattle.std.proofs.Common.{◌≡◌, ◌++◌, drop}
use Rattle.hol_terms.specs.Rules.{without}
use Rattle.hol_kernel.proofs.hypotheses.hyps_without.Given as goal

abbrev pub invariant-loop-hyp : goal.invariant-loop-hyp
invariant-loop-hyp l = without l.t l.hyps ≡ l.left.items ++ without l.t (drop l.hyp-index l.hyps)
