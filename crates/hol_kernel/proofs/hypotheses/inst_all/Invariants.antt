use Rattle.std.proofs.Common.{◌≡◌, take, map}
use Rattle.hol_terms.specs.Binding.{tm_inst}
use Rattle.hol_kernel.proofs.hypotheses.inst_all.Given as goal

abbrev pub invariant-loop-hyp : goal.invariant-loop-hyp
invariant-loop-hyp l = l.all.items ≡ map (tm_inst l.s) (take l.hyp-index l.hyps)
