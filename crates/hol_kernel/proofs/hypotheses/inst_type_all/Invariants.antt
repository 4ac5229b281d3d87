use Rattle.std.proofs.Common.{◌≡◌, take, map}
use Rattle.hol_terms.specs.Subst.{ty_pairs}
use Rattle.hol_terms.specs.Binding.{tm_ty_subst}
use Rattle.hol_kernel.proofs.hypotheses.inst_type_all.Given as goal

abbrev pub invariant-loop-hyp : goal.invariant-loop-hyp
invariant-loop-hyp l = l.all.items ≡ map (tm_ty_subst (ty_pairs l.s)) (take l.hyp-index l.hyps)
