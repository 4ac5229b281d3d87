use Rattle.std.proofs.Common.{refl}
use Rattle.hol_terms.specs.Rules.{same, same_ty}
use Rattle.hol_terms.specs.Logic.{base_1}
use Rattle.kernel_tests.proofs.rules.theorem.Goals as goal

pub derived-requires-in-Trans-clause-fits : goal.derived-requires-in-Trans-clause-fits
unfolding same same_ty
derived-requires-in-Trans-clause-fits c = record { is = refl }

pub derived-requires-in-Comb-clause-fits : goal.derived-requires-in-Comb-clause-fits
unfolding same same_ty
derived-requires-in-Comb-clause-fits c = record { is = refl }

pub derived-requires-in-AbsKeeps-clause-fits : goal.derived-requires-in-AbsKeeps-clause-fits
unfolding same same_ty
derived-requires-in-AbsKeeps-clause-fits c = record { is = refl }

pub derived-requires-in-AbsBinds-clause-fits : goal.derived-requires-in-AbsBinds-clause-fits
unfolding same same_ty
derived-requires-in-AbsBinds-clause-fits c = record { is = refl }

pub derived-requires-in-Beta-clause-fits : goal.derived-requires-in-Beta-clause-fits
unfolding same same_ty
derived-requires-in-Beta-clause-fits c = record { is = refl }

pub derived-requires-in-Assume-clause-fits : goal.derived-requires-in-Assume-clause-fits
unfolding same same_ty
derived-requires-in-Assume-clause-fits c = record { is = refl }

pub derived-requires-in-EqMp-clause-fits : goal.derived-requires-in-EqMp-clause-fits
unfolding same same_ty
derived-requires-in-EqMp-clause-fits c = record { is = refl }

pub derived-requires-in-DeductJoins-clause-fits : goal.derived-requires-in-DeductJoins-clause-fits
unfolding same same_ty
derived-requires-in-DeductJoins-clause-fits c = record { is = refl }

pub derived-requires-in-DeductDrops-clause-fits : goal.derived-requires-in-DeductDrops-clause-fits
unfolding same same_ty
derived-requires-in-DeductDrops-clause-fits c = record { is = refl }

pub derived-requires-in-InstType-clause-fits : goal.derived-requires-in-InstType-clause-fits
unfolding same same_ty
derived-requires-in-InstType-clause-fits c = record { is = refl }

pub derived-requires-in-Inst-clause-fits : goal.derived-requires-in-Inst-clause-fits
unfolding same same_ty
derived-requires-in-Inst-clause-fits c = record { is = refl }

pub derived-requires-in-Definition-clause-fits : goal.derived-requires-in-Definition-clause-fits
unfolding base_1
derived-requires-in-Definition-clause-fits c = record { is = refl }
