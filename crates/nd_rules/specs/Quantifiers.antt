-- What quantified formulas are made of.
use Rattle.hol_terms.specs.Ty.{Ty}
use Rattle.hol_terms.specs.Tm.{Tm}
use Rattle.hol_terms.specs.Notation.{◌·◌, ix, lam}
use Rattle.hol_terms.specs.Logic.{const_imp, const_all}

-- `!x. P x ==> q`
abbrev pub each_case : Ty → Tm → Tm → Tm
each_case a p q = (const_all a) · (lam a (const_imp · (p · ix 0 a) · q))
