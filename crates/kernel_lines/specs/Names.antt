-- The constants and the variables that lines name.
use Rattle.std.specs.Prelude.{codes}
use Rattle.hol_terms.specs.Name.{Name}
use Rattle.hol_terms.specs.Ty.{Ty}
use Rattle.hol_terms.specs.Tm.{Tm}
use Rattle.hol_terms.specs.Logic.{const_eq, const_T, const_F, const_not, const_conj, const_disj, const_imp, const_all, const_ex}
use Rattle.kernel_lines.specs.declared.line.Connective.{Connective}
use Rattle.kernel_lines.specs.declared.line.Connective.TheVariants.{Truth, Falsity, Not, Conj, Disj, Imp}
use Rattle.kernel_lines.specs.declared.line.Generic.{Generic}
use Rattle.kernel_lines.specs.declared.line.Generic.TheVariants.{Equality, All, Ex}
use Rattle.kernel_lines.specs.declared.line.Letter.{Letter}
use Rattle.kernel_lines.specs.declared.line.Letter.TheVariants.{F, H, P, Q, R, X, Y}

abbrev pub connective : Connective → Tm
connective Truth = const_T
connective Falsity = const_F
connective Not = const_not
connective Conj = const_conj
connective Disj = const_disj
connective Imp = const_imp

abbrev pub generic_at : Generic → Ty → Tm
generic_at Equality a = const_eq a
generic_at All a = const_all a
generic_at Ex a = const_ex a

abbrev pub letter_name : Letter → Name
letter_name F = codes "f"
letter_name H = codes "h"
letter_name P = codes "p"
letter_name Q = codes "q"
letter_name R = codes "r"
letter_name X = codes "x"
letter_name Y = codes "y"
