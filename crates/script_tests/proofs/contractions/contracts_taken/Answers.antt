use Rattle.std.proofs.Common.{refl, codes}
use Rattle.hol_terms.specs.Definition.{bool_ty}
use Rattle.hol_terms.specs.Notation.{◌·◌, ix, lam}
use Rattle.hol_terms.specs.Logic.{const_T}
use Rattle.hol_terms.specs.Base.{base}
use Rattle.script_core.proofs.Closed.{closed_table}
use Rattle.script_tests.proofs.ListKernel.{Says, side_at}
use Rattle.script_tests.proofs.contractions.contracts_taken.Goals as goal

said : Says (base 10) (codes "term (\\x0:bool. x0) ((\\x0:bool. x0) T)\nrefl 0\n") (lam bool_ty (ix 0 bool_ty) · (lam bool_ty (ix 0 bool_ty) · const_T))
unfolding closed_table
said = record { is = refl }

pub side-requires-clause-side : goal.side-requires-clause-side
side-requires-clause-side c = side_at c.in_ok-k.ensures said
