use Rattle.std.proofs.Common.{[], ◌∷◌, refl}
use Rattle.hol_terms.proofs.AsciiNames.{is_name_from_ascii}
use Rattle.kernel_tests.proofs.definitions.statement.Goals as goal

pub returns-clause-over : goal.returns-clause-over
returns-clause-over c = λ ds. rw c.in_ok-p.ensures (is_name_from_ascii (112 ∷ []) refl, (refl, tt))

pub returns-clause-boolean : goal.returns-clause-boolean
returns-clause-boolean c = rw c.in_ok-p.ensures refl
