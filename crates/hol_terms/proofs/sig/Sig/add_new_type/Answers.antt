use Rattle.hol_terms.proofs.Tables.{abs_is_not_rep}
use Rattle.hol_terms.proofs.sig.Sig.add_new_type.Goals as goal

pub add_names-requires-clause-apart : goal.add_names-requires-clause-apart
add_names-requires-clause-apart c = rw (c.in_ok-name_of_abs.ensures, c.in_ok-name_of_rep.ensures) (abs_is_not_rep c.args.name.now)
