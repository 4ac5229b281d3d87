use Rattle.kernel_tests.proofs.rules.first_wrong_of_all.Goals as goal
use Rattle.std.proofs.Common.{[], ◌∙◌, sym, append-nil}
use Rattle.hol_terms.specs.Base.{base}

pub first_wrong-requires : goal.first_wrong-requires
first_wrong-requires c = record { is = ([], c.in_ok-k.ensures ∙ sym (append-nil (base 10))) }
