use Rattle.std.proofs.Common.{refl, codes}
use Rattle.hol_terms.specs.Tm.{tm_free}
use Rattle.hol_terms.specs.Definition.{bool_ty}
use Rattle.kernel_tests.proofs.terms.replaced_on_the_right.Goals as goal

pub replace_at-requires-clause-fits : goal.replace_at-requires-clause-fits
replace_at-requires-clause-fits c =
    rw (c.in_ok-t.ensures, c.in_ok-b.ensures) (record { there = tm_free (record { name = codes "a"; ty = bool_ty }); is = refl; typed = refl })
