use Rattle.std.proofs.Common.{ap, rules}
use Rattle.hol_terms.specs.Typing.{tm_type}
use Rattle.hol_terms.proofs.Replacements.{Takes-as}
use Rattle.hol_terms.proofs.terms.Term.+replace_at.Goals as goal

pub apply-requires : goal.apply-requires
apply-requires t c =
    Takes-as c.in-0-Comb.f.now c.in-0-Comb.x.now c.in_ok-f-in-0-Comb.f c.in_ok-copy-in-0-Comb.field-0 (search rules) c.in_ok-f-in-0-Comb.ensures.ty (ap tm_type c.in_ok-copy-in-0-Comb.ensures)

pub apply-requires-in-1-Comb : goal.apply-requires-in-1-Comb
apply-requires-in-1-Comb t c =
    Takes-as c.in-1-Comb.f.now c.in-1-Comb.x.now c.in_ok-copy-in-1-Comb.field-0 c.in_ok-x-in-1-Comb.x (search rules) (ap tm_type c.in_ok-copy-in-1-Comb.ensures) c.in_ok-x-in-1-Comb.ensures.ty
