use Rattle.std.proofs.Common.{◌≡◌, map, take}
use Rattle.hol_terms.specs.Tm.{tm_free}
use Rattle.decl_facts.proofs.terms.frees.Given as goal

abbrev pub invariant-loop-var : goal.invariant-loop-var
invariant-loop-var l = l.terms.items ≡ map tm_free (take l.var-index l.vars)
