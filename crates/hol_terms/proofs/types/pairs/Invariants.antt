use Rattle.std.proofs.Common.{◌≡◌, ◌++◌, drop}
use Rattle.hol_terms.specs.Subst.{ty_pairs}
use Rattle.hol_terms.specs.TyVars.{pairs_of}
use Rattle.hol_terms.proofs.types.pairs.Given as goal

-- the pairs so far and those of what is left are all of them
abbrev pub invariant-loop-i : goal.invariant-loop-i
invariant-loop-i l = ty_pairs l.pairs.items ++ pairs_of (drop l.i l.vars) (drop l.i l.args) ≡ pairs_of l.vars l.args
