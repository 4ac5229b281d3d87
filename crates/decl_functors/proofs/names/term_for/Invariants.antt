use Rattle.std.proofs.Common.{◌≡◌, drop}
use Rattle.decl_core.specs.Functors.{term_for}
use Rattle.decl_functors.proofs.names.term_for.Given as goal

abbrev pub invariant-loop-name : goal.invariant-loop-name
invariant-loop-name l = term_for l.names l.ty ≡ term_for (drop l.name-index l.names) l.ty
