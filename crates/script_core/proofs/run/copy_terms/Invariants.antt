use Rattle.std.proofs.Common.{◌≡◌, take}
use Rattle.script_core.proofs.run.copy_terms.Given as goal

abbrev pub invariant-loop-t : goal.invariant-loop-t
invariant-loop-t l = l.terms.items ≡ take l.t-index l.given
