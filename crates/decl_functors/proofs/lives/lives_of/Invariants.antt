use Rattle.std.proofs.Common.{◌≡◌, drop}
use Rattle.decl_core.specs.Functors.{lives_of}
use Rattle.decl_functors.proofs.lives.lives_of.Given as goal

abbrev pub invariant-loop-entry : goal.invariant-loop-entry
invariant-loop-entry l = lives_of l.lives l.name ≡ lives_of (drop l.entry-index l.lives) l.name
