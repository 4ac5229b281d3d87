use Rattle.script_core.proofs.ShelfLemmas.{known_had}
use Rattle.script_core.proofs.run.known.Goals as goal

pub returns-clause-has : goal.returns-clause-has
returns-clause-has c = known_had _ _ _ _ c.requires.had c.in-Some.ensures.last
