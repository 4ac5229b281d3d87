use Rattle.library_steps.proofs.Shown.{had_grows}
use Rattle.library_steps.proofs.closed.prove.Goals as goal

pub returns-in_err-th-clause-shelf : goal.returns-in_err-th-clause-shelf
returns-in_err-th-clause-shelf c = had_grows _ _ _ c.requires.shelf c.fact_shown.ensures.grows
