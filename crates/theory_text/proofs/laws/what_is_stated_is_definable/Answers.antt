use Rattle.theory_text.proofs.Stated.{stated_definable}
use Rattle.theory_text.proofs.laws.what_is_stated_is_definable.Goals as goal

pub returns : goal.returns
returns c = stated_definable
