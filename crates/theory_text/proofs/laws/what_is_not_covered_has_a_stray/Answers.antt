use Rattle.theory_text.proofs.Strayed.{has_stray}
use Rattle.theory_text.proofs.laws.what_is_not_covered_has_a_stray.Goals as goal

pub returns : goal.returns
returns c = has_stray
