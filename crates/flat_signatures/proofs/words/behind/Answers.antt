use Rattle.std.proofs.lemmas.Slice.Eq.{strip_prefix_is}
use Rattle.std.proofs.lemmas.Bool.Decides.{Decides-eqb}
use Rattle.flat_signatures.proofs.Fronts.{behind_some, behind_none}
use Rattle.flat_signatures.proofs.words.behind.Goals as goal

pub returns-clause-some : goal.returns-clause-some
returns-clause-some c = behind_some c.args.sign.now c.args.text.now c.strip_prefix.result (strip_prefix_is Decides-eqb c.args.text.now c.args.sign.now c.strip_prefix.result c.strip_prefix.ensures.cases)

pub returns-clause-none : goal.returns-clause-none
returns-clause-none c = behind_none c.args.sign.now c.args.text.now c.strip_prefix.result (strip_prefix_is Decides-eqb c.args.text.now c.args.sign.now c.strip_prefix.result c.strip_prefix.ensures.cases)
