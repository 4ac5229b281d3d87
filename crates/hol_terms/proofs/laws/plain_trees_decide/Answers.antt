use Rattle.std.proofs.Common.{[]}
use Rattle.hol_terms.proofs.PlainTrees.{plain-same}
use Rattle.hol_terms.proofs.laws.plain_trees_decide.Goals as goal

pub returns : goal.returns
returns c = λ s t u a b e. plain-same s [] t u a b e
