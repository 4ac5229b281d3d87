use Rattle.hol_text.proofs.GrammarTextsRead.{type_readable}
use Rattle.hol_text.proofs.laws.types_of_the_grammar_are_read.Goals as goal

pub returns : goal.returns
returns c = type_readable
