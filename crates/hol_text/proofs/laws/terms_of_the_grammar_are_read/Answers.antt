use Rattle.hol_text.proofs.GrammarTextsRead.{term_readable}
use Rattle.hol_text.proofs.laws.terms_of_the_grammar_are_read.Goals as goal

pub returns : goal.returns
returns c = term_readable
