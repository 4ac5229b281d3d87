use Rattle.hol_text.proofs.GrammarTexts.{term_text}
use Rattle.hol_text.proofs.laws.terms_are_by_the_grammar.Goals as goal

pub returns : goal.returns
returns c = term_text
