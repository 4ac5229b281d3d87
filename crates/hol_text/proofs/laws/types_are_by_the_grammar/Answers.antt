use Rattle.hol_text.proofs.GrammarTexts.{type_text}
use Rattle.hol_text.proofs.laws.types_are_by_the_grammar.Goals as goal

pub returns : goal.returns
returns c = type_text
