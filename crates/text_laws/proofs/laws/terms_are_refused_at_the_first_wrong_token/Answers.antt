use Rattle.text_laws.proofs.TermRefusals.{term_refused}
use Rattle.text_laws.proofs.laws.terms_are_refused_at_the_first_wrong_token.Goals as goal

pub returns : goal.returns
returns c = term_refused
