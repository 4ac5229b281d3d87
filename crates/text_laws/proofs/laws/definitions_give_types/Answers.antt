use Rattle.text_laws.proofs.Given.{gives_types}
use Rattle.text_laws.proofs.laws.definitions_give_types.Goals as goal

pub returns : goal.returns
returns c = gives_types
