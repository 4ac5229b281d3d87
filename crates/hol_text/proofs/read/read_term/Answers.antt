use Rattle.hol_text.proofs.Answered.{answered-term}
use Rattle.hol_text.proofs.read.read_term.Goals as goal

pub returns-clause-over : goal.returns-clause-over
returns-clause-over c = answered-term c.args.sig.now c.args.text.now c.whole_term.result c.utf8.text c.whole_term.ensures
