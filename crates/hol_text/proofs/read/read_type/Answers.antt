use Rattle.hol_text.proofs.Answered.{answered-type}
use Rattle.hol_text.proofs.read.read_type.Goals as goal

pub returns-clause-over : goal.returns-clause-over
returns-clause-over c = answered-type c.args.sig.now c.args.text.now c.whole_type.result c.utf8.text c.whole_type.ensures
