use Rattle.script_core.proofs.TableLemmas.{start_ready}
use Rattle.script_core.proofs.run.start.Goals as goal

pub returns-clause-ready : goal.returns-clause-ready
returns-clause-ready c = start_ready c.args.k.now c.args.given.now _ _ c.requires.given c.in_ok-thms.ensures.had c.in_ok-types.ensures c.in_ok-terms.ensures c.in_ok-add_given.ensures
