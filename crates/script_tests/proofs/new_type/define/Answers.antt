use Rattle.script_tests.proofs.NewTypes.{new_type_there}
use Rattle.script_tests.proofs.new_type.define.Goals as goal

pub returns : goal.returns
returns c = new_type_there c.requires.base c.in_ok-_both.ensures.ok
