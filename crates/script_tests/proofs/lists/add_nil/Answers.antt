use Rattle.script_tests.proofs.ListKernel.{base_at, list_base, side_at, constant_is, nil_said}
use Rattle.script_tests.proofs.lists.add_nil.Goals as goal

pub add_constant-requires-clause-base : goal.add_constant-requires-clause-base
add_constant-requires-clause-base c = base_at c.requires list_base

pub add_constant-requires-clause-side : goal.add_constant-requires-clause-side
add_constant-requires-clause-side c = side_at c.requires nil_said

pub returns : goal.returns
returns c = λ e. constant_is c.requires nil_said (c.in_ok-is_there.ensures e)
