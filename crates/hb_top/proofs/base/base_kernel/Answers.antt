use Rattle.std.proofs.Common.{◌∙◌}
use Rattle.script_core.proofs.Closed.{base_is}
use Rattle.hb_top.proofs.base.base_kernel.Goals as goal

pub new-requires : goal.new-requires
new-requires c = base_is _ c.in_ok-kernel.ensures

pub build-requires-clause-defs : goal.build-requires-clause-defs
build-requires-clause-defs c = c.new.ensures.grows.defs ∙ c.in_ok-kernel.ensures
