use Rattle.std.proofs.Common.{slice_get}
use Rattle.hol_kernel.proofs.Recall.{one_said, const_says}
use Rattle.hol_kernel.proofs.kernel.Kernel.def_at.Goals as goal

pub says-requires : goal.says-requires
says-requires c = const_says (slice_get c.args.self.now.defs c.args.i) c.requires

pub returns-clause-said : goal.returns-clause-said
returns-clause-said c = one_said (slice_get c.args.self.now.defs c.args.i) c.in_ok-th.th.sequent c.requires c.in_ok-th.ensures.said
