use Rattle.std.proofs.Common.{slice_get}
use Rattle.hol_kernel.proofs.Recall.{two_said, type_says}
use Rattle.hol_kernel.proofs.kernel.Kernel.type_at.Goals as goal

pub says-requires : goal.says-requires
says-requires c = (type_says (slice_get c.args.self.now.defs c.args.i) c.requires).0

pub says-requires-2 : goal.says-requires-2
says-requires-2 c = (type_says (slice_get c.args.self.now.defs c.args.i) c.requires).1

pub returns-clause-said : goal.returns-clause-said
returns-clause-said c = two_said (slice_get c.args.self.now.defs c.args.i) c.in_ok-abs.abs.sequent c.in_ok-rep.rep.sequent c.requires c.in_ok-abs.ensures.said c.in_ok-rep.ensures.said
