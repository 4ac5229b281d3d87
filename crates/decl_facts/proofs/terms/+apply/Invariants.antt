use Rattle.std.proofs.Common.{length}
use Rattle.decl_facts.proofs.terms.+apply.Given as goal

abbrev pub decreases-apply : goal.decreases-apply
decreases-apply l = length l.args.now
