use Rattle.std.proofs.Common.{◌≡◌, take}
use Rattle.kernel_lines.specs.Ready.{behind}
use Rattle.kernel_lines.proofs.run.copy_terms.Given as goal

abbrev pub invariant-loop-t : goal.invariant-loop-t
invariant-loop-t l = l.terms.items ≡ behind (take l.t-index l.given)
