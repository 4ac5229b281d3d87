use Rattle.std.proofs.Common.{◌≡◌, take}
use Rattle.kernel_lines.specs.Ready.{behind}
use Rattle.kernel_lines.proofs.run.copy_thms.Given as goal

abbrev pub invariant-loop-th : goal.invariant-loop-th
invariant-loop-th l = l.thms.items ≡ behind (take l.th-index l.given)
