use Rattle.std.proofs.Common.{◌≡◌, take}
use Rattle.kernel_lines.specs.Ready.{behind}
use Rattle.nd_rules.proofs.rules.references.Given as goal

abbrev pub invariant-loop-th : goal.invariant-loop-th
invariant-loop-th l = behind l.given.items ≡ take l.th-index l.thms
