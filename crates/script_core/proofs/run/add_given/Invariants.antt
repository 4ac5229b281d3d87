use Rattle.std.proofs.Common.{◌≡◌, ◌++◌, take}
use Rattle.kernel_lines.specs.Ready.{behind}
use Rattle.script_core.proofs.run.add_given.Given as goal

abbrev pub invariant-loop-th : goal.invariant-loop-th
invariant-loop-th l = l.thms.items ≡ l.fn.thms.items ++ behind (take l.th-index l.given)
