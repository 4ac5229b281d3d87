use Rattle.std.proofs.Common.{◌≡◌, [], drop}
use Rattle.kernel_lines.specs.Ready.{behind}
use Rattle.script_core.specs.Steps.{path_on}
use Rattle.script_core.proofs.pairs.path_of.Given as goal

abbrev pub invariant-loop-word : goal.invariant-loop-word
invariant-loop-word l = path_on [] (behind l.words) ≡ path_on l.path.items (behind (drop l.word-index l.words))
