use Rattle.std.proofs.Common.{◌≡◌, length}
use Rattle.hol_text.specs.TokenViews.{tokens_of}
use Rattle.theory_text.specs.Command.{are_unnumbered}
use Rattle.theory_text.proofs.limits.are_unnumbered.Given as goal

abbrev pub invariant-loop-rest : goal.invariant-loop-rest
invariant-loop-rest l = are_unnumbered (tokens_of l.rest) ≡ are_unnumbered (tokens_of l.tokens)

abbrev pub decreases-loop-rest : goal.decreases-loop-rest
decreases-loop-rest l = length l.rest
