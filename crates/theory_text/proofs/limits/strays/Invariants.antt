use Rattle.std.proofs.Common.{◌≡◌, length}
use Rattle.hol_text.specs.TokenViews.{tokens_of}
use Rattle.theory_text.specs.Command.{strays}
use Rattle.theory_text.proofs.limits.strays.Given as goal

abbrev pub invariant-loop-rest : goal.invariant-loop-rest
invariant-loop-rest l = strays l.ty (tokens_of l.rest) ≡ strays l.ty (tokens_of l.tokens)

abbrev pub decreases-loop-rest : goal.decreases-loop-rest
decreases-loop-rest l = length l.rest
