use Rattle.std.proofs.Common.{◌≡◌, ◌+◌, ◌≤◌, length}
use Rattle.hol_text.specs.TokenViews.{tokens_of}
use Rattle.theory_text.specs.Command.{type_limit, types_fit}
use Rattle.theory_text.proofs.limits.types_fit.Given as goal

abbrev pub invariant-loop-rest : goal.invariant-loop-rest
invariant-loop-rest l = record {
  fits : types_fit (l.depth, l.count) (tokens_of l.rest) ≡ types_fit (0, 0) (tokens_of l.tokens);
  few : l.count ≤ type_limit;
  shallow : l.depth ≤ l.count + 1;
}

abbrev pub decreases-loop-rest : goal.decreases-loop-rest
decreases-loop-rest l = length l.rest
