use Rattle.std.proofs.Common.{◌≡◌, ◌≤◌, ◌+◌, ◌-◌, ◌*◌}
use Rattle.hol_terms.specs.Meaning.{count}
use Rattle.hol_text.specs.MeaningViews.{arguments_of}
use Rattle.hol_terms.specs.Reading.{types_at, type_at}
use Rattle.hol_text.specs.TokenViews.{tokens_of}
use Rattle.hol_text.proofs.types.+types.Given as goal

abbrev pub decreases-type_at : goal.decreases-type_at
decreases-type_at l = 4 * l.fuel

abbrev pub decreases-types_at : goal.decreases-types_at
decreases-types_at l = 4 * l.fuel + 1

abbrev pub decreases-group : goal.decreases-group
decreases-group l = 4 * l.fuel + 2

abbrev pub decreases-dtype_at : goal.decreases-dtype_at
decreases-dtype_at l = 4 * l.fuel + 3

abbrev pub invariant-types_at-loop : goal.invariant-types_at-loop
invariant-types_at-loop l = record {
  reads : types_at (type_at l.sig l.fuel) (l.fuel - l.counter) (arguments_of l.args) (tokens_of l.rest) ≡ types_at (type_at l.sig l.fuel) l.fuel (arguments_of l.fn.args) (tokens_of l.tokens);
  few : count (arguments_of l.args) ≤ l.counter + 1;
}
