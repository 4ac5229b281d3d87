use Rattle.std.proofs.Common.{◌∙◌}
use Rattle.script_core.proofs.PairLemmas.{type_step}
use Rattle.script_core.proofs.pairs.put_types.Goals as goal

pub loop-rest-preserved : goal.loop-rest-preserved
loop-rest-preserved c = record {
  over = c.in_ok-add_type.ensures.put;
  rest = c.loop-rest.invariant.rest ∙ type_step _ c.loop-rest.rest.now c.in-len2-up.len_at_least c.in_ok-add_type.ensures.exact;
}
