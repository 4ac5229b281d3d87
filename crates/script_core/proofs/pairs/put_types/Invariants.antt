use Rattle.std.proofs.Common.{◌≡◌, [], length}
use Rattle.hol_terms.specs.Subst.{ty_pairs}
use Rattle.hol_terms.specs.Definition.{signature_of}
use Rattle.hol_terms.specs.Proves.{AreTypesOver}
use Rattle.kernel_lines.specs.Ready.{behind}
use Rattle.script_core.specs.Steps.{types_put}
use Rattle.script_core.proofs.pairs.put_types.Given as goal

abbrev pub invariant-loop-rest : goal.invariant-loop-rest
invariant-loop-rest l = record {
  over : AreTypesOver (signature_of l.k.defs) (ty_pairs l.found.items);
  rest : types_put l.r.types.items [] (behind l.words) ≡ types_put l.r.types.items (ty_pairs l.found.items) (behind l.rest);
}

abbrev pub decreases-loop-rest : goal.decreases-loop-rest
decreases-loop-rest l = length l.rest
