use Rattle.std.proofs.Common.{◌≡◌, [], length}
use Rattle.hol_terms.specs.Definition.{signature_of}
use Rattle.hol_terms.specs.Proves.{AreOver}
use Rattle.kernel_lines.specs.Ready.{behind}
use Rattle.script_core.specs.Steps.{terms_put}
use Rattle.script_core.proofs.pairs.put_terms.Given as goal

abbrev pub invariant-loop-rest : goal.invariant-loop-rest
invariant-loop-rest l = record {
  over : AreOver (signature_of l.k.defs) l.found.items;
  rest : terms_put l.r.terms.items [] (behind l.words) ≡ terms_put l.r.terms.items l.found.items (behind l.rest);
}

abbrev pub decreases-loop-rest : goal.decreases-loop-rest
decreases-loop-rest l = length l.rest
