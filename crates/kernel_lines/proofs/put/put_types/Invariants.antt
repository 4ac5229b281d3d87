use Rattle.std.proofs.Common.{◌≡◌, [], drop}
use Rattle.hol_terms.specs.Subst.{ty_pairs}
use Rattle.hol_terms.specs.Definition.{signature_of}
use Rattle.hol_terms.specs.Proves.{AreTypesOver}
use Rattle.kernel_lines.specs.Lines.{types_put}
use Rattle.kernel_lines.proofs.put.put_types.Given as goal

abbrev pub invariant-loop-pair : goal.invariant-loop-pair
invariant-loop-pair l = record {
  over : AreTypesOver (signature_of l.k.defs) (ty_pairs l.found.items);
  rest : types_put l.terms [] l.pairs ≡ types_put l.terms (ty_pairs l.found.items) (drop l.pair-index l.pairs);
}
