use Rattle.std.proofs.Common.{◌≡◌, [], drop}
use Rattle.hol_terms.specs.Definition.{signature_of}
use Rattle.hol_terms.specs.Proves.{AreOver}
use Rattle.kernel_lines.specs.Lines.{terms_put}
use Rattle.kernel_lines.proofs.put.put_terms.Given as goal

abbrev pub invariant-loop-pair : goal.invariant-loop-pair
invariant-loop-pair l = record {
  over : AreOver (signature_of l.k.defs) l.found.items;
  rest : terms_put l.terms [] l.pairs ≡ terms_put l.terms l.found.items (drop l.pair-index l.pairs);
}
