use Rattle.std.proofs.Common.{◌≡◌, [], drop}
use Rattle.kernel_lines.specs.Ready.{sequents, AllHad}
use Rattle.library_facts.specs.Facts.{statements_of}
use Rattle.script_core.specs.Tables.{facts_put}
use Rattle.script_core.proofs.run.premises.Given as goal

abbrev pub invariant-loop-fact : goal.invariant-loop-fact
invariant-loop-fact l = record {
  had : AllHad l.k l.thms.items;
  rest : facts_put [] (statements_of l.facts) ≡ facts_put (sequents l.thms.items) (statements_of (drop l.fact-index l.facts));
}
