use Rattle.std.proofs.Common.{sym, ◌∙◌}
use Rattle.flat_terms.specs.Plain.{name_of}
use Rattle.flat_instances.proofs.TypeSteps.{lookup_found, lookup_other, lookup_over, pair_has}
use Rattle.flat_instances.proofs.types.replacement.Goals as goal

pub returns-then-eq : goal.returns-then-eq
returns-then-eq c = record {
  has = (pair_has c.args.tables.now c.args.pairs.now c.loop-key.key-index _ c.requires.pairs c.loop-key-test.true).1;
  tree = sym (c.loop-key.invariant ∙ lookup_found c.args.tables.now c.args.pairs.now c.args.name c.loop-key.key-index _ c.loop-key-test.true (sym c.if-eq.ensures));
}

pub loop-key-preserved : goal.loop-key-preserved
loop-key-preserved c =
    c.loop-key.invariant ∙ lookup_other c.args.tables.now c.args.pairs.now c.args.name c.loop-key.key-index _ c.loop-key-test.true c.entries_once.ensures.names
    (pair_has c.args.tables.now c.args.pairs.now c.loop-key.key-index _ c.requires.pairs c.loop-key-test.true).0 c.requires.name (sym c.if-eq.ensures)

pub returns : goal.returns
returns c = record {
  has = c.requires.variable.has;
  tree = c.requires.variable.tree ∙ sym (c.loop-key.invariant ∙ lookup_over c.args.tables.now c.args.pairs.now (name_of c.args.tables.now c.args.name) c.loop-key.key-index c.loop-key-test.false);
}
