use Rattle.std.proofs.Common.{sym, ◌∙◌, true≢false}
use Rattle.flat_terms.specs.Plain.{term_of}
use Rattle.flat_walks.specs.Walk.{var_of}
use Rattle.flat_instances.proofs.TermSteps.{lookup_found, lookup_other, lookup_over, pair_has}
use Rattle.flat_instances.proofs.instance.stand_in.Goals as goal

pub same_term-requires-clause-a : goal.same_term-requires-clause-a
same_term-requires-clause-a c = (pair_has c.args.tables.now c.args.pairs.now c.loop-key.key-index _ c.requires.pairs c.loop-key-test.true).0.0

pub returns-then-same_term : goal.returns-then-same_term
returns-then-same_term c = record {
  has = (pair_has c.args.tables.now c.args.pairs.now c.loop-key.key-index _ c.requires.pairs c.loop-key-test.true).1;
  tree = sym (c.loop-key.invariant ∙ lookup_found c.args.tables.now c.args.pairs.now c.args.variable c.loop-key.key-index _ c.loop-key-test.true (c.same_term.ensures.0 c.if-same_term.true));
}

pub loop-key-preserved : goal.loop-key-preserved
loop-key-preserved c =
    c.loop-key.invariant ∙ lookup_other c.args.tables.now c.args.pairs.now c.args.variable c.loop-key.key-index _ c.loop-key-test.true
    (pair_has c.args.tables.now c.args.pairs.now c.loop-key.key-index _ c.requires.pairs c.loop-key-test.true).0 c.requires.variable (λ e. true≢false (sym (c.same_term.ensures.1 e) ∙ c.if-same_term.false))

pub returns : goal.returns
returns c = record {
  has = c.requires.variable.0;
  tree = c.requires.variable.1 ∙ sym (c.loop-key.invariant ∙ lookup_over c.args.tables.now c.args.pairs.now (var_of (term_of c.args.tables.now c.args.variable)) c.loop-key.key-index c.loop-key-test.false);
}
