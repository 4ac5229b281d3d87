use Rattle.std.proofs.Common.{◌≡◌, ◌≢◌, arith, rules}
use Rattle.library_facts.specs.Facts.{statement_of}
use Rattle.script_core.proofs.ShelfLemmas.{none_more, none_left, last_at, stated_last}
use Rattle.script_core.proofs.shelf.Shelf.get.Goals as goal

pub loop-left-preserved : goal.loop-left-preserved
loop-left-preserved c =
    let e : statement_of c.index.result.now.0 ≢ statement_of c.args.fact = search rules in
    record {
      within = omega (arith, c.loop-left.invariant.within);
      none = none_more _ _ c.args.fact _ c.loop-left-test.true c.loop-left.invariant.within c.index.ensures e c.loop-left.invariant.none;
    }

pub returns-clause-none : goal.returns-clause-none
returns-clause-none c = λ _. none_left _ _ _ c.args.fact c.self.view_is c.loop-left-test.false c.loop-left.invariant.none

pub returns-then-eq-clause-last : goal.returns-then-eq-clause-last
returns-then-eq-clause-last c =
    let e : statement_of c.index.result.now.0 ≡ statement_of c.args.fact = search rules in
    last_at _ _ _ c.args.fact _ _ c.self.view_is c.loop-left-test.true c.loop-left.invariant.within c.index-then-eq.ensures c.index.ensures e c.loop-left.invariant.none

pub returns-then-eq-clause-stated : goal.returns-then-eq-clause-stated
returns-then-eq-clause-stated c =
    let e : statement_of c.index.result.now.0 ≡ statement_of c.args.fact = search rules in
    let last = last_at _ _ _ c.args.fact _ _ c.self.view_is c.loop-left-test.true c.loop-left.invariant.within c.index-then-eq.ensures c.index.ensures e c.loop-left.invariant.none in
    stated_last _ _ _ _ c.self.view_is c.self.invariant last
