use Rattle.std.proofs.Common.{◌≡◌, ◌<◌, length, get_or, arith}
use Rattle.decl_facts.proofs.Numbered.{map_first}
use Rattle.decl_facts.proofs.FormulaLists.{AreBoolean-more, HaveNoLoose-more}
use Rattle.decl_core.specs.FreeConstructors.{case_premise}
use Rattle.decl_facts.proofs.constructors.case_premises.Goals as goal

pub loop-ctor-preserved : goal.loop-ctor-preserved
loop-ctor-preserved c =
    let h : c.loop-ctor.ctor-index < length c.args.decl.now.ctors = grind arith in
    let here : c.ctor-item.result ≡ get_or c.args.decl.now.ctors c.loop-ctor.ctor-index c.ctor-item.result = rw c.ctors-ctor-items.ensures at c.ctor-item.is in
    record {
      exact = map_first (case_premise c.args.decl.now) c.args.decl.now.ctors c.loop-ctor.ctor-index c.ctor-item.result _ _ _ h here c.in_ok-push.ensures.items c.in_ok-case_premise.ensures.exact c.loop-ctor.invariant.exact;
      boolean = rw c.in_ok-push.ensures.items (AreBoolean-more _ _ c.loop-ctor.invariant.boolean c.in_ok-case_premise.ensures.boolean);
      closed = rw c.in_ok-push.ensures.items (HaveNoLoose-more _ _ c.loop-ctor.invariant.closed c.in_ok-case_premise.ensures.closed);
    }
