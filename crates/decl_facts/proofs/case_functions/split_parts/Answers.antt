use Rattle.std.proofs.Common.{◌≡◌, ◌<◌, length, get_or, arith}
use Rattle.decl_facts.proofs.Numbered.{each_from_first}
use Rattle.decl_facts.proofs.FormulaLists.{AreBoolean-more, HaveNoLoose-more}
use Rattle.decl_core.specs.FreeConstructors.{split_part}
use Rattle.decl_facts.proofs.case_functions.split_parts.Goals as goal

pub loop-i-preserved : goal.loop-i-preserved
loop-i-preserved c =
    let h : c.loop-i.i < length c.args.decl.now.ctors = grind arith in
    let here : c.ctor-item.result ≡ get_or c.args.decl.now.ctors c.loop-i.i c.ctor-item.result = rw c.ctors-ctor-items.ensures at c.ctor-item.is in
    record {
      exact = each_from_first (split_part c.args.decl.now) c.args.decl.now.ctors c.loop-i.i c.ctor-item.result _ _ _ h here c.in_ok-push.ensures.items c.in_ok-split_part.ensures.exact c.loop-i.invariant.exact;
      boolean = rw c.in_ok-push.ensures.items (AreBoolean-more _ _ c.loop-i.invariant.boolean c.in_ok-split_part.ensures.boolean);
      closed = rw c.in_ok-push.ensures.items (HaveNoLoose-more _ _ c.loop-i.invariant.closed c.in_ok-split_part.ensures.closed);
    }
