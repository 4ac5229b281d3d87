use Rattle.std.proofs.Common.{◌≡◌, ◌<◌, length, get_or, arith}
use Rattle.decl_facts.proofs.Numbered.{map_first}
use Rattle.decl_facts.proofs.FormulaLists.{HaveNoLoose-more}
use Rattle.decl_core.specs.FreeConstructors.{selection}
use Rattle.decl_facts.proofs.selectors.selections.Goals as goal

pub loop-arg-preserved : goal.loop-arg-preserved
loop-arg-preserved c =
    let h : c.loop-arg.arg-index < length c.args.ctor.now.args = grind arith in
    let here : c.arg-item.result ≡ get_or c.args.ctor.now.args c.loop-arg.arg-index c.arg-item.result = rw c.args-arg-items.ensures at c.arg-item.is in (
      map_first (selection c.args.decl.now) c.args.ctor.now.args c.loop-arg.arg-index c.arg-item.result _ _ _ h here c.in_ok-push.ensures.items c.in_ok-selection.ensures.exact c.loop-arg.invariant.0,
      rw c.in_ok-push.ensures.items (HaveNoLoose-more _ _ c.loop-arg.invariant.1 c.in_ok-selection.ensures.closed),
    )
