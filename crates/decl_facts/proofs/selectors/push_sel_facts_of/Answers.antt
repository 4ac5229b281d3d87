use Rattle.std.proofs.Common.{◌≡◌, ◌<◌, length, get_or, arith}
use Rattle.decl_facts.proofs.Numbered.{flat_map_from_step}
use Rattle.decl_core.specs.FreeConstructors.{sel_facts_of}
use Rattle.decl_facts.proofs.selectors.push_sel_facts_of.Goals as goal

pub loop-i-preserved : goal.loop-i-preserved
loop-i-preserved c =
    let h : c.loop-i.i < length c.args.ctor.now.args = grind arith in
    let here : c.arg-item.result ≡ get_or c.args.ctor.now.args c.loop-i.i c.arg-item.result = rw c.args-arg-items.ensures at c.arg-item.is in
    flat_map_from_step (sel_facts_of c.args.decl.now c.args.ctor.now) c.args.ctor.now.args c.loop-i.i c.arg-item.result _ _ _ h here c.in_ok-push_sel_fact.ensures c.loop-i.invariant
