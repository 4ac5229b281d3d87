use Rattle.std.proofs.Common.{◌≡◌, ◌<◌, length, get_or, arith}
use Rattle.decl_facts.proofs.Numbered.{each_from_step}
use Rattle.decl_core.specs.FreeConstructors.{case_fact}
use Rattle.decl_facts.proofs.case_functions.push_case_facts.Goals as goal

pub loop-i-preserved : goal.loop-i-preserved
loop-i-preserved c =
    let h : c.loop-i.i < length c.args.decl.now.ctors = grind arith in
    let here : c.ctor-item.result ≡ get_or c.args.decl.now.ctors c.loop-i.i c.ctor-item.result = rw c.ctors-ctor-items.ensures at c.ctor-item.is in
    each_from_step (case_fact c.args.decl.now) c.args.decl.now.ctors c.loop-i.i c.ctor-item.result _ _ _ _ h here c.in_ok-push.ensures.items c.in_ok-case_fact.ensures c.loop-i.invariant
