use Rattle.std.proofs.Common.{◌≡◌, ◌<◌, length, get_or, arith}
use Rattle.decl_facts.proofs.Numbered.{flat_map_step}
use Rattle.decl_core.specs.Declaration.{Ctor}
use Rattle.decl_core.specs.Statements.{flat_map_from}
use Rattle.decl_core.specs.FreeConstructors.{sel_facts_of}
use Rattle.decl_facts.proofs.selectors.push_sel_facts.Goals as goal

pub loop-ctor-preserved : goal.loop-ctor-preserved
loop-ctor-preserved c =
    let h : c.loop-ctor.ctor-index < length c.args.decl.now.ctors = grind arith in
    let here : c.ctor-item.result ≡ get_or c.args.decl.now.ctors c.loop-ctor.ctor-index c.ctor-item.result = rw c.ctors-ctor-items.ensures at c.ctor-item.is in
    flat_map_step (λ (k : Ctor). flat_map_from (sel_facts_of c.args.decl.now k) 1 k.args) c.args.decl.now.ctors c.loop-ctor.ctor-index c.ctor-item.result _ _ _ h here c.in_ok-push_sel_facts_of.ensures c.loop-ctor.invariant
