use Rattle.std.proofs.Common.{◌≡◌, ◌<◌, length, get_or, arith}
use Rattle.decl_facts.proofs.Numbered.{flat_map_step}
use Rattle.decl_core.specs.Declaration.{Ctor}
use Rattle.std.proofs.Common.{◌&&◌}
use Rattle.decl_core.specs.Statements.{when}
use Rattle.decl_core.specs.FreeConstructors.{has_args, have_selectors, collapse_fact}
use Rattle.decl_facts.proofs.selectors.push_collapse_facts.Goals as goal

pub loop-ctor-preserved : goal.loop-ctor-preserved
loop-ctor-preserved c =
    let h : c.loop-ctor.ctor-index < length c.args.decl.now.ctors = grind arith in
    let here : c.ctor-item.result ≡ get_or c.args.decl.now.ctors c.loop-ctor.ctor-index c.ctor-item.result = rw c.ctors-ctor-items.ensures at c.ctor-item.is in
    flat_map_step (λ (k : Ctor). when (has_args k && have_selectors k.args) (collapse_fact c.args.decl.now k)) c.args.decl.now.ctors c.loop-ctor.ctor-index c.ctor-item.result _ _ _ h here c.in_ok-push_collapse_fact.ensures c.loop-ctor.invariant
