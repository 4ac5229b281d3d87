use Rattle.std.proofs.Common.{◌≡◌, ◌<◌, length, get_or, arith}
use Rattle.decl_facts.proofs.Numbered.{each_from_first}
use Rattle.decl_core.specs.Statements.{numbered}
use Rattle.decl_facts.proofs.terms.variables.Goals as goal

pub loop-i-preserved : goal.loop-i-preserved
loop-i-preserved c =
    let h : c.loop-i.i < length c.args.types.now = grind arith in
    let here : c.index-types-i.result ≡ get_or c.args.types.now c.loop-i.i c.index-types-i.result = c.index-types-i.is in
    each_from_first (numbered c.args.letter.now) c.args.types.now c.loop-i.i c.index-types-i.result _ _ _ h here c.in_ok-push.ensures.items c.in_ok-numbered.ensures c.loop-i.invariant
