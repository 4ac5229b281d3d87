use Rattle.std.proofs.Common.{arith}
use Rattle.hol_text.proofs.PrintLemmas.{ty_size-at_part}
use Rattle.hol_text.proofs.print.+types.Goals as goal

pub push_types-push_type-requires-in-loop-t : goal.push_types-push_type-requires-in-loop-t
push_types-push_type-requires-in-loop-t t c =
    let a = ty_size-at_part c.args.types.now _ 1 _ _ c.t-item.result c.loop-t-test.true c.t-item.is in
    (omega (arith, c.decreases), tt)
