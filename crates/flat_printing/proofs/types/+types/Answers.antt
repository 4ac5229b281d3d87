use Rattle.std.proofs.Common.{◌≤◌, ◌<◌, get_or, string_bytes, arith}
use Rattle.flat_instances.proofs.TypeSteps.{most, most_below, most_above, has_at, below_types}
use Rattle.flat_printing.proofs.Texts.{front_written}
use Rattle.flat_printing.proofs.types.+types.Goals as goal

pub push_type-push_named-requires : goal.push_type-push_named-requires
push_type-push_named-requires t c =
    let few : most c.in-App.args.now ≤ c.args.ty.0 = most_below c.args.ty.0 c.in-App.args.now c.in-App.ensures.1 in
    (omega (arith, c.decreases, few), (c.in-App.ensures.0, below_types c.args.tables.now c.args.ty.0 c.in-App.args.now c.requires c.in-App.ensures.1))

pub push_types-push_type-requires : goal.push_types-push_type-requires
push_types-push_type-requires t c =
    let low : (get_or c.args.types.now c.loop-i.i (record { 0 = 0 })).0 < most c.args.types.now = most_above c.args.types.now c.loop-i.i (record { 0 = 0 }) c.loop-i-test.true in
    (omega (arith, c.decreases, low), has_at c.args.tables.now c.args.types.now c.loop-i.i (record { 0 = 0 }) c.requires c.loop-i-test.true)

pub push_types-loop-i-preserved : goal.push_types-loop-i-preserved
push_types-loop-i-preserved t c = front_written c.args.tables.now c.args.types.now c.loop-i.i _ (string_bytes c.args.out.now) (string_bytes c.loop-i.out) (string_bytes c.push_comma.new.out) (string_bytes c.push_type.new.out) c.loop-i-test.true c.loop-i.invariant c.in_ok-push_comma.ensures c.in_ok-push_type.ensures
