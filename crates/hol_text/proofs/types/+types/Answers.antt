use Rattle.std.proofs.Common.{◌≡◌, ◌-◌, ◌+◌, ◌<◌, arith}
use Rattle.std.proofs.lemmas.Result.{err_from_is_err_and}
use Rattle.hol_text.specs.MeaningViews.{meaning_of, arguments_of}
use Rattle.hol_text.proofs.TypeSteps.{count-with_one, types-over, types-go_on, types-fail, types-end}
use Rattle.hol_text.proofs.types.+types.Goals as goal

pub types_at-returns-in_err-ty : goal.types_at-returns-in_err-ty
types_at-returns-in_err-ty t c =
    let left : 0 < c.args.fuel - c.loop.counter = omega arith in
    let p = err_from_is_err_and c.from_residual.result c.from_residual.ensures.1 in
    rw (p.1, p.2) (types-fail c.in_err-ty.field-0.0 _ _ _ _ _ left c.in_err-ty.ensures c.loop.invariant.reads)

pub types_at-returns-in_default : goal.types_at-returns-in_default
types_at-returns-in_default t c =
    let left : 0 < c.args.fuel - c.loop.counter = omega arith in
    types-over _ _ _ _ _ _ _ _ _ left c.in_ok-ty.ensures c.in_ok-args.ensures c.head_kind.ensures c.in_default.not-Comma c.loop.invariant.reads

pub types_at-loop-preserved : goal.types_at-loop-preserved
types_at-loop-preserved t c =
    let left : 0 < c.args.fuel - c.loop.counter = omega arith in
    let less : c.args.fuel - (c.loop.counter + 1) ≡ c.args.fuel - c.loop.counter - 1 = omega arith in
    let next = types-go_on _ _ _ _ _ _ _ _ left c.in_ok-ty.ensures c.in_ok-args.ensures c.in-Comma.ensures c.loop.invariant.reads in
    record { reads = rw (c.tail-rest.ensures, less) next; few = rw c.in_ok-args.ensures (omega (arith, count-with_one (arguments_of c.loop.args) (meaning_of c.in_ok-ty.ty), c.loop.invariant.few)) }

pub types_at-returns : goal.types_at-returns
types_at-returns t c =
    types-end _ _ _ _ _ _ (omega arith) c.stop_at.ensures c.loop.invariant.reads
