use Rattle.std.proofs.Common.{ℕ, ◌-◌, ◌≤◌, ◌∷◌, [], length, drop, refl, subst, arith}
use Rattle.std.proofs.lemmas.Result.{err_from_is_err_and}
use Rattle.hb_io.specs.Told.{Appends}
use Rattle.proof_log.specs.Gained.{AppendsFront}
use Rattle.proof_log.proofs.Writing.{start, stopped, front, advance, finished, same_fault, line_is, order_here, mark_within, next_mark, marks_done, part_within}
use Rattle.proof_log.proofs.write.write_marked.Goals as goal

pub loop-mark-init : goal.loop-mark-init
loop-mark-init g c = record { progress = start _ _; ordered = c.requires.ordered; placed = omega arith; within = omega arith; counted = omega arith }

pub returns-in_err-count : goal.returns-in_err-count
returns-in_err-count g c =
    let p = err_from_is_err_and c.from_residual.result c.from_residual.ensures.1 in
    let here = next_mark _ _ _ c.args.k.now _ _ _ _ _ _ _ c.loop-mark-test.true c.mark-item.is c.loop-mark.invariant.progress in
    rw (p.1, p.2) (record {
      ok = tt;
      count = tt;
      within = tt;
      err = front _ _ _ _ _ _ _ here c.in_err-count.ensures.err;
      fault = same_fault ℕ ℕ _ _ _ _ c.loop-mark.invariant.counted c.in_err-count.ensures.fault;
      counted = omega (arith, c.loop-mark.invariant.counted, c.write_steps.ensures.counted);
    })

pub returns-in_err-mark_line : goal.returns-in_err-mark_line
returns-in_err-mark_line g c =
    let p = err_from_is_err_and c.from_residual-in_err-mark_line.result c.from_residual-in_err-mark_line.ensures.1 in
    let here = next_mark _ _ _ c.args.k.now _ _ _ _ _ _ _ c.loop-mark-test.true c.mark-item.is c.loop-mark.invariant.progress in
    let there = advance _ _ _ _ _ _ _ _ _ here c.in_ok-count.ensures.ok c.in_ok-count.ensures.count refl in
    rw (p.1, p.2) (record {
      ok = tt;
      count = tt;
      within = tt;
      err = stopped _ _ _ _ _ there;
      fault = tt;
      counted = omega (arith, c.loop-mark.invariant.counted, c.write_steps.ensures.counted);
    })

pub returns-in_err-write_line : goal.returns-in_err-write_line
returns-in_err-write_line g c =
    let p = err_from_is_err_and c.from_residual-in_err-write_line.result c.from_residual-in_err-write_line.ensures.1 in
    let here = next_mark _ _ _ c.args.k.now _ _ _ _ _ _ _ c.loop-mark-test.true c.mark-item.is c.loop-mark.invariant.progress in
    let there = advance _ _ _ _ _ _ _ _ _ here c.in_ok-count.ensures.ok c.in_ok-count.ensures.count refl in
    let low : g.O.Sink.faults c.args.out.now ≤ g.O.Sink.faults c.write_steps.new.out = omega (arith, c.loop-mark.invariant.counted, c.write_steps.ensures.counted) in
    let part = subst (AppendsFront _ _) (line_is _ _ c.in_ok-mark_line.ensures) c.in_err-write_line.ensures.err in
    rw (p.1, p.2) (record {
      ok = tt;
      count = tt;
      within = tt;
      err = front _ _ _ _ _ (_ ∷ []) _ there part;
      fault = same_fault (Unit {0}) ℕ _ _ _ _ low c.in_err-write_line.ensures.fault;
      counted = omega (arith, c.loop-mark.invariant.counted, c.write_steps.ensures.counted, c.write_line.ensures.counted);
    })

pub loop-mark-preserved : goal.loop-mark-preserved
loop-mark-preserved g c =
    let here = next_mark _ _ _ c.args.k.now _ _ _ _ _ _ _ c.loop-mark-test.true c.mark-item.is c.loop-mark.invariant.progress in
    let there = advance _ _ _ _ _ _ _ _ _ here c.in_ok-count.ensures.ok c.in_ok-count.ensures.count refl in
    let whole = subst (Appends _ _) (line_is _ _ c.in_ok-mark_line.ensures) c.in_ok-write_line.ensures.ok in
    let order = order_here _ _ _ _ c.loop-mark-test.true c.mark-item.is c.loop-mark.invariant.ordered in
    let low = order.0 in
    let part = part_within (c.mark-item.result.at - c.loop-mark.done) (drop c.loop-mark.done c.args.steps.now) in
    record {
      progress = advance _ _ _ _ 1 _ _ (_ ∷ []) _ there whole refl refl;
      ordered = order.1;
      placed = mark_within _ _ _ _ c.loop-mark-test.true c.mark-item.is c.requires.placed;
      within = omega (arith, c.loop-mark.invariant.within, c.in_ok-count.ensures.within);
      counted = omega (arith, c.loop-mark.invariant.counted, c.write_steps.ensures.counted, c.write_line.ensures.counted);
    }

pub returns-in_err-count-2 : goal.returns-in_err-count-2
returns-in_err-count-2 g c =
    let p = err_from_is_err_and c.from_residual-in_err-count-2.result c.from_residual-in_err-count-2.ensures.1 in
    let end : length c.args.marks.now ≤ c.loop-mark.mark-index = omega arith in
    let last = marks_done _ _ _ c.args.k.now _ _ _ _ _ _ end c.loop-mark.invariant.progress in
    rw (p.1, p.2) (record {
      ok = tt;
      count = tt;
      within = tt;
      err = front _ _ _ _ _ _ [] last c.in_err-count-2.ensures.err;
      fault = same_fault ℕ ℕ _ _ _ _ c.loop-mark.invariant.counted c.in_err-count-2.ensures.fault;
      counted = omega (arith, c.loop-mark.invariant.counted, c.write_steps-2.ensures.counted);
    })

pub returns-clause-ok : goal.returns-clause-ok
returns-clause-ok g c =
    let end : length c.args.marks.now ≤ c.loop-mark.mark-index = omega arith in
    let last = marks_done _ _ _ c.args.k.now _ _ _ _ _ _ end c.loop-mark.invariant.progress in
    (finished _ _ _ _ (advance _ _ _ _ _ _ _ _ [] last c.in_ok-count-2.ensures.ok c.in_ok-count-2.ensures.count refl)).0

pub returns-clause-count : goal.returns-clause-count
returns-clause-count g c =
    let end : length c.args.marks.now ≤ c.loop-mark.mark-index = omega arith in
    let last = marks_done _ _ _ c.args.k.now _ _ _ _ _ _ end c.loop-mark.invariant.progress in
    (finished _ _ _ _ (advance _ _ _ _ _ _ _ _ [] last c.in_ok-count-2.ensures.ok c.in_ok-count-2.ensures.count refl)).1
