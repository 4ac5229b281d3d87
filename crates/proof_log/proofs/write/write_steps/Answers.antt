use Rattle.std.proofs.Common.{ℕ, ◌≤◌, length, arith}
use Rattle.std.proofs.lemmas.Result.{err_from_is_err_and}
use Rattle.proof_log.proofs.Writing.{start, stopped, same_fault, step_front, step_written, step_silent, steps_finished}
use Rattle.proof_log.proofs.write.write_steps.Goals as goal
use Rattle.proof_log.proofs.write.write_steps.Goals.{in-Some+in_ok-write_line, in_default}

pub loop-step-init : goal.loop-step-init
loop-step-init g c = record { progress = start _ _; within = omega arith; counted = omega arith }

pub returns-in_err-line : goal.returns-in_err-line
returns-in_err-line g c =
    let p = err_from_is_err_and c.from_residual.result c.from_residual.ensures.1 in
    rw (p.1, p.2) (record { ok = tt; count = tt; within = tt; err = stopped _ _ _ _ _ c.loop-step.invariant.progress; fault = tt; counted = c.loop-step.invariant.counted })

pub returns-in_err-write_line : goal.returns-in_err-write_line
returns-in_err-write_line g c =
    let p = err_from_is_err_and c.from_residual-in_err-write_line.result c.from_residual-in_err-write_line.ensures.1 in
    rw (p.1, p.2) (record {
      ok = tt;
      count = tt;
      within = tt;
      err = step_front _ _ _ _ _ _ _ _ _ _ c.loop-step-test.true c.step-item.is c.loop-step.invariant.progress c.in-Some.is c.in_ok-line.ensures c.in_err-write_line.ensures.err;
      fault = same_fault (Unit {0}) ℕ _ _ _ _ c.loop-step.invariant.counted c.in_err-write_line.ensures.fault;
      counted = omega (arith, c.loop-step.invariant.counted, c.write_line.ensures.counted);
    })

pub loop-step-preserved : goal.loop-step-preserved
loop-step-preserved g c =
    elim c.match-branch-2.branch [
      | in-Some+in_ok-write_line w ↦ rw (w.out-is, w.count-is) (record {
        progress = step_written _ _ _ _ _ _ _ _ _ _ c.loop-step-test.true c.step-item.is c.loop-step.invariant.progress w.in-Some.is c.in_ok-line.ensures w.in_ok-write_line.ensures.ok;
        within = omega (arith, c.loop-step.invariant.within);
        counted = omega (arith, c.loop-step.invariant.counted, w.write_line.ensures.counted);
      })
      | in_default w ↦ rw (w.out-is, w.count-is) (record {
        progress = step_silent _ _ _ _ _ _ _ _ c.loop-step-test.true c.step-item.is c.loop-step.invariant.progress w.in_default.is c.in_ok-line.ensures;
        within = omega (arith, c.loop-step.invariant.within);
        counted = c.loop-step.invariant.counted;
      })
    ]

pub returns-clause-ok : goal.returns-clause-ok
returns-clause-ok g c = let end : length c.args.steps.now ≤ c.loop-step.step-index = omega arith in (steps_finished _ _ _ _ _ _ end c.loop-step.invariant.progress).0

pub returns-clause-count : goal.returns-clause-count
returns-clause-count g c = let end : length c.args.steps.now ≤ c.loop-step.step-index = omega arith in (steps_finished _ _ _ _ _ _ end c.loop-step.invariant.progress).1
