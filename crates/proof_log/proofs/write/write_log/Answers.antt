use Rattle.std.proofs.Common.{ℕ, ◌≤◌, refl, arith}
use Rattle.std.proofs.lemmas.Result.{err_from_is_err_and, on_ok_weaker, on_err_weaker}
use Rattle.proof_log.proofs.Writing.{unmoved, stopped, front, advance, same_fault, later_fault}
use Rattle.proof_log.proofs.WholeLog.{fit_ordered, fit_placed, fit_named, first_front, first_written, last_front, last_written, counted_whole, gains_log}
use Rattle.proof_log.proofs.write.write_log.Goals as goal

pub returns-in_err-from_str : goal.returns-in_err-from_str
returns-in_err-from_str g c =
    let p = err_from_is_err_and c.from_residual.result c.from_residual.ensures.1 in
    rw (p.1, p.2) (record { ok = tt; err = record { defs = _; steps = _; run = c.defs_and_steps.ensures.run; gained = unmoved _ _ }; fault = tt })

pub returns-in_err-write_line : goal.returns-in_err-write_line
returns-in_err-write_line g c =
    let p = err_from_is_err_and c.from_residual-in_err-write_line.result c.from_residual-in_err-write_line.ensures.1 in
    let ds = c.defs_and_steps.result.0.now in
    let ss = c.defs_and_steps.result.1.now in
    rw (p.1, p.2) (record {
      ok = tt;
      err = record { defs = ds; steps = ss; run = c.defs_and_steps.ensures.run; gained = first_front _ _ c.args.k.now ds ss c.args.marks.now c.args.end.now _ c.in_ok-from_str.ensures.ok c.in_err-write_line.ensures.err };
      fault = c.in_err-write_line.ensures.fault;
    })

pub write_marked-requires-clause-ordered : goal.write_marked-requires-clause-ordered
write_marked-requires-clause-ordered g c = fit_ordered g.in_force c.args.k.now c.args.marks.now c.args.end.now c.requires.1

pub write_marked-requires-clause-placed : goal.write_marked-requires-clause-placed
write_marked-requires-clause-placed g c = fit_placed g.in_force c.args.k.now c.args.marks.now c.args.end.now c.defs_and_steps.result.0.now c.defs_and_steps.result.1.now c.requires.1 c.defs_and_steps.ensures.run

pub write_marked-requires-clause-named : goal.write_marked-requires-clause-named
write_marked-requires-clause-named g c = fit_named g.in_force c.args.k.now c.args.marks.now c.args.end.now c.requires.1

pub returns-in_err-count : goal.returns-in_err-count
returns-in_err-count g c =
    let p = err_from_is_err_and c.from_residual-in_err-count.result c.from_residual-in_err-count.ensures.1 in
    let k = c.args.k.now in
    let ds = c.defs_and_steps.result.0.now in
    let ss = c.defs_and_steps.result.1.now in
    let order = fit_ordered g.in_force k c.args.marks.now c.args.end.now c.requires.1 in
    let places = fit_placed g.in_force k c.args.marks.now c.args.end.now ds ss c.requires.1 c.defs_and_steps.ensures.run in
    let first = first_written _ _ k ds ss c.args.marks.now c.args.end.now _ c.in_ok-from_str.ensures.ok c.in_ok-write_line.ensures.ok order places in
    rw (p.1, p.2) (record {
      ok = tt;
      err = record { defs = ds; steps = ss; run = c.defs_and_steps.ensures.run; gained = front _ _ _ _ _ _ _ first c.in_err-count.ensures.err };
      fault = same_fault ℕ (Unit {0}) _ _ _ _ c.write_line.ensures.counted c.in_err-count.ensures.fault;
    })

pub returns-in_err-last_line : goal.returns-in_err-last_line
returns-in_err-last_line g c =
    let p = err_from_is_err_and c.from_residual-in_err-last_line.result c.from_residual-in_err-last_line.ensures.1 in
    let k = c.args.k.now in
    let ds = c.defs_and_steps.result.0.now in
    let ss = c.defs_and_steps.result.1.now in
    let order = fit_ordered g.in_force k c.args.marks.now c.args.end.now c.requires.1 in
    let places = fit_placed g.in_force k c.args.marks.now c.args.end.now ds ss c.requires.1 c.defs_and_steps.ensures.run in
    let first = first_written _ _ k ds ss c.args.marks.now c.args.end.now _ c.in_ok-from_str.ensures.ok c.in_ok-write_line.ensures.ok order places in
    let there = advance _ _ _ _ _ _ _ _ _ first c.in_ok-count.ensures.ok c.in_ok-count.ensures.count refl in
    rw (p.1, p.2) (record { ok = tt; err = record { defs = ds; steps = ss; run = c.defs_and_steps.ensures.run; gained = stopped _ _ _ _ _ there }; fault = tt })

pub returns-clause-ok : goal.returns-clause-ok
returns-clause-ok g c =
    let k = c.args.k.now in
    let ds = c.defs_and_steps.result.0.now in
    let ss = c.defs_and_steps.result.1.now in
    let order = fit_ordered g.in_force k c.args.marks.now c.args.end.now c.requires.1 in
    let places = fit_placed g.in_force k c.args.marks.now c.args.end.now ds ss c.requires.1 c.defs_and_steps.ensures.run in
    let first = first_written _ _ k ds ss c.args.marks.now c.args.end.now _ c.in_ok-from_str.ensures.ok c.in_ok-write_line.ensures.ok order places in
    let there = advance _ _ _ _ _ _ _ _ _ first c.in_ok-count.ensures.ok c.in_ok-count.ensures.count refl in
    let count = counted_whole _ k ds ss c.args.marks.now order places c.in_ok-count.ensures.count in
    on_ok_weaker c.write_line-2.result
    (λ w. gains_log g.in_force k c.args.marks.now c.args.end.now _ _ ds ss c.requires.1 c.defs_and_steps.ensures.run (last_written _ _ _ _ _ k ds ss c.args.marks.now c.args.end.now _ there count c.in_ok-last_line.ensures w)) c.write_line-2.ensures.ok

pub returns-clause-err : goal.returns-clause-err
returns-clause-err g c =
    let k = c.args.k.now in
    let ds = c.defs_and_steps.result.0.now in
    let ss = c.defs_and_steps.result.1.now in
    let order = fit_ordered g.in_force k c.args.marks.now c.args.end.now c.requires.1 in
    let places = fit_placed g.in_force k c.args.marks.now c.args.end.now ds ss c.requires.1 c.defs_and_steps.ensures.run in
    let first = first_written _ _ k ds ss c.args.marks.now c.args.end.now _ c.in_ok-from_str.ensures.ok c.in_ok-write_line.ensures.ok order places in
    let there = advance _ _ _ _ _ _ _ _ _ first c.in_ok-count.ensures.ok c.in_ok-count.ensures.count refl in
    let count = counted_whole _ k ds ss c.args.marks.now order places c.in_ok-count.ensures.count in
    on_err_weaker c.write_line-2.result
    (λ f. record { defs = ds; steps = ss; run = c.defs_and_steps.ensures.run; gained = last_front _ _ _ _ _ k ds ss c.args.marks.now c.args.end.now _ there count c.in_ok-last_line.ensures f }) c.write_line-2.ensures.err

pub returns-clause-fault : goal.returns-clause-fault
returns-clause-fault g c =
    let low : g.O.Sink.faults c.args.out.now ≤ g.O.Sink.faults c.write_marked.new.out = omega (arith, c.write_line.ensures.counted, c.write_marked.ensures.counted) in
    later_fault (Unit {0}) c.write_line-2.result _ _ _ low c.write_line-2.ensures.fault
