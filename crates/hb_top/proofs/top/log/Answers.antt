use Rattle.std.proofs.Common.{subst, arith}
use Rattle.hol_terms.specs.Text.{Text}
use Rattle.theory_answers.specs.Theories.{is_stop, IsTheory}
use Rattle.hb_top.proofs.Running.{run_logs, log_decides, log_leaves, log_parts, log_good, unwritten_log, unwritten_good}
use Rattle.hb_top.proofs.top.log.Goals as goal

pub returns-clause-log : goal.returns-clause-log
returns-clause-log g c =
    let e = c.in-Ok.ensures in
    let t = c.in-Ok-logged.theory in
    let theory : IsTheory c.in-Ok.input.items t = subst (λ (b : Text). IsTheory b t) c.deref.ensures.value c.in-Ok-logged.ensures in
    run_logs c.write.result (g.O.Sink.kept c.args.out.now) (g.O.Sink.kept c.write.new.out) (is_stop t.end) (record { taken = e.taken; within = e.within; whole = λ h. e.whole (omega arith) }) (c.write.ensures.written c.in-Ok.input.items theory)

pub returns-clause-decided : goal.returns-clause-decided
returns-clause-decided g c =
    let e = c.in-Ok.ensures in
    let t = c.in-Ok-logged.theory in
    let theory : IsTheory c.in-Ok.input.items t = subst (λ (b : Text). IsTheory b t) c.deref.ensures.value c.in-Ok-logged.ensures in
    log_decides c.write.result (g.O.Sink.kept c.args.out.now) (g.O.Sink.kept c.write.new.out) (is_stop t.end) (record { taken = e.taken; within = e.within; whole = λ h. e.whole (omega arith) }) (c.write.ensures.written c.in-Ok.input.items theory)

pub returns-clause-left : goal.returns-clause-left
returns-clause-left g c =
    let e = c.in-Ok.ensures in
    let t = c.in-Ok-logged.theory in
    let theory : IsTheory c.in-Ok.input.items t = subst (λ (b : Text). IsTheory b t) c.deref.ensures.value c.in-Ok-logged.ensures in
    log_leaves c.write.result (g.O.Sink.kept c.args.out.now) (g.O.Sink.kept c.write.new.out) (is_stop t.end) (record { taken = e.taken; within = e.within; whole = λ h. e.whole (omega arith) }) (c.write.ensures.written c.in-Ok.input.items theory)

pub returns-clause-log_cut : goal.returns-clause-log_cut
returns-clause-log_cut g c =
    let e = c.in-Ok.ensures in
    let t = c.in-Ok-logged.theory in
    let theory : IsTheory c.in-Ok.input.items t = subst (λ (b : Text). IsTheory b t) c.deref.ensures.value c.in-Ok-logged.ensures in
    log_parts c.write.result (g.O.Sink.kept c.args.out.now) (g.O.Sink.kept c.write.new.out) (is_stop t.end) (record { taken = e.taken; within = e.within; whole = λ h. e.whole (omega arith) }) c.write.ensures.status (c.write.ensures.written c.in-Ok.input.items theory) (c.write.ensures.cut c.in-Ok.input.items theory)

pub returns-clause-log_sound : goal.returns-clause-log_sound
returns-clause-log_sound g c =
    let t = c.in-Ok-logged.theory in
    let theory : IsTheory c.in-Ok.input.items t = subst (λ (b : Text). IsTheory b t) c.deref.ensures.value c.in-Ok-logged.ensures in
    log_good c.write.result (g.O.Sink.kept c.args.out.now) (g.O.Sink.kept c.write.new.out) c.in-Ok.input.items (is_stop t.end) c.write.ensures.status (c.write.ensures.written c.in-Ok.input.items theory) (c.write.ensures.cut c.in-Ok.input.items theory)

pub returns-in-Err-Fault-clause-log_cut : goal.returns-in-Err-Fault-clause-log_cut
returns-in-Err-Fault-clause-log_cut g c = unwritten_log (g.S.Source.left c.args.src.now) (g.O.Sink.kept c.args.out.now)

pub returns-in-Err-Memory-clause-log_cut : goal.returns-in-Err-Memory-clause-log_cut
returns-in-Err-Memory-clause-log_cut g c = unwritten_log (g.S.Source.left c.args.src.now) (g.O.Sink.kept c.args.out.now)

pub returns-in_default-clause-log_cut : goal.returns-in_default-clause-log_cut
returns-in_default-clause-log_cut g c = unwritten_log (g.S.Source.left c.args.src.now) (g.O.Sink.kept c.args.out.now)

pub returns-in-Err-Fault-clause-log_sound : goal.returns-in-Err-Fault-clause-log_sound
returns-in-Err-Fault-clause-log_sound g c = unwritten_good (g.O.Sink.kept c.args.out.now)

pub returns-in-Err-Memory-clause-log_sound : goal.returns-in-Err-Memory-clause-log_sound
returns-in-Err-Memory-clause-log_sound g c = unwritten_good (g.O.Sink.kept c.args.out.now)

pub returns-in_default-clause-log_sound : goal.returns-in_default-clause-log_sound
returns-in_default-clause-log_sound g c = unwritten_good (g.O.Sink.kept c.args.out.now)
