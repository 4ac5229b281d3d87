use Rattle.std.proofs.Common.{subst, List}
use Rattle.std.proofs.lemmas.Result.{on_ok_weaker, on_err_weaker}
use Rattle.proof_log.specs.declared.marks.Mark.{Mark}
use Rattle.proof_log.specs.Gained.{GainsLog, GainsFront}
use Rattle.base_count.specs.InForce.{in_force}
use Rattle.theory_answers.proofs.Telling.{gains_log_of, gains_part_of}
use Rattle.theory_answers.proofs.theory.Theory.write_log.Goals as goal

pub returns-clause-ok : goal.returns-clause-ok
returns-clause-ok g c = λ b h.
    let theory = c.args.self.now in
    let old = g.O.Sink.kept c.args.out.now in
    let new = g.O.Sink.kept c.write_log.new.out in
    on_ok_weaker c.write_log.result (λ w. gains_log_of b theory old new h (subst (λ (ms : List Mark). GainsLog in_force theory.kernel ms theory.end old new) c.deref.ensures.value w)) c.write_log.ensures.ok

pub returns-clause-err : goal.returns-clause-err
returns-clause-err g c = λ b h.
    let theory = c.args.self.now in
    let old = g.O.Sink.kept c.args.out.now in
    let new = g.O.Sink.kept c.write_log.new.out in
    on_err_weaker c.write_log.result (λ w. gains_part_of b theory old new h (subst (λ (ms : List Mark). GainsFront theory.kernel ms theory.end old new) c.deref.ensures.value w)) c.write_log.ensures.err
