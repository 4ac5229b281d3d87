use Rattle.std.proofs.Common.{subst, string_bytes, arith}
use Rattle.hol_terms.specs.Text.{Text}
use Rattle.theory_answers.specs.Answered.{IsCheck}
use Rattle.hb_top.proofs.Running.{run_checks, run_decides, run_leaves, run_cut, run_sound}
use Rattle.hb_top.proofs.top.check.Goals as goal

pub returns-clause-check : goal.returns-clause-check
returns-clause-check g c =
    let e = c.in-Ok.ensures in
    let out = string_bytes c.in-Ok-checked.output.text in
    run_checks c.print.result (g.O.Sink.kept c.args.out.now) (g.O.Sink.kept c.print.new.out) (record {
      taken = e.taken;
      within = e.within;
      whole = λ h. e.whole (omega arith);
      output = subst (λ (b : Text). IsCheck b out c.in-Ok-checked.output.refused) c.deref.ensures.value c.in-Ok-checked.ensures;
    }) c.print.ensures.written

pub returns-clause-decided : goal.returns-clause-decided
returns-clause-decided g c =
    let e = c.in-Ok.ensures in
    let out = string_bytes c.in-Ok-checked.output.text in
    run_decides c.print.result (g.O.Sink.kept c.args.out.now) (g.O.Sink.kept c.print.new.out) (record {
      taken = e.taken;
      within = e.within;
      whole = λ h. e.whole (omega arith);
      output = subst (λ (b : Text). IsCheck b out c.in-Ok-checked.output.refused) c.deref.ensures.value c.in-Ok-checked.ensures;
    }) c.print.ensures.written

pub returns-clause-left : goal.returns-clause-left
returns-clause-left g c =
    let e = c.in-Ok.ensures in
    let out = string_bytes c.in-Ok-checked.output.text in
    run_leaves c.print.result (g.O.Sink.kept c.args.out.now) (g.O.Sink.kept c.print.new.out) (record {
      taken = e.taken;
      within = e.within;
      whole = λ h. e.whole (omega arith);
      output = subst (λ (b : Text). IsCheck b out c.in-Ok-checked.output.refused) c.deref.ensures.value c.in-Ok-checked.ensures;
    }) c.print.ensures.written

pub returns-clause-cut : goal.returns-clause-cut
returns-clause-cut g c =
    let e = c.in-Ok.ensures in
    let out = string_bytes c.in-Ok-checked.output.text in
    run_cut c.print.result (g.O.Sink.kept c.args.out.now) (g.O.Sink.kept c.print.new.out) (record {
      taken = e.taken;
      within = e.within;
      whole = λ h. e.whole (omega arith);
      output = subst (λ (b : Text). IsCheck b out c.in-Ok-checked.output.refused) c.deref.ensures.value c.in-Ok-checked.ensures;
    }) c.print.ensures.status c.print.ensures.cut

pub returns-clause-sound : goal.returns-clause-sound
returns-clause-sound g c = run_sound c.print.result (g.O.Sink.kept c.args.out.now) (g.O.Sink.kept c.print.new.out) c.in-Ok-checked.ensures c.print.ensures.status c.print.ensures.written c.print.ensures.cut
