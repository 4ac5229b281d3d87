use Rattle.std.proofs.Common.{◌+◌, List, sym, ap, subst, ◌∙◌, true≢false}
use Rattle.flat_terms.specs.declared.nodes.TermId.{TermId}
use Rattle.flat_rules.proofs.Numbers.{has_at}
use Rattle.flat_rules.proofs.Placing.{IsLeaving, leave_out, leave_in}
use Rattle.flat_rules.proofs.hypotheses.without_term.Goals.{then-not-same_term+in_ok-push, else-not-same_term}
use Rattle.flat_rules.proofs.hypotheses.without_term.Goals as goal

pub same_term-requires-clause-b : goal.same_term-requires-clause-b
same_term-requires-clause-b c = has_at c.args.tables.now c.args.hyps.now c.loop-hyp.hyp-index _ c.requires.hyps c.loop-hyp-test.true

pub loop-hyp-preserved : goal.loop-hyp-preserved
loop-hyp-preserved c =
    let hyp_has = has_at c.args.tables.now c.args.hyps.now c.loop-hyp.hyp-index (record { 0 = 0 }) c.requires.hyps c.loop-hyp-test.true in
    elim c.if-not-same_term.branch [
      | then-not-same_term+in_ok-push w ↦
          let kept = leave_in c.args.tables.now c.args.term c.args.hyps.now c.loop-hyp.left.items c.loop-hyp.hyp-index (record { 0 = 0 }) c.loop-hyp-test.true hyp_has c.loop-hyp.invariant (λ e. true≢false (sym (c.same_term.ensures.1 e) ∙ w.if-not-same_term.true)) in
          subst (λ (l : List TermId). IsLeaving c.args.tables.now c.args.term c.args.hyps.now l (c.loop-hyp.hyp-index + 1)) (sym (ap (λ v. v.items) w.left-is ∙ w.in_ok-push.ensures.items)) kept
      | else-not-same_term w ↦
          let kept = leave_out c.args.tables.now c.args.term c.args.hyps.now c.loop-hyp.left.items c.loop-hyp.hyp-index (record { 0 = 0 }) c.loop-hyp-test.true c.loop-hyp.invariant (c.same_term.ensures.0 w.if-not-same_term.false) in
          subst (λ (l : List TermId). IsLeaving c.args.tables.now c.args.term c.args.hyps.now l (c.loop-hyp.hyp-index + 1)) (sym (ap (λ v. v.items) w.left-is)) kept
    ]
