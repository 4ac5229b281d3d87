use Rattle.std.proofs.Common.{ap, ◌∙◌}
use Rattle.hol_terms.specs.Tm.{tm_comb}
use Rattle.hol_terms.specs.Sequent.{Sequent, seq}
use Rattle.hol_terms.specs.Rules.{lambda, without}
use Rattle.hol_terms.specs.Logic.{const_all}
use Rattle.hol_conv.specs.Reduction.{reduct}
use Rattle.nd_rules.proofs.BinderLemmas.{each_is}
use Rattle.nd_rules.proofs.rules.Rules.each.Goals as goal

pub returns-clause-exact : goal.returns-clause-exact
returns-clause-exact c =
    let v = c.args.v.now in
    c.in_ok-th.ensures.exact
    ∙ (ap (λ (s : Sequent). seq s.hyps (tm_comb (const_all v.ty) (lambda v s.concl))) c.in_ok-implied.ensures.exact
    ∙ ap (seq (without (reduct c.args.p.now c.args.x.now) c.args.b.now.sequent.hyps))
    (each_is v c.args.x.now c.args.p.now c.conclusion-q.result.now c.args.b.now.sequent.concl c.requires.variable c.conclusion-q.ensures.value c.requires.not_in_p c.requires.not_in_q))
