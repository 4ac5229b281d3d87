use Rattle.std.proofs.Common.{Some, ap, ◌∙◌, subst}
use Rattle.hol_terms.specs.Sequent.{argument}
use Rattle.hol_conv.specs.Conv.{IsContraction}
use Rattle.hol_conv.proofs.RuleLemmas.{grows_on}
use Rattle.hol_conv.proofs.NormLemmas.{right_over, on_fits, steps_on}
use Rattle.hol_conv.proofs.beta.step_on.Goals as goal

pub contract-requires : goal.contract-requires
contract-requires c = record {
  over = right_over c.args.k.now c.args.a.now c.right.result.now c.requires.has_a c.concl.ensures.derivable c.requires.plain (c.right.ensures ∙ ap argument c.concl.ensures.value);
}

pub trans-requires-clause-fits : goal.trans-requires-clause-fits
trans-requires-clause-fits c =
    on_fits c.args.a.now c.in-Some.next c.requires.plain
    (subst (λ t. IsContraction t (Some c.in-Some.next)) (c.right.ensures ∙ ap argument c.concl.ensures.value) (subst (IsContraction c.right.result.now) c.in-Some.is c.in_ok-next.ensures.exact))

pub returns-clause-exact : goal.returns-clause-exact
returns-clause-exact c =
    steps_on c.args.a.now c.in-Some.next c.in_ok-th.th c.requires.plain
    (subst (λ t. IsContraction t (Some c.in-Some.next)) (c.right.ensures ∙ ap argument c.concl.ensures.value) (subst (IsContraction c.right.result.now) c.in-Some.is c.in_ok-next.ensures.exact))
    c.in_ok-th.ensures.exact

pub returns-clause-grows : goal.returns-clause-grows
returns-clause-grows c = grows_on c.contract.ensures.grows c.trans.ensures.grows
