use Rattle.std.proofs.Common.{◌-◌, subst}
use Rattle.hol_conv.specs.Conv.{IsStepOn, HasIt}
use Rattle.hol_conv.proofs.RuleLemmas.{grows_on}
use Rattle.hol_conv.proofs.NormLemmas.{reach_on, reach_none}
use Rattle.hol_conv.proofs.beta.beta_norm.Goals as goal

pub returns-in_err-next-clause-grows : goal.returns-in_err-next-clause-grows
returns-in_err-next-clause-grows c = grows_on c.loop.invariant.2 c.step_on.ensures.grows

pub returns-in-None-clause-exact : goal.returns-in-None-clause-exact
returns-in-None-clause-exact c =
    reach_none c.args.t.now c.args.fuel (c.args.fuel - c.loop.counter) c.loop.th c.loop.invariant.0 (subst (IsStepOn c.loop.th) c.in-None.is c.in_ok-next.ensures.exact)

pub returns-in-None-clause-grows : goal.returns-in-None-clause-grows
returns-in-None-clause-grows c = grows_on c.loop.invariant.2 c.step_on.ensures.grows

pub loop-preserved : goal.loop-preserved
loop-preserved c = (
  reach_on c.args.t.now c.args.fuel c.loop.counter c.loop.th c.in-Some.next c.loop-test.true c.loop.invariant.0 (subst (IsStepOn c.loop.th) c.in-Some.is c.in_ok-next.ensures.exact),
  subst (HasIt c.step_on.new.k) c.in-Some.is c.in_ok-next.ensures.has,
  grows_on c.loop.invariant.2 c.step_on.ensures.grows,
)
