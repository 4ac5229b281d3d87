use Rattle.std.proofs.Common.{refl, ap, ◌∙◌}
use Rattle.std.proofs.lemmas.List.{take_all}
use Rattle.library_steps.specs.Building.{facts_on, made, proved}
use Rattle.library_steps.proofs.Defined.{keeps_itself, keeps_on}
use Rattle.library_steps.proofs.Taken.{rules_kept, next_fits, defs_next, facts_next, extends_itself, extends_on}
use Rattle.library_steps.proofs.building.take_steps.Goals as goal

pub loop-i-init : goal.loop-i-init
loop-i-init c = record { defs = refl; facts = refl; shelf = c.requires.shelf; more = extends_itself _; keeps = keeps_itself _ }

pub take_step-requires-clause-rules : goal.take_step-requires-clause-rules
take_step-requires-clause-rules c = rules_kept c.requires.rules c.loop-i.invariant.keeps

pub take_step-requires-clause-shelf : goal.take_step-requires-clause-shelf
take_step-requires-clause-shelf c = c.loop-i.invariant.shelf

pub take_step-requires-clause-fits : goal.take_step-requires-clause-fits
take_step-requires-clause-fits c =
    next_fits _ _ _ _ c.args.steps.now c.loop-i.i _ c.requires.fit.all c.loop-i-test.true c.loop-i.invariant.defs c.loop-i.invariant.facts

pub returns-in_err-take_step-clause-shelf : goal.returns-in_err-take_step-clause-shelf
returns-in_err-take_step-clause-shelf c = c.take_step.ensures.shelf

pub returns-in_err-take_step-clause-more : goal.returns-in_err-take_step-clause-more
returns-in_err-take_step-clause-more c = extends_on _ _ _ c.loop-i.invariant.more c.take_step.ensures.more

pub returns-in_err-take_step-clause-keeps : goal.returns-in_err-take_step-clause-keeps
returns-in_err-take_step-clause-keeps c = keeps_on _ _ _ c.loop-i.invariant.keeps c.take_step.ensures.keeps

pub loop-i-preserved : goal.loop-i-preserved
loop-i-preserved c = record {
  defs = defs_next _ _ _ c.args.steps.now c.loop-i.i _ c.loop-i-test.true c.loop-i.invariant.defs c.in_ok-take_step.ensures.defs;
  facts = facts_next _ _ _ c.args.steps.now c.loop-i.i _ c.loop-i-test.true c.loop-i.invariant.facts c.in_ok-take_step.ensures.facts;
  shelf = c.take_step.ensures.shelf;
  more = extends_on _ _ _ c.loop-i.invariant.more c.take_step.ensures.more;
  keeps = keeps_on _ _ _ c.loop-i.invariant.keeps c.take_step.ensures.keeps;
}

pub returns-clause-shelf : goal.returns-clause-shelf
returns-clause-shelf c = c.loop-i.invariant.shelf

pub returns-clause-more : goal.returns-clause-more
returns-clause-more c = c.loop-i.invariant.more

pub returns-clause-keeps : goal.returns-clause-keeps
returns-clause-keeps c = c.loop-i.invariant.keeps

pub returns-clause-defs : goal.returns-clause-defs
returns-clause-defs c = record { is = c.loop-i.invariant.defs ∙ ap (made c.args.k.now.defs) (take_all _ _ c.loop-i-test.false) }

pub returns-clause-facts : goal.returns-clause-facts
returns-clause-facts c = record { is = c.loop-i.invariant.facts ∙ ap (proved (facts_on c.args.s.now)) (take_all _ _ c.loop-i-test.false) }
