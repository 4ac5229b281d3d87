use Rattle.std.proofs.Common.{◌∙◌, refl, sym, ap}
use Rattle.hol_terms.specs.Tm.{tm_free}
use Rattle.hol_terms.specs.Rules.{assume_rule}
use Rattle.hol_kernel.proofs.Textbook.{assume_gives}
use Rattle.hol_kernel.proofs.Guards.{some_is}
use Rattle.script_tests.specs.Closed.{variable}
use Rattle.script_tests.proofs.GivenValues.{over}
use Rattle.script_tests.proofs.given.assumed.Goals as goal

pub assume-requires-clause-over : goal.assume-requires-clause-over
assume-requires-clause-over c = rw c.requires.p (over c.args.k.now.defs)

pub assume-requires-clause-fits : goal.assume-requires-clause-fits
assume-requires-clause-fits c = rw (c.requires.p, assume_gives (tm_free variable) refl) refl

pub returns-clause-exact : goal.returns-clause-exact
returns-clause-exact c =
    sym (some_is _ _ (sym (assume_gives (tm_free variable) refl) ∙ (ap assume_rule (sym c.requires.p) ∙ c.in_ok-th.ensures.exact)))

pub returns-clause-has : goal.returns-clause-has
returns-clause-has c = c.in_ok-th.ensures.has

pub returns-clause-defs : goal.returns-clause-defs
returns-clause-defs c = c.in_ok-th.ensures.grows.defs ∙ c.requires.defs
