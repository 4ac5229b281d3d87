use Rattle.library_steps.proofs.Taken.{rules_kept}
use Rattle.library_tests.proofs.library.first.Goals as goal

pub returns-clause-rules : goal.returns-clause-rules
returns-clause-rules c = rules_kept c.in_ok-rules.ensures.rules c.build.ensures.keeps
