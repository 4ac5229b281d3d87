use Rattle.library_steps.proofs.Taken.{rules_kept, all_more}
use Rattle.library_tests.proofs.library.with_numbers.Goals as goal

pub returns-clause-rules : goal.returns-clause-rules
returns-clause-rules c = rules_kept c.in_ok-kernel.ensures.rules c.build.ensures.keeps

pub returns-clause-base_facts : goal.returns-clause-base_facts
returns-clause-base_facts c = all_more _ _ _ c.in_ok-kernel.ensures.base_facts c.build.ensures.more
