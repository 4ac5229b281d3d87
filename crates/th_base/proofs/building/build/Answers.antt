use Rattle.library_steps.proofs.Defined.{keeps_on}
use Rattle.library_steps.proofs.Taken.{rules_kept, all_more, extends_on, both_on}
use Rattle.th_base.proofs.building.build.Goals as goal

pub build_logic-requires-clause-rules : goal.build_logic-requires-clause-rules
build_logic-requires-clause-rules c = c.requires.rules

pub build_logic-requires-clause-defs : goal.build_logic-requires-clause-defs
build_logic-requires-clause-defs c = c.requires.defs

pub build_logic-requires-clause-shelf : goal.build_logic-requires-clause-shelf
build_logic-requires-clause-shelf c = c.requires.shelf

pub build_products-requires-clause-rules : goal.build_products-requires-clause-rules
build_products-requires-clause-rules c = rules_kept c.requires.rules c.build_logic.ensures.keeps

pub build_products-requires-clause-defs : goal.build_products-requires-clause-defs
build_products-requires-clause-defs c = c.in_ok-build_logic.ensures.defs

pub build_products-requires-clause-logic_facts : goal.build_products-requires-clause-logic_facts
build_products-requires-clause-logic_facts c = c.in_ok-build_logic.ensures.logic_facts

pub build_products-requires-clause-shelf : goal.build_products-requires-clause-shelf
build_products-requires-clause-shelf c = c.build_logic.ensures.shelf

pub build_sums-requires-clause-rules : goal.build_sums-requires-clause-rules
build_sums-requires-clause-rules c = rules_kept (rules_kept c.requires.rules c.build_logic.ensures.keeps) c.build_products.ensures.keeps

pub build_sums-requires-clause-defs : goal.build_sums-requires-clause-defs
build_sums-requires-clause-defs c = c.in_ok-build_products.ensures.defs

pub build_sums-requires-clause-logic_facts : goal.build_sums-requires-clause-logic_facts
build_sums-requires-clause-logic_facts c = all_more _ _ _ c.in_ok-build_logic.ensures.logic_facts c.build_products.ensures.more

pub build_sums-requires-clause-product_facts : goal.build_sums-requires-clause-product_facts
build_sums-requires-clause-product_facts c = c.in_ok-build_products.ensures.product_facts

pub build_sums-requires-clause-shelf : goal.build_sums-requires-clause-shelf
build_sums-requires-clause-shelf c = c.build_products.ensures.shelf

pub returns-clause-defs : goal.returns-clause-defs
returns-clause-defs c = c.in_ok-build_sums.ensures.defs

pub returns-clause-base_facts : goal.returns-clause-base_facts
returns-clause-base_facts c = both_on (all_more _ _ _ (all_more _ _ _ c.in_ok-build_logic.ensures.logic_facts c.build_products.ensures.more) c.build_sums.ensures.more) (both_on (all_more _ _ _ c.in_ok-build_products.ensures.product_facts c.build_sums.ensures.more) c.in_ok-build_sums.ensures.sum_facts)

pub returns-clause-shelf : goal.returns-clause-shelf
returns-clause-shelf c = c.build_sums.ensures.shelf

pub returns-clause-more : goal.returns-clause-more
returns-clause-more c = extends_on _ _ _ (extends_on _ _ _ c.build_logic.ensures.more c.build_products.ensures.more) c.build_sums.ensures.more

pub returns-clause-keeps : goal.returns-clause-keeps
returns-clause-keeps c = keeps_on _ _ _ (keeps_on _ _ _ c.build_logic.ensures.keeps c.build_products.ensures.keeps) c.build_sums.ensures.keeps

pub returns-in_err-build_logic-clause-shelf : goal.returns-in_err-build_logic-clause-shelf
returns-in_err-build_logic-clause-shelf c = c.build_logic.ensures.shelf

pub returns-in_err-build_logic-clause-more : goal.returns-in_err-build_logic-clause-more
returns-in_err-build_logic-clause-more c = c.build_logic.ensures.more

pub returns-in_err-build_logic-clause-keeps : goal.returns-in_err-build_logic-clause-keeps
returns-in_err-build_logic-clause-keeps c = c.build_logic.ensures.keeps

pub returns-in_err-build_products-clause-shelf : goal.returns-in_err-build_products-clause-shelf
returns-in_err-build_products-clause-shelf c = c.build_products.ensures.shelf

pub returns-in_err-build_products-clause-more : goal.returns-in_err-build_products-clause-more
returns-in_err-build_products-clause-more c = extends_on _ _ _ c.build_logic.ensures.more c.build_products.ensures.more

pub returns-in_err-build_products-clause-keeps : goal.returns-in_err-build_products-clause-keeps
returns-in_err-build_products-clause-keeps c = keeps_on _ _ _ c.build_logic.ensures.keeps c.build_products.ensures.keeps

pub returns-in_err-build_sums-clause-shelf : goal.returns-in_err-build_sums-clause-shelf
returns-in_err-build_sums-clause-shelf c = c.build_sums.ensures.shelf

pub returns-in_err-build_sums-clause-more : goal.returns-in_err-build_sums-clause-more
returns-in_err-build_sums-clause-more c = extends_on _ _ _ (extends_on _ _ _ c.build_logic.ensures.more c.build_products.ensures.more) c.build_sums.ensures.more

pub returns-in_err-build_sums-clause-keeps : goal.returns-in_err-build_sums-clause-keeps
returns-in_err-build_sums-clause-keeps c = keeps_on _ _ _ (keeps_on _ _ _ c.build_logic.ensures.keeps c.build_products.ensures.keeps) c.build_sums.ensures.keeps
