use Rattle.library_steps.proofs.Defined.{keeps_on}
use Rattle.library_steps.proofs.Taken.{rules_kept, all_more, extends_on, both_on}
use Rattle.th_num.proofs.building.build.Goals as goal

pub build_numbers-requires-clause-rules : goal.build_numbers-requires-clause-rules
build_numbers-requires-clause-rules c = c.requires.rules

pub build_numbers-requires-clause-defs : goal.build_numbers-requires-clause-defs
build_numbers-requires-clause-defs c = c.requires.defs

pub build_numbers-requires-clause-base_facts : goal.build_numbers-requires-clause-base_facts
build_numbers-requires-clause-base_facts c = c.requires.base_facts

pub build_numbers-requires-clause-shelf : goal.build_numbers-requires-clause-shelf
build_numbers-requires-clause-shelf c = c.requires.shelf

pub build_graphs-requires-clause-rules : goal.build_graphs-requires-clause-rules
build_graphs-requires-clause-rules c = rules_kept c.requires.rules c.build_numbers.ensures.keeps

pub build_graphs-requires-clause-defs : goal.build_graphs-requires-clause-defs
build_graphs-requires-clause-defs c = c.in_ok-build_numbers.ensures.defs

pub build_graphs-requires-clause-base_facts : goal.build_graphs-requires-clause-base_facts
build_graphs-requires-clause-base_facts c = all_more _ _ _ c.requires.base_facts c.build_numbers.ensures.more

pub build_graphs-requires-clause-number_facts : goal.build_graphs-requires-clause-number_facts
build_graphs-requires-clause-number_facts c = c.in_ok-build_numbers.ensures.number_facts

pub build_graphs-requires-clause-shelf : goal.build_graphs-requires-clause-shelf
build_graphs-requires-clause-shelf c = c.build_numbers.ensures.shelf

pub build_recursion-requires-clause-rules : goal.build_recursion-requires-clause-rules
build_recursion-requires-clause-rules c = rules_kept (rules_kept c.requires.rules c.build_numbers.ensures.keeps) c.build_graphs.ensures.keeps

pub build_recursion-requires-clause-defs : goal.build_recursion-requires-clause-defs
build_recursion-requires-clause-defs c = c.in_ok-build_graphs.ensures.defs

pub build_recursion-requires-clause-base_facts : goal.build_recursion-requires-clause-base_facts
build_recursion-requires-clause-base_facts c = all_more _ _ _ (all_more _ _ _ c.requires.base_facts c.build_numbers.ensures.more) c.build_graphs.ensures.more

pub build_recursion-requires-clause-number_facts : goal.build_recursion-requires-clause-number_facts
build_recursion-requires-clause-number_facts c = all_more _ _ _ c.in_ok-build_numbers.ensures.number_facts c.build_graphs.ensures.more

pub build_recursion-requires-clause-graph_facts : goal.build_recursion-requires-clause-graph_facts
build_recursion-requires-clause-graph_facts c = c.in_ok-build_graphs.ensures.graph_facts

pub build_recursion-requires-clause-shelf : goal.build_recursion-requires-clause-shelf
build_recursion-requires-clause-shelf c = c.build_graphs.ensures.shelf

pub build_order-requires-clause-rules : goal.build_order-requires-clause-rules
build_order-requires-clause-rules c = rules_kept (rules_kept (rules_kept c.requires.rules c.build_numbers.ensures.keeps) c.build_graphs.ensures.keeps) c.build_recursion.ensures.keeps

pub build_order-requires-clause-defs : goal.build_order-requires-clause-defs
build_order-requires-clause-defs c = c.in_ok-build_recursion.ensures.defs

pub build_order-requires-clause-base_facts : goal.build_order-requires-clause-base_facts
build_order-requires-clause-base_facts c = all_more _ _ _ (all_more _ _ _ (all_more _ _ _ c.requires.base_facts c.build_numbers.ensures.more) c.build_graphs.ensures.more) c.build_recursion.ensures.more

pub build_order-requires-clause-number_facts : goal.build_order-requires-clause-number_facts
build_order-requires-clause-number_facts c = all_more _ _ _ (all_more _ _ _ c.in_ok-build_numbers.ensures.number_facts c.build_graphs.ensures.more) c.build_recursion.ensures.more

pub build_order-requires-clause-graph_facts : goal.build_order-requires-clause-graph_facts
build_order-requires-clause-graph_facts c = all_more _ _ _ c.in_ok-build_graphs.ensures.graph_facts c.build_recursion.ensures.more

pub build_order-requires-clause-recursion_facts : goal.build_order-requires-clause-recursion_facts
build_order-requires-clause-recursion_facts c = c.in_ok-build_recursion.ensures.recursion_facts

pub build_order-requires-clause-shelf : goal.build_order-requires-clause-shelf
build_order-requires-clause-shelf c = c.build_recursion.ensures.shelf

pub build_doubling-requires-clause-rules : goal.build_doubling-requires-clause-rules
build_doubling-requires-clause-rules c = rules_kept (rules_kept (rules_kept (rules_kept c.requires.rules c.build_numbers.ensures.keeps) c.build_graphs.ensures.keeps) c.build_recursion.ensures.keeps) c.build_order.ensures.keeps

pub build_doubling-requires-clause-defs : goal.build_doubling-requires-clause-defs
build_doubling-requires-clause-defs c = c.in_ok-build_order.ensures.defs

pub build_doubling-requires-clause-base_facts : goal.build_doubling-requires-clause-base_facts
build_doubling-requires-clause-base_facts c = all_more _ _ _ (all_more _ _ _ (all_more _ _ _ (all_more _ _ _ c.requires.base_facts c.build_numbers.ensures.more) c.build_graphs.ensures.more) c.build_recursion.ensures.more) c.build_order.ensures.more

pub build_doubling-requires-clause-number_facts : goal.build_doubling-requires-clause-number_facts
build_doubling-requires-clause-number_facts c = all_more _ _ _ (all_more _ _ _ (all_more _ _ _ c.in_ok-build_numbers.ensures.number_facts c.build_graphs.ensures.more) c.build_recursion.ensures.more) c.build_order.ensures.more

pub build_doubling-requires-clause-graph_facts : goal.build_doubling-requires-clause-graph_facts
build_doubling-requires-clause-graph_facts c = all_more _ _ _ (all_more _ _ _ c.in_ok-build_graphs.ensures.graph_facts c.build_recursion.ensures.more) c.build_order.ensures.more

pub build_doubling-requires-clause-recursion_facts : goal.build_doubling-requires-clause-recursion_facts
build_doubling-requires-clause-recursion_facts c = all_more _ _ _ c.in_ok-build_recursion.ensures.recursion_facts c.build_order.ensures.more

pub build_doubling-requires-clause-order_facts : goal.build_doubling-requires-clause-order_facts
build_doubling-requires-clause-order_facts c = c.in_ok-build_order.ensures.order_facts

pub build_doubling-requires-clause-shelf : goal.build_doubling-requires-clause-shelf
build_doubling-requires-clause-shelf c = c.build_order.ensures.shelf

pub build_paths-requires-clause-rules : goal.build_paths-requires-clause-rules
build_paths-requires-clause-rules c = rules_kept (rules_kept (rules_kept (rules_kept (rules_kept c.requires.rules c.build_numbers.ensures.keeps) c.build_graphs.ensures.keeps) c.build_recursion.ensures.keeps) c.build_order.ensures.keeps) c.build_doubling.ensures.keeps

pub build_paths-requires-clause-defs : goal.build_paths-requires-clause-defs
build_paths-requires-clause-defs c = c.in_ok-build_doubling.ensures.defs

pub build_paths-requires-clause-base_facts : goal.build_paths-requires-clause-base_facts
build_paths-requires-clause-base_facts c = all_more _ _ _ (all_more _ _ _ (all_more _ _ _ (all_more _ _ _ (all_more _ _ _ c.requires.base_facts c.build_numbers.ensures.more) c.build_graphs.ensures.more) c.build_recursion.ensures.more) c.build_order.ensures.more) c.build_doubling.ensures.more

pub build_paths-requires-clause-number_facts : goal.build_paths-requires-clause-number_facts
build_paths-requires-clause-number_facts c = all_more _ _ _ (all_more _ _ _ (all_more _ _ _ (all_more _ _ _ c.in_ok-build_numbers.ensures.number_facts c.build_graphs.ensures.more) c.build_recursion.ensures.more) c.build_order.ensures.more) c.build_doubling.ensures.more

pub build_paths-requires-clause-graph_facts : goal.build_paths-requires-clause-graph_facts
build_paths-requires-clause-graph_facts c = all_more _ _ _ (all_more _ _ _ (all_more _ _ _ c.in_ok-build_graphs.ensures.graph_facts c.build_recursion.ensures.more) c.build_order.ensures.more) c.build_doubling.ensures.more

pub build_paths-requires-clause-recursion_facts : goal.build_paths-requires-clause-recursion_facts
build_paths-requires-clause-recursion_facts c = all_more _ _ _ (all_more _ _ _ c.in_ok-build_recursion.ensures.recursion_facts c.build_order.ensures.more) c.build_doubling.ensures.more

pub build_paths-requires-clause-order_facts : goal.build_paths-requires-clause-order_facts
build_paths-requires-clause-order_facts c = all_more _ _ _ c.in_ok-build_order.ensures.order_facts c.build_doubling.ensures.more

pub build_paths-requires-clause-doubling_facts : goal.build_paths-requires-clause-doubling_facts
build_paths-requires-clause-doubling_facts c = c.in_ok-build_doubling.ensures.doubling_facts

pub build_paths-requires-clause-shelf : goal.build_paths-requires-clause-shelf
build_paths-requires-clause-shelf c = c.build_doubling.ensures.shelf

pub returns-clause-defs : goal.returns-clause-defs
returns-clause-defs c = c.in_ok-build_paths.ensures.defs

pub returns-clause-num_facts : goal.returns-clause-num_facts
returns-clause-num_facts c = both_on (all_more _ _ _ (all_more _ _ _ (all_more _ _ _ (all_more _ _ _ (all_more _ _ _ c.in_ok-build_numbers.ensures.number_facts c.build_graphs.ensures.more) c.build_recursion.ensures.more) c.build_order.ensures.more) c.build_doubling.ensures.more) c.build_paths.ensures.more) (both_on (all_more _ _ _ (all_more _ _ _ (all_more _ _ _ (all_more _ _ _ c.in_ok-build_graphs.ensures.graph_facts c.build_recursion.ensures.more) c.build_order.ensures.more) c.build_doubling.ensures.more) c.build_paths.ensures.more) (both_on (all_more _ _ _ (all_more _ _ _ (all_more _ _ _ c.in_ok-build_recursion.ensures.recursion_facts c.build_order.ensures.more) c.build_doubling.ensures.more) c.build_paths.ensures.more) (both_on (all_more _ _ _ (all_more _ _ _ c.in_ok-build_order.ensures.order_facts c.build_doubling.ensures.more) c.build_paths.ensures.more) (both_on (all_more _ _ _ c.in_ok-build_doubling.ensures.doubling_facts c.build_paths.ensures.more) c.in_ok-build_paths.ensures.path_facts))))

pub returns-clause-shelf : goal.returns-clause-shelf
returns-clause-shelf c = c.build_paths.ensures.shelf

pub returns-clause-more : goal.returns-clause-more
returns-clause-more c = extends_on _ _ _ (extends_on _ _ _ (extends_on _ _ _ (extends_on _ _ _ (extends_on _ _ _ c.build_numbers.ensures.more c.build_graphs.ensures.more) c.build_recursion.ensures.more) c.build_order.ensures.more) c.build_doubling.ensures.more) c.build_paths.ensures.more

pub returns-clause-keeps : goal.returns-clause-keeps
returns-clause-keeps c = keeps_on _ _ _ (keeps_on _ _ _ (keeps_on _ _ _ (keeps_on _ _ _ (keeps_on _ _ _ c.build_numbers.ensures.keeps c.build_graphs.ensures.keeps) c.build_recursion.ensures.keeps) c.build_order.ensures.keeps) c.build_doubling.ensures.keeps) c.build_paths.ensures.keeps

pub returns-in_err-build_numbers-clause-shelf : goal.returns-in_err-build_numbers-clause-shelf
returns-in_err-build_numbers-clause-shelf c = c.build_numbers.ensures.shelf

pub returns-in_err-build_numbers-clause-more : goal.returns-in_err-build_numbers-clause-more
returns-in_err-build_numbers-clause-more c = c.build_numbers.ensures.more

pub returns-in_err-build_numbers-clause-keeps : goal.returns-in_err-build_numbers-clause-keeps
returns-in_err-build_numbers-clause-keeps c = c.build_numbers.ensures.keeps

pub returns-in_err-build_graphs-clause-shelf : goal.returns-in_err-build_graphs-clause-shelf
returns-in_err-build_graphs-clause-shelf c = c.build_graphs.ensures.shelf

pub returns-in_err-build_graphs-clause-more : goal.returns-in_err-build_graphs-clause-more
returns-in_err-build_graphs-clause-more c = extends_on _ _ _ c.build_numbers.ensures.more c.build_graphs.ensures.more

pub returns-in_err-build_graphs-clause-keeps : goal.returns-in_err-build_graphs-clause-keeps
returns-in_err-build_graphs-clause-keeps c = keeps_on _ _ _ c.build_numbers.ensures.keeps c.build_graphs.ensures.keeps

pub returns-in_err-build_recursion-clause-shelf : goal.returns-in_err-build_recursion-clause-shelf
returns-in_err-build_recursion-clause-shelf c = c.build_recursion.ensures.shelf

pub returns-in_err-build_recursion-clause-more : goal.returns-in_err-build_recursion-clause-more
returns-in_err-build_recursion-clause-more c = extends_on _ _ _ (extends_on _ _ _ c.build_numbers.ensures.more c.build_graphs.ensures.more) c.build_recursion.ensures.more

pub returns-in_err-build_recursion-clause-keeps : goal.returns-in_err-build_recursion-clause-keeps
returns-in_err-build_recursion-clause-keeps c = keeps_on _ _ _ (keeps_on _ _ _ c.build_numbers.ensures.keeps c.build_graphs.ensures.keeps) c.build_recursion.ensures.keeps

pub returns-in_err-build_order-clause-shelf : goal.returns-in_err-build_order-clause-shelf
returns-in_err-build_order-clause-shelf c = c.build_order.ensures.shelf

pub returns-in_err-build_order-clause-more : goal.returns-in_err-build_order-clause-more
returns-in_err-build_order-clause-more c = extends_on _ _ _ (extends_on _ _ _ (extends_on _ _ _ c.build_numbers.ensures.more c.build_graphs.ensures.more) c.build_recursion.ensures.more) c.build_order.ensures.more

pub returns-in_err-build_order-clause-keeps : goal.returns-in_err-build_order-clause-keeps
returns-in_err-build_order-clause-keeps c = keeps_on _ _ _ (keeps_on _ _ _ (keeps_on _ _ _ c.build_numbers.ensures.keeps c.build_graphs.ensures.keeps) c.build_recursion.ensures.keeps) c.build_order.ensures.keeps

pub returns-in_err-build_doubling-clause-shelf : goal.returns-in_err-build_doubling-clause-shelf
returns-in_err-build_doubling-clause-shelf c = c.build_doubling.ensures.shelf

pub returns-in_err-build_doubling-clause-more : goal.returns-in_err-build_doubling-clause-more
returns-in_err-build_doubling-clause-more c = extends_on _ _ _ (extends_on _ _ _ (extends_on _ _ _ (extends_on _ _ _ c.build_numbers.ensures.more c.build_graphs.ensures.more) c.build_recursion.ensures.more) c.build_order.ensures.more) c.build_doubling.ensures.more

pub returns-in_err-build_doubling-clause-keeps : goal.returns-in_err-build_doubling-clause-keeps
returns-in_err-build_doubling-clause-keeps c = keeps_on _ _ _ (keeps_on _ _ _ (keeps_on _ _ _ (keeps_on _ _ _ c.build_numbers.ensures.keeps c.build_graphs.ensures.keeps) c.build_recursion.ensures.keeps) c.build_order.ensures.keeps) c.build_doubling.ensures.keeps

pub returns-in_err-build_paths-clause-shelf : goal.returns-in_err-build_paths-clause-shelf
returns-in_err-build_paths-clause-shelf c = c.build_paths.ensures.shelf

pub returns-in_err-build_paths-clause-more : goal.returns-in_err-build_paths-clause-more
returns-in_err-build_paths-clause-more c = extends_on _ _ _ (extends_on _ _ _ (extends_on _ _ _ (extends_on _ _ _ (extends_on _ _ _ c.build_numbers.ensures.more c.build_graphs.ensures.more) c.build_recursion.ensures.more) c.build_order.ensures.more) c.build_doubling.ensures.more) c.build_paths.ensures.more

pub returns-in_err-build_paths-clause-keeps : goal.returns-in_err-build_paths-clause-keeps
returns-in_err-build_paths-clause-keeps c = keeps_on _ _ _ (keeps_on _ _ _ (keeps_on _ _ _ (keeps_on _ _ _ (keeps_on _ _ _ c.build_numbers.ensures.keeps c.build_graphs.ensures.keeps) c.build_recursion.ensures.keeps) c.build_order.ensures.keeps) c.build_doubling.ensures.keeps) c.build_paths.ensures.keeps
