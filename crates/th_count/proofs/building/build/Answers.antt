use Rattle.library_steps.proofs.Defined.{keeps_on}
use Rattle.library_steps.proofs.Taken.{rules_kept, all_more, extends_on, both_on}
use Rattle.th_count.proofs.building.build.Goals as goal

pub build_countable-requires-clause-rules : goal.build_countable-requires-clause-rules
build_countable-requires-clause-rules c = c.requires.rules

pub build_countable-requires-clause-defs : goal.build_countable-requires-clause-defs
build_countable-requires-clause-defs c = c.requires.defs

pub build_countable-requires-clause-base_facts : goal.build_countable-requires-clause-base_facts
build_countable-requires-clause-base_facts c = c.requires.base_facts

pub build_countable-requires-clause-num_facts : goal.build_countable-requires-clause-num_facts
build_countable-requires-clause-num_facts c = c.requires.num_facts

pub build_countable-requires-clause-shelf : goal.build_countable-requires-clause-shelf
build_countable-requires-clause-shelf c = c.requires.shelf

pub build_unions-requires-clause-rules : goal.build_unions-requires-clause-rules
build_unions-requires-clause-rules c = rules_kept c.requires.rules c.build_countable.ensures.keeps

pub build_unions-requires-clause-defs : goal.build_unions-requires-clause-defs
build_unions-requires-clause-defs c = c.in_ok-build_countable.ensures.defs

pub build_unions-requires-clause-base_facts : goal.build_unions-requires-clause-base_facts
build_unions-requires-clause-base_facts c = all_more _ _ _ c.requires.base_facts c.build_countable.ensures.more

pub build_unions-requires-clause-num_facts : goal.build_unions-requires-clause-num_facts
build_unions-requires-clause-num_facts c = all_more _ _ _ c.requires.num_facts c.build_countable.ensures.more

pub build_unions-requires-clause-countable_facts : goal.build_unions-requires-clause-countable_facts
build_unions-requires-clause-countable_facts c = c.in_ok-build_countable.ensures.countable_facts

pub build_unions-requires-clause-shelf : goal.build_unions-requires-clause-shelf
build_unions-requires-clause-shelf c = c.build_countable.ensures.shelf

pub build_csets-requires-clause-rules : goal.build_csets-requires-clause-rules
build_csets-requires-clause-rules c = rules_kept (rules_kept c.requires.rules c.build_countable.ensures.keeps) c.build_unions.ensures.keeps

pub build_csets-requires-clause-defs : goal.build_csets-requires-clause-defs
build_csets-requires-clause-defs c = c.in_ok-build_unions.ensures.defs

pub build_csets-requires-clause-base_facts : goal.build_csets-requires-clause-base_facts
build_csets-requires-clause-base_facts c = all_more _ _ _ (all_more _ _ _ c.requires.base_facts c.build_countable.ensures.more) c.build_unions.ensures.more

pub build_csets-requires-clause-num_facts : goal.build_csets-requires-clause-num_facts
build_csets-requires-clause-num_facts c = all_more _ _ _ (all_more _ _ _ c.requires.num_facts c.build_countable.ensures.more) c.build_unions.ensures.more

pub build_csets-requires-clause-countable_facts : goal.build_csets-requires-clause-countable_facts
build_csets-requires-clause-countable_facts c = all_more _ _ _ c.in_ok-build_countable.ensures.countable_facts c.build_unions.ensures.more

pub build_csets-requires-clause-union_facts : goal.build_csets-requires-clause-union_facts
build_csets-requires-clause-union_facts c = c.in_ok-build_unions.ensures.union_facts

pub build_csets-requires-clause-shelf : goal.build_csets-requires-clause-shelf
build_csets-requires-clause-shelf c = c.build_unions.ensures.shelf

pub build_relators-requires-clause-rules : goal.build_relators-requires-clause-rules
build_relators-requires-clause-rules c = rules_kept (rules_kept (rules_kept c.requires.rules c.build_countable.ensures.keeps) c.build_unions.ensures.keeps) c.build_csets.ensures.keeps

pub build_relators-requires-clause-defs : goal.build_relators-requires-clause-defs
build_relators-requires-clause-defs c = c.in_ok-build_csets.ensures.defs

pub build_relators-requires-clause-base_facts : goal.build_relators-requires-clause-base_facts
build_relators-requires-clause-base_facts c = all_more _ _ _ (all_more _ _ _ (all_more _ _ _ c.requires.base_facts c.build_countable.ensures.more) c.build_unions.ensures.more) c.build_csets.ensures.more

pub build_relators-requires-clause-num_facts : goal.build_relators-requires-clause-num_facts
build_relators-requires-clause-num_facts c = all_more _ _ _ (all_more _ _ _ (all_more _ _ _ c.requires.num_facts c.build_countable.ensures.more) c.build_unions.ensures.more) c.build_csets.ensures.more

pub build_relators-requires-clause-countable_facts : goal.build_relators-requires-clause-countable_facts
build_relators-requires-clause-countable_facts c = all_more _ _ _ (all_more _ _ _ c.in_ok-build_countable.ensures.countable_facts c.build_unions.ensures.more) c.build_csets.ensures.more

pub build_relators-requires-clause-union_facts : goal.build_relators-requires-clause-union_facts
build_relators-requires-clause-union_facts c = all_more _ _ _ c.in_ok-build_unions.ensures.union_facts c.build_csets.ensures.more

pub build_relators-requires-clause-cset_facts : goal.build_relators-requires-clause-cset_facts
build_relators-requires-clause-cset_facts c = c.in_ok-build_csets.ensures.cset_facts

pub build_relators-requires-clause-shelf : goal.build_relators-requires-clause-shelf
build_relators-requires-clause-shelf c = c.build_csets.ensures.shelf

pub build_pairs-requires-clause-rules : goal.build_pairs-requires-clause-rules
build_pairs-requires-clause-rules c = rules_kept (rules_kept (rules_kept (rules_kept c.requires.rules c.build_countable.ensures.keeps) c.build_unions.ensures.keeps) c.build_csets.ensures.keeps) c.build_relators.ensures.keeps

pub build_pairs-requires-clause-defs : goal.build_pairs-requires-clause-defs
build_pairs-requires-clause-defs c = c.in_ok-build_relators.ensures.defs

pub build_pairs-requires-clause-base_facts : goal.build_pairs-requires-clause-base_facts
build_pairs-requires-clause-base_facts c = all_more _ _ _ (all_more _ _ _ (all_more _ _ _ (all_more _ _ _ c.requires.base_facts c.build_countable.ensures.more) c.build_unions.ensures.more) c.build_csets.ensures.more) c.build_relators.ensures.more

pub build_pairs-requires-clause-num_facts : goal.build_pairs-requires-clause-num_facts
build_pairs-requires-clause-num_facts c = all_more _ _ _ (all_more _ _ _ (all_more _ _ _ (all_more _ _ _ c.requires.num_facts c.build_countable.ensures.more) c.build_unions.ensures.more) c.build_csets.ensures.more) c.build_relators.ensures.more

pub build_pairs-requires-clause-countable_facts : goal.build_pairs-requires-clause-countable_facts
build_pairs-requires-clause-countable_facts c = all_more _ _ _ (all_more _ _ _ (all_more _ _ _ c.in_ok-build_countable.ensures.countable_facts c.build_unions.ensures.more) c.build_csets.ensures.more) c.build_relators.ensures.more

pub build_pairs-requires-clause-union_facts : goal.build_pairs-requires-clause-union_facts
build_pairs-requires-clause-union_facts c = all_more _ _ _ (all_more _ _ _ c.in_ok-build_unions.ensures.union_facts c.build_csets.ensures.more) c.build_relators.ensures.more

pub build_pairs-requires-clause-cset_facts : goal.build_pairs-requires-clause-cset_facts
build_pairs-requires-clause-cset_facts c = all_more _ _ _ c.in_ok-build_csets.ensures.cset_facts c.build_relators.ensures.more

pub build_pairs-requires-clause-relator_facts : goal.build_pairs-requires-clause-relator_facts
build_pairs-requires-clause-relator_facts c = c.in_ok-build_relators.ensures.relator_facts

pub build_pairs-requires-clause-shelf : goal.build_pairs-requires-clause-shelf
build_pairs-requires-clause-shelf c = c.build_relators.ensures.shelf

pub build_compositions-requires-clause-rules : goal.build_compositions-requires-clause-rules
build_compositions-requires-clause-rules c = rules_kept (rules_kept (rules_kept (rules_kept (rules_kept c.requires.rules c.build_countable.ensures.keeps) c.build_unions.ensures.keeps) c.build_csets.ensures.keeps) c.build_relators.ensures.keeps) c.build_pairs.ensures.keeps

pub build_compositions-requires-clause-defs : goal.build_compositions-requires-clause-defs
build_compositions-requires-clause-defs c = c.in_ok-build_pairs.ensures.defs

pub build_compositions-requires-clause-base_facts : goal.build_compositions-requires-clause-base_facts
build_compositions-requires-clause-base_facts c = all_more _ _ _ (all_more _ _ _ (all_more _ _ _ (all_more _ _ _ (all_more _ _ _ c.requires.base_facts c.build_countable.ensures.more) c.build_unions.ensures.more) c.build_csets.ensures.more) c.build_relators.ensures.more) c.build_pairs.ensures.more

pub build_compositions-requires-clause-num_facts : goal.build_compositions-requires-clause-num_facts
build_compositions-requires-clause-num_facts c = all_more _ _ _ (all_more _ _ _ (all_more _ _ _ (all_more _ _ _ (all_more _ _ _ c.requires.num_facts c.build_countable.ensures.more) c.build_unions.ensures.more) c.build_csets.ensures.more) c.build_relators.ensures.more) c.build_pairs.ensures.more

pub build_compositions-requires-clause-countable_facts : goal.build_compositions-requires-clause-countable_facts
build_compositions-requires-clause-countable_facts c = all_more _ _ _ (all_more _ _ _ (all_more _ _ _ (all_more _ _ _ c.in_ok-build_countable.ensures.countable_facts c.build_unions.ensures.more) c.build_csets.ensures.more) c.build_relators.ensures.more) c.build_pairs.ensures.more

pub build_compositions-requires-clause-union_facts : goal.build_compositions-requires-clause-union_facts
build_compositions-requires-clause-union_facts c = all_more _ _ _ (all_more _ _ _ (all_more _ _ _ c.in_ok-build_unions.ensures.union_facts c.build_csets.ensures.more) c.build_relators.ensures.more) c.build_pairs.ensures.more

pub build_compositions-requires-clause-cset_facts : goal.build_compositions-requires-clause-cset_facts
build_compositions-requires-clause-cset_facts c = all_more _ _ _ (all_more _ _ _ c.in_ok-build_csets.ensures.cset_facts c.build_relators.ensures.more) c.build_pairs.ensures.more

pub build_compositions-requires-clause-relator_facts : goal.build_compositions-requires-clause-relator_facts
build_compositions-requires-clause-relator_facts c = all_more _ _ _ c.in_ok-build_relators.ensures.relator_facts c.build_pairs.ensures.more

pub build_compositions-requires-clause-pair_facts : goal.build_compositions-requires-clause-pair_facts
build_compositions-requires-clause-pair_facts c = c.in_ok-build_pairs.ensures.pair_facts

pub build_compositions-requires-clause-shelf : goal.build_compositions-requires-clause-shelf
build_compositions-requires-clause-shelf c = c.build_pairs.ensures.shelf

pub returns-clause-defs : goal.returns-clause-defs
returns-clause-defs c = c.in_ok-build_compositions.ensures.defs

pub returns-clause-count_facts : goal.returns-clause-count_facts
returns-clause-count_facts c = both_on (all_more _ _ _ (all_more _ _ _ (all_more _ _ _ (all_more _ _ _ (all_more _ _ _ c.in_ok-build_countable.ensures.countable_facts c.build_unions.ensures.more) c.build_csets.ensures.more) c.build_relators.ensures.more) c.build_pairs.ensures.more) c.build_compositions.ensures.more) (both_on (all_more _ _ _ (all_more _ _ _ (all_more _ _ _ (all_more _ _ _ c.in_ok-build_unions.ensures.union_facts c.build_csets.ensures.more) c.build_relators.ensures.more) c.build_pairs.ensures.more) c.build_compositions.ensures.more) (both_on (all_more _ _ _ (all_more _ _ _ (all_more _ _ _ c.in_ok-build_csets.ensures.cset_facts c.build_relators.ensures.more) c.build_pairs.ensures.more) c.build_compositions.ensures.more) (both_on (all_more _ _ _ (all_more _ _ _ c.in_ok-build_relators.ensures.relator_facts c.build_pairs.ensures.more) c.build_compositions.ensures.more) (both_on (all_more _ _ _ c.in_ok-build_pairs.ensures.pair_facts c.build_compositions.ensures.more) c.in_ok-build_compositions.ensures.composition_facts))))

pub returns-clause-shelf : goal.returns-clause-shelf
returns-clause-shelf c = c.build_compositions.ensures.shelf

pub returns-clause-more : goal.returns-clause-more
returns-clause-more c = extends_on _ _ _ (extends_on _ _ _ (extends_on _ _ _ (extends_on _ _ _ (extends_on _ _ _ c.build_countable.ensures.more c.build_unions.ensures.more) c.build_csets.ensures.more) c.build_relators.ensures.more) c.build_pairs.ensures.more) c.build_compositions.ensures.more

pub returns-clause-keeps : goal.returns-clause-keeps
returns-clause-keeps c = keeps_on _ _ _ (keeps_on _ _ _ (keeps_on _ _ _ (keeps_on _ _ _ (keeps_on _ _ _ c.build_countable.ensures.keeps c.build_unions.ensures.keeps) c.build_csets.ensures.keeps) c.build_relators.ensures.keeps) c.build_pairs.ensures.keeps) c.build_compositions.ensures.keeps

pub returns-in_err-build_countable-clause-shelf : goal.returns-in_err-build_countable-clause-shelf
returns-in_err-build_countable-clause-shelf c = c.build_countable.ensures.shelf

pub returns-in_err-build_countable-clause-more : goal.returns-in_err-build_countable-clause-more
returns-in_err-build_countable-clause-more c = c.build_countable.ensures.more

pub returns-in_err-build_countable-clause-keeps : goal.returns-in_err-build_countable-clause-keeps
returns-in_err-build_countable-clause-keeps c = c.build_countable.ensures.keeps

pub returns-in_err-build_unions-clause-shelf : goal.returns-in_err-build_unions-clause-shelf
returns-in_err-build_unions-clause-shelf c = c.build_unions.ensures.shelf

pub returns-in_err-build_unions-clause-more : goal.returns-in_err-build_unions-clause-more
returns-in_err-build_unions-clause-more c = extends_on _ _ _ c.build_countable.ensures.more c.build_unions.ensures.more

pub returns-in_err-build_unions-clause-keeps : goal.returns-in_err-build_unions-clause-keeps
returns-in_err-build_unions-clause-keeps c = keeps_on _ _ _ c.build_countable.ensures.keeps c.build_unions.ensures.keeps

pub returns-in_err-build_csets-clause-shelf : goal.returns-in_err-build_csets-clause-shelf
returns-in_err-build_csets-clause-shelf c = c.build_csets.ensures.shelf

pub returns-in_err-build_csets-clause-more : goal.returns-in_err-build_csets-clause-more
returns-in_err-build_csets-clause-more c = extends_on _ _ _ (extends_on _ _ _ c.build_countable.ensures.more c.build_unions.ensures.more) c.build_csets.ensures.more

pub returns-in_err-build_csets-clause-keeps : goal.returns-in_err-build_csets-clause-keeps
returns-in_err-build_csets-clause-keeps c = keeps_on _ _ _ (keeps_on _ _ _ c.build_countable.ensures.keeps c.build_unions.ensures.keeps) c.build_csets.ensures.keeps

pub returns-in_err-build_relators-clause-shelf : goal.returns-in_err-build_relators-clause-shelf
returns-in_err-build_relators-clause-shelf c = c.build_relators.ensures.shelf

pub returns-in_err-build_relators-clause-more : goal.returns-in_err-build_relators-clause-more
returns-in_err-build_relators-clause-more c = extends_on _ _ _ (extends_on _ _ _ (extends_on _ _ _ c.build_countable.ensures.more c.build_unions.ensures.more) c.build_csets.ensures.more) c.build_relators.ensures.more

pub returns-in_err-build_relators-clause-keeps : goal.returns-in_err-build_relators-clause-keeps
returns-in_err-build_relators-clause-keeps c = keeps_on _ _ _ (keeps_on _ _ _ (keeps_on _ _ _ c.build_countable.ensures.keeps c.build_unions.ensures.keeps) c.build_csets.ensures.keeps) c.build_relators.ensures.keeps

pub returns-in_err-build_pairs-clause-shelf : goal.returns-in_err-build_pairs-clause-shelf
returns-in_err-build_pairs-clause-shelf c = c.build_pairs.ensures.shelf

pub returns-in_err-build_pairs-clause-more : goal.returns-in_err-build_pairs-clause-more
returns-in_err-build_pairs-clause-more c = extends_on _ _ _ (extends_on _ _ _ (extends_on _ _ _ (extends_on _ _ _ c.build_countable.ensures.more c.build_unions.ensures.more) c.build_csets.ensures.more) c.build_relators.ensures.more) c.build_pairs.ensures.more

pub returns-in_err-build_pairs-clause-keeps : goal.returns-in_err-build_pairs-clause-keeps
returns-in_err-build_pairs-clause-keeps c = keeps_on _ _ _ (keeps_on _ _ _ (keeps_on _ _ _ (keeps_on _ _ _ c.build_countable.ensures.keeps c.build_unions.ensures.keeps) c.build_csets.ensures.keeps) c.build_relators.ensures.keeps) c.build_pairs.ensures.keeps

pub returns-in_err-build_compositions-clause-shelf : goal.returns-in_err-build_compositions-clause-shelf
returns-in_err-build_compositions-clause-shelf c = c.build_compositions.ensures.shelf

pub returns-in_err-build_compositions-clause-more : goal.returns-in_err-build_compositions-clause-more
returns-in_err-build_compositions-clause-more c = extends_on _ _ _ (extends_on _ _ _ (extends_on _ _ _ (extends_on _ _ _ (extends_on _ _ _ c.build_countable.ensures.more c.build_unions.ensures.more) c.build_csets.ensures.more) c.build_relators.ensures.more) c.build_pairs.ensures.more) c.build_compositions.ensures.more

pub returns-in_err-build_compositions-clause-keeps : goal.returns-in_err-build_compositions-clause-keeps
returns-in_err-build_compositions-clause-keeps c = keeps_on _ _ _ (keeps_on _ _ _ (keeps_on _ _ _ (keeps_on _ _ _ (keeps_on _ _ _ c.build_countable.ensures.keeps c.build_unions.ensures.keeps) c.build_csets.ensures.keeps) c.build_relators.ensures.keeps) c.build_pairs.ensures.keeps) c.build_compositions.ensures.keeps
