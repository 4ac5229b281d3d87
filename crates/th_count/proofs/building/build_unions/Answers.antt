-- Written by `python3 tools/library.py write` from the scripts of tools/library/.
use Rattle.std.proofs.Common.{refl, Some}
use Rattle.library_steps.proofs.Computed.{from_none, from_more}
use Rattle.library_steps.proofs.Taken.{both_on, can_take, made_to, facts_to}
use Rattle.th_count.proofs.UnionsTables.{countable_union_proves, countable_union_of_two_proves, countable_image_proves, countable_range_proves, countable_injection_proves, countable_product_proves, countable_prod_proves, countable_sum_proves}
use Rattle.th_count.specs.Facts as facts
use Rattle.th_num.specs.Facts as th_num
use Rattle.th_base.specs.Facts as th_base
use Rattle.th_count.proofs.building.build_unions.Goals as goal

pub take_steps-requires-clause-rules : goal.take_steps-requires-clause-rules
take_steps-requires-clause-rules c = c.requires.rules

pub take_steps-requires-clause-shelf : goal.take_steps-requires-clause-shelf
take_steps-requires-clause-shelf c = c.requires.shelf

pub take_steps-requires-clause-fit : goal.take_steps-requires-clause-fit
take_steps-requires-clause-fit c = can_take c.requires.defs (both_on c.requires.base_facts (both_on c.requires.num_facts c.requires.countable_facts)) (record { all = ((from_more 108 (refl {a = Some facts.countable_enumerated_twice}) (from_more 100 (refl {a = Some facts.countable_enumeration}) from_none), countable_union_proves), ((from_more 66 (refl {a = Some th_num.num_recursion}) (from_more 108 (refl {a = Some facts.countable_enumerated_twice}) (from_more 100 (refl {a = Some facts.countable_enumeration}) from_none)), countable_union_of_two_proves), ((from_more 109 (refl {a = Some facts.countable_union}) (from_more 105 (refl {a = Some facts.countable_singleton}) from_none), countable_image_proves), ((from_more 111 (refl {a = Some facts.countable_image}) (from_more 0 (refl {a = Some th_base.truth}) (from_more 101 (refl {a = Some facts.countable_subset}) from_none)), countable_range_proves), ((from_more 14 (refl {a = Some th_base.some_holds}) (from_more 111 (refl {a = Some facts.countable_image}) (from_more 101 (refl {a = Some facts.countable_subset}) from_none)), countable_injection_proves), ((from_more 109 (refl {a = Some facts.countable_union}) (from_more 111 (refl {a = Some facts.countable_image}) (from_more 31 (refl {a = Some th_base.pair_of_components}) (from_more 101 (refl {a = Some facts.countable_subset}) from_none))), countable_product_proves), ((from_more 114 (refl {a = Some facts.countable_product}) (from_more 0 (refl {a = Some th_base.truth}) from_none), countable_prod_proves), ((from_more 112 (refl {a = Some facts.countable_range}) (from_more 110 (refl {a = Some facts.countable_union_of_two}) (from_more 40 (refl {a = Some th_base.inl_or_inr}) from_none)), countable_sum_proves), tt)))))))) })

pub returns-clause-defs : goal.returns-clause-defs
returns-clause-defs c = made_to c.in_ok-take_steps.ensures.defs c.requires.defs refl

pub returns-clause-union_facts : goal.returns-clause-union_facts
returns-clause-union_facts c = facts_to c.in_ok-take_steps.ensures.facts (refl {a = facts.union_facts})

pub returns-clause-shelf : goal.returns-clause-shelf
returns-clause-shelf c = c.take_steps.ensures.shelf

pub returns-clause-more : goal.returns-clause-more
returns-clause-more c = c.take_steps.ensures.more

pub returns-clause-keeps : goal.returns-clause-keeps
returns-clause-keeps c = c.take_steps.ensures.keeps

pub returns-in_err-take_steps-clause-shelf : goal.returns-in_err-take_steps-clause-shelf
returns-in_err-take_steps-clause-shelf c = c.take_steps.ensures.shelf

pub returns-in_err-take_steps-clause-more : goal.returns-in_err-take_steps-clause-more
returns-in_err-take_steps-clause-more c = c.take_steps.ensures.more

pub returns-in_err-take_steps-clause-keeps : goal.returns-in_err-take_steps-clause-keeps
returns-in_err-take_steps-clause-keeps c = c.take_steps.ensures.keeps
