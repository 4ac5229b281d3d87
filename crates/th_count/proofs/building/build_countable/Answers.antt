-- Written by `python3 tools/library.py write` from the scripts of tools/library/.
use Rattle.std.proofs.Common.{refl, Some}
use Rattle.library_steps.proofs.Computed.{from_none, from_more}
use Rattle.library_steps.proofs.Taken.{both_on, can_take, made_to, facts_to}
use Rattle.th_count.proofs.CountableTables.{constant_43, countable_enumerated_proves, countable_enumeration_proves, countable_subset_proves, countable_on_type_proves, countable_num_proves, countable_empty_proves, countable_singleton_proves, countable_unit_proves, countable_bool_proves, countable_enumerated_twice_proves}
use Rattle.th_count.specs.Facts as facts
use Rattle.th_base.specs.Facts as th_base
use Rattle.th_num.specs.Facts as th_num
use Rattle.th_count.proofs.building.build_countable.Goals as goal

pub take_steps-requires-clause-rules : goal.take_steps-requires-clause-rules
take_steps-requires-clause-rules c = c.requires.rules

pub take_steps-requires-clause-shelf : goal.take_steps-requires-clause-shelf
take_steps-requires-clause-shelf c = c.requires.shelf

pub take_steps-requires-clause-fit : goal.take_steps-requires-clause-fit
take_steps-requires-clause-fit c = can_take c.requires.defs (both_on c.requires.base_facts c.requires.num_facts) (record { all = ((refl, constant_43), ((from_more 16 (refl {a = Some th_base.choice_on}) from_none, countable_enumerated_proves), ((from_more 14 (refl {a = Some th_base.some_holds}) (from_more 16 (refl {a = Some th_base.choice_on}) from_none), countable_enumeration_proves), ((from_more 99 (refl {a = Some facts.countable_enumerated}) (from_more 100 (refl {a = Some facts.countable_enumeration}) from_none), countable_subset_proves), ((from_more 101 (refl {a = Some facts.countable_subset}) (from_more 0 (refl {a = Some th_base.truth}) from_none), countable_on_type_proves), ((from_more 99 (refl {a = Some facts.countable_enumerated}) from_none, countable_num_proves), ((from_more 99 (refl {a = Some facts.countable_enumerated}) from_none, countable_empty_proves), ((from_more 99 (refl {a = Some facts.countable_enumerated}) from_none, countable_singleton_proves), ((from_more 23 (refl {a = Some th_base.unit_equal}) (from_more 105 (refl {a = Some facts.countable_singleton}) from_none), countable_unit_proves), ((from_more 11 (refl {a = Some th_base.not_as_equation}) (from_more 52 (refl {a = Some th_num.suc_not_zero}) (from_more 2 (refl {a = Some th_base.excluded_middle}) (from_more 99 (refl {a = Some facts.countable_enumerated}) from_none))), countable_bool_proves), ((from_more 98 (refl {a = Some th_num.path_recursion}) (from_more 99 (refl {a = Some facts.countable_enumerated}) from_none), countable_enumerated_twice_proves), tt))))))))))) })

pub returns-clause-defs : goal.returns-clause-defs
returns-clause-defs c = made_to c.in_ok-take_steps.ensures.defs c.requires.defs refl

pub returns-clause-countable_facts : goal.returns-clause-countable_facts
returns-clause-countable_facts c = facts_to c.in_ok-take_steps.ensures.facts (refl {a = facts.countable_facts})

pub returns-clause-shelf : goal.returns-clause-shelf
returns-clause-shelf c = c.take_steps.ensures.shelf

pub returns-clause-more : goal.returns-clause-more
returns-clause-more c = c.take_steps.ensures.more

pub returns-clause-keeps : goal.returns-clause-keeps
returns-clause-keeps c = c.take_steps.ensures.keeps

pub returns-in_err-take_steps-clause-shelf : goal.returns-in_err-take_steps-clause-shelf
returns-in_err-take_steps-clause-shelf c = c.take_steps.ensures.shelf

pub returns-in_err-take_steps-clause-more : goal.returns-in_err-take_steps-clause-more
returns-in_err-take_steps-clause-more c = c.take_steps.ensures.more

pub returns-in_err-take_steps-clause-keeps : goal.returns-in_err-take_steps-clause-keeps
returns-in_err-take_steps-clause-keeps c = c.take_steps.ensures.keeps
