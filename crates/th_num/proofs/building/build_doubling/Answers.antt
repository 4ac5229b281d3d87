-- Written by `python3 tools/library.py write` from the scripts of tools/library/.
use Rattle.std.proofs.Common.{refl, Some}
use Rattle.library_steps.proofs.Computed.{from_none, from_more}
use Rattle.library_steps.proofs.Taken.{both_on, can_take, made_to, facts_to}
use Rattle.th_num.proofs.DoublingTables.{constant_41, double_zero_proves, double_suc_proves, even_odd_selector_proves, double_not_odd_proves, double_injective_proves, double_is_zero_proves, le_double_proves, below_double_proves, even_or_odd_proves}
use Rattle.th_num.specs.Facts as facts
use Rattle.th_base.specs.Facts as th_base
use Rattle.th_num.proofs.building.build_doubling.Goals as goal

pub take_steps-requires-clause-rules : goal.take_steps-requires-clause-rules
take_steps-requires-clause-rules c = c.requires.rules

pub take_steps-requires-clause-shelf : goal.take_steps-requires-clause-shelf
take_steps-requires-clause-shelf c = c.requires.shelf

pub take_steps-requires-clause-fit : goal.take_steps-requires-clause-fit
take_steps-requires-clause-fit c = can_take c.requires.defs (both_on c.requires.base_facts (both_on c.requires.number_facts (both_on c.requires.graph_facts (both_on c.requires.recursion_facts c.requires.order_facts)))) (record { all = ((refl, constant_41), ((from_more 68 (refl {a = Some facts.rec_zero}) from_none, double_zero_proves), ((from_more 69 (refl {a = Some facts.rec_suc}) from_none, double_suc_proves), ((from_more 66 (refl {a = Some facts.num_recursion}) (from_more 79 (refl {a = Some facts.double_zero}) (from_more 80 (refl {a = Some facts.double_suc}) (from_more 54 (refl {a = Some facts.num_induction}) from_none))), even_odd_selector_proves), ((from_more 0 (refl {a = Some th_base.truth}) (from_more 81 (refl {a = Some facts.even_odd_selector}) from_none), double_not_odd_proves), ((from_more 81 (refl {a = Some facts.even_odd_selector}) from_none, double_injective_proves), ((from_more 83 (refl {a = Some facts.double_injective}) (from_more 79 (refl {a = Some facts.double_zero}) from_none), double_is_zero_proves), ((from_more 79 (refl {a = Some facts.double_zero}) (from_more 70 (refl {a = Some facts.le_reflexive}) (from_more 74 (refl {a = Some facts.le_suc_suc}) (from_more 71 (refl {a = Some facts.le_suc}) (from_more 80 (refl {a = Some facts.double_suc}) (from_more 54 (refl {a = Some facts.num_induction}) from_none))))), le_double_proves), ((from_more 74 (refl {a = Some facts.le_suc_suc}) (from_more 85 (refl {a = Some facts.le_double}) (from_more 80 (refl {a = Some facts.double_suc}) (from_more 54 (refl {a = Some facts.num_induction}) from_none))), below_double_proves), ((from_more 79 (refl {a = Some facts.double_zero}) (from_more 80 (refl {a = Some facts.double_suc}) (from_more 54 (refl {a = Some facts.num_induction}) from_none)), even_or_odd_proves), tt)))))))))) })

pub returns-clause-defs : goal.returns-clause-defs
returns-clause-defs c = made_to c.in_ok-take_steps.ensures.defs c.requires.defs refl

pub returns-clause-doubling_facts : goal.returns-clause-doubling_facts
returns-clause-doubling_facts c = facts_to c.in_ok-take_steps.ensures.facts (refl {a = facts.doubling_facts})

pub returns-clause-shelf : goal.returns-clause-shelf
returns-clause-shelf c = c.take_steps.ensures.shelf

pub returns-clause-more : goal.returns-clause-more
returns-clause-more c = c.take_steps.ensures.more

pub returns-clause-keeps : goal.returns-clause-keeps
returns-clause-keeps c = c.take_steps.ensures.keeps

pub returns-in_err-take_steps-clause-shelf : goal.returns-in_err-take_steps-clause-shelf
returns-in_err-take_steps-clause-shelf c = c.take_steps.ensures.shelf

pub returns-in_err-take_steps-clause-more : goal.returns-in_err-take_steps-clause-more
returns-in_err-take_steps-clause-more c = c.take_steps.ensures.more

pub returns-in_err-take_steps-clause-keeps : goal.returns-in_err-take_steps-clause-keeps
returns-in_err-take_steps-clause-keeps c = c.take_steps.ensures.keeps
