-- Written by `python3 tools/library.py write` from the scripts of tools/library/.
use Rattle.std.proofs.Common.{refl, Some}
use Rattle.library_steps.proofs.Computed.{from_none, from_more}
use Rattle.library_steps.proofs.Taken.{both_on, can_take, made_to, facts_to}
use Rattle.th_num.proofs.OrderTables.{constant_40, le_reflexive_proves, le_suc_proves, le_induction_proves, le_transitive_proves, le_suc_suc_proves, le_cases_proves, none_below_zero_proves, le_of_sucs_proves, strong_induction_proves}
use Rattle.th_num.specs.Facts as facts
use Rattle.th_num.proofs.building.build_order.Goals as goal

pub take_steps-requires-clause-rules : goal.take_steps-requires-clause-rules
take_steps-requires-clause-rules c = c.requires.rules

pub take_steps-requires-clause-shelf : goal.take_steps-requires-clause-shelf
take_steps-requires-clause-shelf c = c.requires.shelf

pub take_steps-requires-clause-fit : goal.take_steps-requires-clause-fit
take_steps-requires-clause-fit c = can_take c.requires.defs (both_on c.requires.base_facts (both_on c.requires.number_facts (both_on c.requires.graph_facts c.requires.recursion_facts))) (record { all = ((refl, constant_40), ((from_none, le_reflexive_proves), ((from_none, le_suc_proves), ((from_none, le_induction_proves), ((from_more 72 (refl {a = Some facts.le_induction}) (from_more 71 (refl {a = Some facts.le_suc}) from_none), le_transitive_proves), ((from_more 72 (refl {a = Some facts.le_induction}) (from_more 71 (refl {a = Some facts.le_suc}) (from_more 70 (refl {a = Some facts.le_reflexive}) from_none)), le_suc_suc_proves), ((from_more 72 (refl {a = Some facts.le_induction}) (from_more 70 (refl {a = Some facts.le_reflexive}) (from_more 71 (refl {a = Some facts.le_suc}) from_none)), le_cases_proves), ((from_more 72 (refl {a = Some facts.le_induction}) (from_more 52 (refl {a = Some facts.suc_not_zero}) from_none), none_below_zero_proves), ((from_more 72 (refl {a = Some facts.le_induction}) (from_more 70 (refl {a = Some facts.le_reflexive}) (from_more 71 (refl {a = Some facts.le_suc}) (from_more 53 (refl {a = Some facts.suc_injective}) from_none))), le_of_sucs_proves), ((from_more 54 (refl {a = Some facts.num_induction}) (from_more 76 (refl {a = Some facts.none_below_zero}) (from_more 75 (refl {a = Some facts.le_cases}) (from_more 77 (refl {a = Some facts.le_of_sucs}) from_none))), strong_induction_proves), tt)))))))))) })

pub returns-clause-defs : goal.returns-clause-defs
returns-clause-defs c = made_to c.in_ok-take_steps.ensures.defs c.requires.defs refl

pub returns-clause-order_facts : goal.returns-clause-order_facts
returns-clause-order_facts c = facts_to c.in_ok-take_steps.ensures.facts (refl {a = facts.order_facts})

pub returns-clause-shelf : goal.returns-clause-shelf
returns-clause-shelf c = c.take_steps.ensures.shelf

pub returns-clause-more : goal.returns-clause-more
returns-clause-more c = c.take_steps.ensures.more

pub returns-clause-keeps : goal.returns-clause-keeps
returns-clause-keeps c = c.take_steps.ensures.keeps

pub returns-in_err-take_steps-clause-shelf : goal.returns-in_err-take_steps-clause-shelf
returns-in_err-take_steps-clause-shelf c = c.take_steps.ensures.shelf

pub returns-in_err-take_steps-clause-more : goal.returns-in_err-take_steps-clause-more
returns-in_err-take_steps-clause-more c = c.take_steps.ensures.more

pub returns-in_err-take_steps-clause-keeps : goal.returns-in_err-take_steps-clause-keeps
returns-in_err-take_steps-clause-keeps c = c.take_steps.ensures.keeps
