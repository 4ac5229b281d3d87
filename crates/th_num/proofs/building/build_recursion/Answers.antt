-- Written by `python3 tools/library.py write` from the scripts of tools/library/.
use Rattle.std.proofs.Common.{refl, Some}
use Rattle.library_steps.proofs.Computed.{from_none, from_more}
use Rattle.library_steps.proofs.Taken.{both_on, can_take, made_to, facts_to}
use Rattle.th_num.proofs.RecursionTables.{only_one_proves, graph_values_proves, graph_function_proves, recursion_from_graph_proves, recursion_proves, num_recursion_proves, constant_39, rec_equations_proves, rec_zero_proves, rec_suc_proves}
use Rattle.th_num.specs.Facts as facts
use Rattle.th_base.specs.Facts as th_base
use Rattle.th_num.proofs.building.build_recursion.Goals as goal

pub take_steps-requires-clause-rules : goal.take_steps-requires-clause-rules
take_steps-requires-clause-rules c = c.requires.rules

pub take_steps-requires-clause-shelf : goal.take_steps-requires-clause-shelf
take_steps-requires-clause-shelf c = c.requires.shelf

pub take_steps-requires-clause-fit : goal.take_steps-requires-clause-fit
take_steps-requires-clause-fit c = can_take c.requires.defs (both_on c.requires.base_facts (both_on c.requires.number_facts c.requires.graph_facts)) (record { all = ((from_none, only_one_proves), ((from_more 61 (refl {a = Some facts.only_one}) from_none, graph_values_proves), ((from_more 15 (refl {a = Some th_base.choice}) (from_more 61 (refl {a = Some facts.only_one}) from_none), graph_function_proves), ((from_more 62 (refl {a = Some facts.graph_values}) (from_more 63 (refl {a = Some facts.graph_function}) from_none), recursion_from_graph_proves), ((from_more 58 (refl {a = Some facts.graph_at_zero}) (from_more 60 (refl {a = Some facts.graph_at_step}) (from_more 64 (refl {a = Some facts.recursion_from_graph}) (from_more 57 (refl {a = Some facts.recursion_graph}) from_none))), recursion_proves), ((from_more 65 (refl {a = Some facts.recursion}) (from_more 52 (refl {a = Some facts.suc_not_zero}) (from_more 23 (refl {a = Some th_base.unit_equal}) (from_more 53 (refl {a = Some facts.suc_injective}) (from_more 54 (refl {a = Some facts.num_induction}) from_none)))), num_recursion_proves), ((refl, constant_39), ((from_more 14 (refl {a = Some th_base.some_holds}) (from_more 66 (refl {a = Some facts.num_recursion}) from_none), rec_equations_proves), ((from_more 67 (refl {a = Some facts.rec_equations}) from_none, rec_zero_proves), ((from_more 67 (refl {a = Some facts.rec_equations}) from_none, rec_suc_proves), tt)))))))))) })

pub returns-clause-defs : goal.returns-clause-defs
returns-clause-defs c = made_to c.in_ok-take_steps.ensures.defs c.requires.defs refl

pub returns-clause-recursion_facts : goal.returns-clause-recursion_facts
returns-clause-recursion_facts c = facts_to c.in_ok-take_steps.ensures.facts (refl {a = facts.recursion_facts})

pub returns-clause-shelf : goal.returns-clause-shelf
returns-clause-shelf c = c.take_steps.ensures.shelf

pub returns-clause-more : goal.returns-clause-more
returns-clause-more c = c.take_steps.ensures.more

pub returns-clause-keeps : goal.returns-clause-keeps
returns-clause-keeps c = c.take_steps.ensures.keeps

pub returns-in_err-take_steps-clause-shelf : goal.returns-in_err-take_steps-clause-shelf
returns-in_err-take_steps-clause-shelf c = c.take_steps.ensures.shelf

pub returns-in_err-take_steps-clause-more : goal.returns-in_err-take_steps-clause-more
returns-in_err-take_steps-clause-more c = c.take_steps.ensures.more

pub returns-in_err-take_steps-clause-keeps : goal.returns-in_err-take_steps-clause-keeps
returns-in_err-take_steps-clause-keeps c = c.take_steps.ensures.keeps
