-- Written by `python3 tools/library.py write` from the scripts of tools/library/.
use Rattle.std.proofs.Common.{refl, Some}
use Rattle.library_steps.proofs.Computed.{from_none, from_more}
use Rattle.library_steps.proofs.Taken.{both_on, can_take, made_to, facts_to}
use Rattle.th_num.proofs.PathsTables.{constant_42, cons_zero_proves, cons_suc_proves, below_cons_proves, cons_not_zero_proves, cons_step_zero_proves, cons_zero_injective_proves, cons_injective_proves, double_is_code_proves, path_cases_proves, path_induction_proves, path_recursion_proves}
use Rattle.th_num.specs.Facts as facts
use Rattle.th_num.proofs.building.build_paths.Goals as goal

pub take_steps-requires-clause-rules : goal.take_steps-requires-clause-rules
take_steps-requires-clause-rules c = c.requires.rules

pub take_steps-requires-clause-shelf : goal.take_steps-requires-clause-shelf
take_steps-requires-clause-shelf c = c.requires.shelf

pub take_steps-requires-clause-fit : goal.take_steps-requires-clause-fit
take_steps-requires-clause-fit c = can_take c.requires.defs (both_on c.requires.base_facts (both_on c.requires.number_facts (both_on c.requires.graph_facts (both_on c.requires.recursion_facts (both_on c.requires.order_facts c.requires.doubling_facts))))) (record { all = ((refl, constant_42), ((from_more 68 (refl {a = Some facts.rec_zero}) from_none, cons_zero_proves), ((from_more 69 (refl {a = Some facts.rec_suc}) from_none, cons_suc_proves), ((from_more 74 (refl {a = Some facts.le_suc_suc}) (from_more 85 (refl {a = Some facts.le_double}) (from_more 88 (refl {a = Some facts.cons_zero}) (from_more 73 (refl {a = Some facts.le_transitive}) (from_more 89 (refl {a = Some facts.cons_suc}) (from_more 54 (refl {a = Some facts.num_induction}) from_none))))), below_cons_proves), ((from_more 90 (refl {a = Some facts.below_cons}) (from_more 76 (refl {a = Some facts.none_below_zero}) from_none), cons_not_zero_proves), ((from_more 88 (refl {a = Some facts.cons_zero}) (from_more 53 (refl {a = Some facts.suc_injective}) (from_more 83 (refl {a = Some facts.double_injective}) (from_more 89 (refl {a = Some facts.cons_suc}) (from_more 82 (refl {a = Some facts.double_not_odd}) (from_more 54 (refl {a = Some facts.num_induction}) from_none))))), cons_step_zero_proves), ((from_more 92 (refl {a = Some facts.cons_step_zero}) from_none, cons_zero_injective_proves), ((from_more 92 (refl {a = Some facts.cons_step_zero}) (from_more 89 (refl {a = Some facts.cons_suc}) (from_more 83 (refl {a = Some facts.double_injective}) (from_more 54 (refl {a = Some facts.num_induction}) (from_more 93 (refl {a = Some facts.cons_zero_injective}) from_none)))), cons_injective_proves), ((from_more 89 (refl {a = Some facts.cons_suc}) from_none, double_is_code_proves), ((from_more 78 (refl {a = Some facts.strong_induction}) (from_more 79 (refl {a = Some facts.double_zero}) (from_more 95 (refl {a = Some facts.double_is_code}) (from_more 86 (refl {a = Some facts.below_double}) (from_more 88 (refl {a = Some facts.cons_zero}) (from_more 87 (refl {a = Some facts.even_or_odd}) from_none))))), path_cases_proves), ((from_more 90 (refl {a = Some facts.below_cons}) (from_more 96 (refl {a = Some facts.path_cases}) (from_more 78 (refl {a = Some facts.strong_induction}) from_none)), path_induction_proves), ((from_more 65 (refl {a = Some facts.recursion}) (from_more 91 (refl {a = Some facts.cons_not_zero}) (from_more 94 (refl {a = Some facts.cons_injective}) (from_more 97 (refl {a = Some facts.path_induction}) from_none))), path_recursion_proves), tt)))))))))))) })

pub returns-clause-defs : goal.returns-clause-defs
returns-clause-defs c = made_to c.in_ok-take_steps.ensures.defs c.requires.defs refl

pub returns-clause-path_facts : goal.returns-clause-path_facts
returns-clause-path_facts c = facts_to c.in_ok-take_steps.ensures.facts (refl {a = facts.path_facts})

pub returns-clause-shelf : goal.returns-clause-shelf
returns-clause-shelf c = c.take_steps.ensures.shelf

pub returns-clause-more : goal.returns-clause-more
returns-clause-more c = c.take_steps.ensures.more

pub returns-clause-keeps : goal.returns-clause-keeps
returns-clause-keeps c = c.take_steps.ensures.keeps

pub returns-in_err-take_steps-clause-shelf : goal.returns-in_err-take_steps-clause-shelf
returns-in_err-take_steps-clause-shelf c = c.take_steps.ensures.shelf

pub returns-in_err-take_steps-clause-more : goal.returns-in_err-take_steps-clause-more
returns-in_err-take_steps-clause-more c = c.take_steps.ensures.more

pub returns-in_err-take_steps-clause-keeps : goal.returns-in_err-take_steps-clause-keeps
returns-in_err-take_steps-clause-keeps c = c.take_steps.ensures.keeps
