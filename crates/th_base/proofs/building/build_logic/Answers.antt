-- Written by `python3 tools/library.py write` from the scripts of tools/library/.
use Rattle.std.proofs.Common.{refl, Some}
use Rattle.library_steps.proofs.Computed.{from_none, from_more}
use Rattle.library_steps.proofs.Taken.{none_on, can_take, made_to, facts_to}
use Rattle.th_base.proofs.LogicTables.{truth_proves, extensionality_proves, excluded_middle_proves, contradiction_proves, double_negation_proves, not_disj_proves, not_conj_proves, imp_as_disj_proves, not_imp_proves, not_ex_proves, not_all_proves, not_as_equation_proves, functions_differ_proves, truth_values_differ_proves, some_holds_proves, choice_proves, choice_on_proves, unique_choice_proves, constant_10, identity_proves, constant_11, if_true_proves, if_false_proves}
use Rattle.th_base.specs.Facts as facts
use Rattle.th_base.proofs.building.build_logic.Goals as goal

pub take_steps-requires-clause-rules : goal.take_steps-requires-clause-rules
take_steps-requires-clause-rules c = c.requires.rules

pub take_steps-requires-clause-shelf : goal.take_steps-requires-clause-shelf
take_steps-requires-clause-shelf c = c.requires.shelf

pub take_steps-requires-clause-fit : goal.take_steps-requires-clause-fit
take_steps-requires-clause-fit c = can_take c.requires.defs (none_on _) (record { all = ((from_none, truth_proves), ((from_none, extensionality_proves), ((from_none, excluded_middle_proves), ((from_more 2 (refl {a = Some facts.excluded_middle}) from_none, contradiction_proves), ((from_more 3 (refl {a = Some facts.contradiction}) from_none, double_negation_proves), ((from_none, not_disj_proves), ((from_more 5 (refl {a = Some facts.not_disj}) (from_more 4 (refl {a = Some facts.double_negation}) from_none), not_conj_proves), ((from_more 2 (refl {a = Some facts.excluded_middle}) from_none, imp_as_disj_proves), ((from_more 7 (refl {a = Some facts.imp_as_disj}) (from_more 5 (refl {a = Some facts.not_disj}) (from_more 4 (refl {a = Some facts.double_negation}) from_none)), not_imp_proves), ((from_none, not_ex_proves), ((from_more 9 (refl {a = Some facts.not_ex}) (from_more 4 (refl {a = Some facts.double_negation}) from_none), not_all_proves), ((from_none, not_as_equation_proves), ((from_more 1 (refl {a = Some facts.extensionality}) (from_more 10 (refl {a = Some facts.not_all}) from_none), functions_differ_proves), ((from_more 6 (refl {a = Some facts.not_conj}) (from_more 8 (refl {a = Some facts.not_imp}) from_none), truth_values_differ_proves), ((from_none, some_holds_proves), ((from_more 14 (refl {a = Some facts.some_holds}) from_none, choice_proves), ((from_more 14 (refl {a = Some facts.some_holds}) from_none, choice_on_proves), ((from_none, unique_choice_proves), ((refl, constant_10), ((from_none, identity_proves), ((refl, constant_11), ((from_more 17 (refl {a = Some facts.unique_choice}) from_none, if_true_proves), ((from_more 17 (refl {a = Some facts.unique_choice}) (from_more 11 (refl {a = Some facts.not_as_equation}) from_none), if_false_proves), tt))))))))))))))))))))))) })

pub returns-clause-defs : goal.returns-clause-defs
returns-clause-defs c = made_to c.in_ok-take_steps.ensures.defs c.requires.defs refl

pub returns-clause-logic_facts : goal.returns-clause-logic_facts
returns-clause-logic_facts c = facts_to c.in_ok-take_steps.ensures.facts (refl {a = facts.logic_facts})

pub returns-clause-shelf : goal.returns-clause-shelf
returns-clause-shelf c = c.take_steps.ensures.shelf

pub returns-clause-more : goal.returns-clause-more
returns-clause-more c = c.take_steps.ensures.more

pub returns-clause-keeps : goal.returns-clause-keeps
returns-clause-keeps c = c.take_steps.ensures.keeps

pub returns-in_err-take_steps-clause-shelf : goal.returns-in_err-take_steps-clause-shelf
returns-in_err-take_steps-clause-shelf c = c.take_steps.ensures.shelf

pub returns-in_err-take_steps-clause-more : goal.returns-in_err-take_steps-clause-more
returns-in_err-take_steps-clause-more c = c.take_steps.ensures.more

pub returns-in_err-take_steps-clause-keeps : goal.returns-in_err-take_steps-clause-keeps
returns-in_err-take_steps-clause-keeps c = c.take_steps.ensures.keeps
