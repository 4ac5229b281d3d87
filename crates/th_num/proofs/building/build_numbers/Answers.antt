-- Written by `python3 tools/library.py write` from the scripts of tools/library/.
use Rattle.std.proofs.Common.{refl, Some}
use Rattle.library_steps.proofs.Computed.{from_none, from_more}
use Rattle.library_steps.proofs.Taken.{can_take, made_to, facts_to}
use Rattle.th_num.proofs.NumbersTables.{constant_33, ind_infinite_proves, constant_34, zero_ind_not_suc_proves, constant_35, zero_ind_is_num_proves, suc_ind_is_num_proves, num_inhabited_shows, num_abs_rep_proves, num_rep_abs_proves, rep_is_num_proves, constant_37, rep_zero_proves, constant_38, rep_suc_proves, suc_not_zero_proves, suc_injective_proves, num_induction_proves, num_cases_proves}
use Rattle.th_num.specs.Facts as facts
use Rattle.th_base.specs.Facts as th_base
use Rattle.th_num.proofs.building.build_numbers.Goals as goal

pub take_steps-requires-clause-rules : goal.take_steps-requires-clause-rules
take_steps-requires-clause-rules c = c.requires.rules

pub take_steps-requires-clause-shelf : goal.take_steps-requires-clause-shelf
take_steps-requires-clause-shelf c = c.requires.shelf

pub take_steps-requires-clause-fit : goal.take_steps-requires-clause-fit
take_steps-requires-clause-fit c = can_take c.requires.defs c.requires.base_facts (record { all = ((refl, constant_33), ((from_more 14 (refl {a = Some th_base.some_holds}) from_none, ind_infinite_proves), ((refl, constant_34), ((from_more 43 (refl {a = Some facts.ind_infinite}) (from_more 10 (refl {a = Some th_base.not_all}) (from_more 14 (refl {a = Some th_base.some_holds}) from_none)), zero_ind_not_suc_proves), ((refl, constant_35), ((from_none, zero_ind_is_num_proves), ((from_none, suc_ind_is_num_proves), ((refl, num_inhabited_shows), ((from_none, num_abs_rep_proves), ((from_none, num_rep_abs_proves), ((from_more 47 (refl {a = Some facts.num_abs_rep}) (from_more 48 (refl {a = Some facts.num_rep_abs}) from_none), rep_is_num_proves), ((refl, constant_37), ((from_more 48 (refl {a = Some facts.num_rep_abs}) (from_more 45 (refl {a = Some facts.zero_ind_is_num}) from_none), rep_zero_proves), ((refl, constant_38), ((from_more 46 (refl {a = Some facts.suc_ind_is_num}) (from_more 49 (refl {a = Some facts.rep_is_num}) (from_more 48 (refl {a = Some facts.num_rep_abs}) from_none)), rep_suc_proves), ((from_more 51 (refl {a = Some facts.rep_suc}) (from_more 50 (refl {a = Some facts.rep_zero}) (from_more 44 (refl {a = Some facts.zero_ind_not_suc}) from_none)), suc_not_zero_proves), ((from_more 51 (refl {a = Some facts.rep_suc}) (from_more 43 (refl {a = Some facts.ind_infinite}) (from_more 47 (refl {a = Some facts.num_abs_rep}) from_none)), suc_injective_proves), ((from_more 49 (refl {a = Some facts.rep_is_num}) (from_more 45 (refl {a = Some facts.zero_ind_is_num}) (from_more 48 (refl {a = Some facts.num_rep_abs}) (from_more 46 (refl {a = Some facts.suc_ind_is_num}) (from_more 47 (refl {a = Some facts.num_abs_rep}) from_none)))), num_induction_proves), ((from_more 54 (refl {a = Some facts.num_induction}) from_none, num_cases_proves), tt))))))))))))))))))) })

pub returns-clause-defs : goal.returns-clause-defs
returns-clause-defs c = made_to c.in_ok-take_steps.ensures.defs c.requires.defs refl

pub returns-clause-number_facts : goal.returns-clause-number_facts
returns-clause-number_facts c = facts_to c.in_ok-take_steps.ensures.facts (refl {a = facts.number_facts})

pub returns-clause-shelf : goal.returns-clause-shelf
returns-clause-shelf c = c.take_steps.ensures.shelf

pub returns-clause-more : goal.returns-clause-more
returns-clause-more c = c.take_steps.ensures.more

pub returns-clause-keeps : goal.returns-clause-keeps
returns-clause-keeps c = c.take_steps.ensures.keeps

pub returns-in_err-take_steps-clause-shelf : goal.returns-in_err-take_steps-clause-shelf
returns-in_err-take_steps-clause-shelf c = c.take_steps.ensures.shelf

pub returns-in_err-take_steps-clause-more : goal.returns-in_err-take_steps-clause-more
returns-in_err-take_steps-clause-more c = c.take_steps.ensures.more

pub returns-in_err-take_steps-clause-keeps : goal.returns-in_err-take_steps-clause-keeps
returns-in_err-take_steps-clause-keeps c = c.take_steps.ensures.keeps
