-- Written by `python3 tools/library.py write` from the scripts of tools/library/.
use Rattle.std.proofs.Common.{refl, Some}
use Rattle.library_steps.proofs.Computed.{from_none, from_more}
use Rattle.library_steps.proofs.Taken.{both_on, can_take, made_to, facts_to}
use Rattle.th_base.proofs.SumsTables.{constant_23, constant_24, sum_inhabited_shows, sum_abs_rep_proves, sum_rep_abs_proves, constant_26, constant_27, inl_rep_proves, inr_rep_proves, inl_injective_proves, inr_injective_proves, inl_not_inr_proves, inr_not_inl_proves, inl_or_inr_proves, constant_28, case_inl_proves, case_inr_proves, constant_29, constant_30, constant_31, constant_32}
use Rattle.th_base.specs.Facts as facts
use Rattle.th_base.proofs.building.build_sums.Goals as goal

pub take_steps-requires-clause-rules : goal.take_steps-requires-clause-rules
take_steps-requires-clause-rules c = c.requires.rules

pub take_steps-requires-clause-shelf : goal.take_steps-requires-clause-shelf
take_steps-requires-clause-shelf c = c.requires.shelf

pub take_steps-requires-clause-fit : goal.take_steps-requires-clause-fit
take_steps-requires-clause-fit c = can_take c.requires.defs (both_on c.requires.logic_facts c.requires.product_facts) (record { all = ((refl, constant_23), ((refl, constant_24), ((refl, sum_inhabited_shows), ((from_none, sum_abs_rep_proves), ((from_none, sum_rep_abs_proves), ((refl, constant_26), ((refl, constant_27), ((from_more 33 (refl {a = Some facts.sum_rep_abs}) from_none, inl_rep_proves), ((from_more 33 (refl {a = Some facts.sum_rep_abs}) from_none, inr_rep_proves), ((from_more 34 (refl {a = Some facts.inl_rep}) (from_more 0 (refl {a = Some facts.truth}) from_none), inl_injective_proves), ((from_more 35 (refl {a = Some facts.inr_rep}) from_none, inr_injective_proves), ((from_more 34 (refl {a = Some facts.inl_rep}) (from_more 35 (refl {a = Some facts.inr_rep}) (from_more 0 (refl {a = Some facts.truth}) from_none)), inl_not_inr_proves), ((from_more 38 (refl {a = Some facts.inl_not_inr}) from_none, inr_not_inl_proves), ((from_more 32 (refl {a = Some facts.sum_abs_rep}) (from_more 33 (refl {a = Some facts.sum_rep_abs}) from_none), inl_or_inr_proves), ((refl, constant_28), ((from_more 14 (refl {a = Some facts.some_holds}) (from_more 36 (refl {a = Some facts.inl_injective}) (from_more 38 (refl {a = Some facts.inl_not_inr}) from_none)), case_inl_proves), ((from_more 14 (refl {a = Some facts.some_holds}) (from_more 39 (refl {a = Some facts.inr_not_inl}) (from_more 37 (refl {a = Some facts.inr_injective}) from_none)), case_inr_proves), ((refl, constant_29), ((refl, constant_30), ((refl, constant_31), ((refl, constant_32), tt))))))))))))))))))))) })

pub returns-clause-defs : goal.returns-clause-defs
returns-clause-defs c = made_to c.in_ok-take_steps.ensures.defs c.requires.defs refl

pub returns-clause-sum_facts : goal.returns-clause-sum_facts
returns-clause-sum_facts c = facts_to c.in_ok-take_steps.ensures.facts (refl {a = facts.sum_facts})

pub returns-clause-shelf : goal.returns-clause-shelf
returns-clause-shelf c = c.take_steps.ensures.shelf

pub returns-clause-more : goal.returns-clause-more
returns-clause-more c = c.take_steps.ensures.more

pub returns-clause-keeps : goal.returns-clause-keeps
returns-clause-keeps c = c.take_steps.ensures.keeps

pub returns-in_err-take_steps-clause-shelf : goal.returns-in_err-take_steps-clause-shelf
returns-in_err-take_steps-clause-shelf c = c.take_steps.ensures.shelf

pub returns-in_err-take_steps-clause-more : goal.returns-in_err-take_steps-clause-more
returns-in_err-take_steps-clause-more c = c.take_steps.ensures.more

pub returns-in_err-take_steps-clause-keeps : goal.returns-in_err-take_steps-clause-keeps
returns-in_err-take_steps-clause-keeps c = c.take_steps.ensures.keeps
