-- Written by `python3 tools/library.py write` from the scripts of tools/library/.
use Rattle.std.proofs.Common.{refl, Some}
use Rattle.library_steps.proofs.Computed.{from_none, from_more}
use Rattle.library_steps.proofs.Taken.{can_take, made_to, facts_to}
use Rattle.th_base.proofs.ProductsTables.{unit_inhabited_shows, unit_abs_rep_proves, unit_rep_abs_proves, unit_equal_proves, constant_13, constant_14, prod_inhabited_shows, prod_abs_rep_proves, prod_rep_abs_proves, constant_16, constant_17, constant_18, pair_rep_proves, pair_injective_proves, pair_exhausts_proves, fst_pair_proves, snd_pair_proves, pair_of_components_proves, constant_19, constant_20, constant_21, constant_22}
use Rattle.th_base.specs.Facts as facts
use Rattle.th_base.proofs.building.build_products.Goals as goal

pub take_steps-requires-clause-rules : goal.take_steps-requires-clause-rules
take_steps-requires-clause-rules c = c.requires.rules

pub take_steps-requires-clause-shelf : goal.take_steps-requires-clause-shelf
take_steps-requires-clause-shelf c = c.requires.shelf

pub take_steps-requires-clause-fit : goal.take_steps-requires-clause-fit
take_steps-requires-clause-fit c = can_take c.requires.defs c.requires.logic_facts (record { all = ((refl, unit_inhabited_shows), ((from_none, unit_abs_rep_proves), ((from_none, unit_rep_abs_proves), ((from_more 21 (refl {a = Some facts.unit_abs_rep}) (from_more 22 (refl {a = Some facts.unit_rep_abs}) from_none), unit_equal_proves), ((refl, constant_13), ((refl, constant_14), ((refl, prod_inhabited_shows), ((from_none, prod_abs_rep_proves), ((from_none, prod_rep_abs_proves), ((refl, constant_16), ((refl, constant_17), ((refl, constant_18), ((from_more 25 (refl {a = Some facts.prod_rep_abs}) from_none, pair_rep_proves), ((from_more 26 (refl {a = Some facts.pair_rep}) from_none, pair_injective_proves), ((from_more 24 (refl {a = Some facts.prod_abs_rep}) (from_more 25 (refl {a = Some facts.prod_rep_abs}) from_none), pair_exhausts_proves), ((from_more 17 (refl {a = Some facts.unique_choice}) (from_more 27 (refl {a = Some facts.pair_injective}) from_none), fst_pair_proves), ((from_more 17 (refl {a = Some facts.unique_choice}) (from_more 27 (refl {a = Some facts.pair_injective}) from_none), snd_pair_proves), ((from_more 29 (refl {a = Some facts.fst_pair}) (from_more 30 (refl {a = Some facts.snd_pair}) (from_more 28 (refl {a = Some facts.pair_exhausts}) from_none)), pair_of_components_proves), ((refl, constant_19), ((refl, constant_20), ((refl, constant_21), ((refl, constant_22), tt)))))))))))))))))))))) })

pub returns-clause-defs : goal.returns-clause-defs
returns-clause-defs c = made_to c.in_ok-take_steps.ensures.defs c.requires.defs refl

pub returns-clause-product_facts : goal.returns-clause-product_facts
returns-clause-product_facts c = facts_to c.in_ok-take_steps.ensures.facts (refl {a = facts.product_facts})

pub returns-clause-shelf : goal.returns-clause-shelf
returns-clause-shelf c = c.take_steps.ensures.shelf

pub returns-clause-more : goal.returns-clause-more
returns-clause-more c = c.take_steps.ensures.more

pub returns-clause-keeps : goal.returns-clause-keeps
returns-clause-keeps c = c.take_steps.ensures.keeps

pub returns-in_err-take_steps-clause-shelf : goal.returns-in_err-take_steps-clause-shelf
returns-in_err-take_steps-clause-shelf c = c.take_steps.ensures.shelf

pub returns-in_err-take_steps-clause-more : goal.returns-in_err-take_steps-clause-more
returns-in_err-take_steps-clause-more c = c.take_steps.ensures.more

pub returns-in_err-take_steps-clause-keeps : goal.returns-in_err-take_steps-clause-keeps
returns-in_err-take_steps-clause-keeps c = c.take_steps.ensures.keeps
