-- Written by `python3 tools/library.py write` from the scripts of tools/library/.
use Rattle.std.proofs.Common.{refl, Some}
use Rattle.library_steps.proofs.Computed.{from_none, from_more}
use Rattle.library_steps.proofs.Taken.{both_on, can_take, made_to, facts_to}
use Rattle.th_count.proofs.CsetsTables.{cset_inhabited_shows, cset_abs_rep_proves, cset_rep_abs_proves, cset_countable_proves, cset_extensionality_proves, cset_member_proves, constant_45, constant_46, cset_map_member_proves, cset_map_is_proves, cset_map_exists_proves, cset_map_id_proves, cset_map_comp_proves, constant_47, cset_set_is_rep_proves, cset_set_member_proves, cset_set_map_proves, cset_set_count_proves, cset_map_cong_proves}
use Rattle.th_count.specs.Facts as facts
use Rattle.th_base.specs.Facts as th_base
use Rattle.th_count.proofs.building.build_csets.Goals as goal

pub take_steps-requires-clause-rules : goal.take_steps-requires-clause-rules
take_steps-requires-clause-rules c = c.requires.rules

pub take_steps-requires-clause-shelf : goal.take_steps-requires-clause-shelf
take_steps-requires-clause-shelf c = c.requires.shelf

pub take_steps-requires-clause-fit : goal.take_steps-requires-clause-fit
take_steps-requires-clause-fit c = can_take c.requires.defs (both_on c.requires.base_facts (both_on c.requires.num_facts (both_on c.requires.countable_facts c.requires.union_facts))) (record { all = ((refl, cset_inhabited_shows), ((from_none, cset_abs_rep_proves), ((from_none, cset_rep_abs_proves), ((from_more 117 (refl {a = Some facts.cset_abs_rep}) (from_more 118 (refl {a = Some facts.cset_rep_abs}) from_none), cset_countable_proves), ((from_more 1 (refl {a = Some th_base.extensionality}) (from_more 117 (refl {a = Some facts.cset_abs_rep}) from_none), cset_extensionality_proves), ((from_more 118 (refl {a = Some facts.cset_rep_abs}) from_none, cset_member_proves), ((refl, constant_45), ((refl, constant_46), ((from_more 111 (refl {a = Some facts.countable_image}) (from_more 119 (refl {a = Some facts.cset_countable}) (from_more 121 (refl {a = Some facts.cset_member}) from_none)), cset_map_member_proves), ((from_more 122 (refl {a = Some facts.cset_map_member}) (from_more 120 (refl {a = Some facts.cset_extensionality}) from_none), cset_map_is_proves), ((from_more 122 (refl {a = Some facts.cset_map_member}) from_none, cset_map_exists_proves), ((from_more 18 (refl {a = Some th_base.identity}) (from_more 123 (refl {a = Some facts.cset_map_is}) from_none), cset_map_id_proves), ((from_more 124 (refl {a = Some facts.cset_map_exists}) (from_more 122 (refl {a = Some facts.cset_map_member}) (from_more 123 (refl {a = Some facts.cset_map_is}) from_none)), cset_map_comp_proves), ((refl, constant_47), ((from_none, cset_set_is_rep_proves), ((from_none, cset_set_member_proves), ((from_more 127 (refl {a = Some facts.cset_set_is_rep}) (from_more 122 (refl {a = Some facts.cset_map_member}) from_none), cset_set_map_proves), ((from_more 119 (refl {a = Some facts.cset_countable}) (from_more 127 (refl {a = Some facts.cset_set_is_rep}) from_none), cset_set_count_proves), ((from_more 127 (refl {a = Some facts.cset_set_is_rep}) (from_more 122 (refl {a = Some facts.cset_map_member}) (from_more 123 (refl {a = Some facts.cset_map_is}) from_none)), cset_map_cong_proves), tt))))))))))))))))))) })

pub returns-clause-defs : goal.returns-clause-defs
returns-clause-defs c = made_to c.in_ok-take_steps.ensures.defs c.requires.defs refl

pub returns-clause-cset_facts : goal.returns-clause-cset_facts
returns-clause-cset_facts c = facts_to c.in_ok-take_steps.ensures.facts (refl {a = facts.cset_facts})

pub returns-clause-shelf : goal.returns-clause-shelf
returns-clause-shelf c = c.take_steps.ensures.shelf

pub returns-clause-more : goal.returns-clause-more
returns-clause-more c = c.take_steps.ensures.more

pub returns-clause-keeps : goal.returns-clause-keeps
returns-clause-keeps c = c.take_steps.ensures.keeps

pub returns-in_err-take_steps-clause-shelf : goal.returns-in_err-take_steps-clause-shelf
returns-in_err-take_steps-clause-shelf c = c.take_steps.ensures.shelf

pub returns-in_err-take_steps-clause-more : goal.returns-in_err-take_steps-clause-more
returns-in_err-take_steps-clause-more c = c.take_steps.ensures.more

pub returns-in_err-take_steps-clause-keeps : goal.returns-in_err-take_steps-clause-keeps
returns-in_err-take_steps-clause-keeps c = c.take_steps.ensures.keeps
