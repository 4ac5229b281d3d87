-- Written by `python3 tools/library.py write` from the scripts of tools/library/.
use Rattle.std.proofs.Common.{refl, Some}
use Rattle.library_steps.proofs.Computed.{from_none, from_more}
use Rattle.library_steps.proofs.Taken.{both_on, can_take, made_to, facts_to}
use Rattle.th_count.proofs.RelatorsTables.{constant_48, cset_maps_relate_each_proves, cset_maps_related_proves, cset_related_pairs_proves, cset_rel_firsts_proves, cset_rel_seconds_proves}
use Rattle.th_count.specs.Facts as facts
use Rattle.th_base.specs.Facts as th_base
use Rattle.th_count.proofs.building.build_relators.Goals as goal

pub take_steps-requires-clause-rules : goal.take_steps-requires-clause-rules
take_steps-requires-clause-rules c = c.requires.rules

pub take_steps-requires-clause-shelf : goal.take_steps-requires-clause-shelf
take_steps-requires-clause-shelf c = c.requires.shelf

pub take_steps-requires-clause-fit : goal.take_steps-requires-clause-fit
take_steps-requires-clause-fit c = can_take c.requires.defs (both_on c.requires.base_facts (both_on c.requires.num_facts (both_on c.requires.countable_facts (both_on c.requires.union_facts c.requires.cset_facts)))) (record { all = ((refl, constant_48), ((from_more 122 (refl {a = Some facts.cset_map_member}) (from_more 124 (refl {a = Some facts.cset_map_exists}) from_none), cset_maps_relate_each_proves), ((from_more 132 (refl {a = Some facts.cset_maps_relate_each}) from_none, cset_maps_related_proves), ((from_more 114 (refl {a = Some facts.countable_product}) (from_more 119 (refl {a = Some facts.cset_countable}) (from_more 101 (refl {a = Some facts.countable_subset}) (from_more 118 (refl {a = Some facts.cset_rep_abs}) from_none))), cset_related_pairs_proves), ((from_more 29 (refl {a = Some th_base.fst_pair}) (from_more 30 (refl {a = Some th_base.snd_pair}) from_none), cset_rel_firsts_proves), ((from_more 29 (refl {a = Some th_base.fst_pair}) (from_more 30 (refl {a = Some th_base.snd_pair}) from_none), cset_rel_seconds_proves), tt)))))) })

pub returns-clause-defs : goal.returns-clause-defs
returns-clause-defs c = made_to c.in_ok-take_steps.ensures.defs c.requires.defs refl

pub returns-clause-relator_facts : goal.returns-clause-relator_facts
returns-clause-relator_facts c = facts_to c.in_ok-take_steps.ensures.facts (refl {a = facts.relator_facts})

pub returns-clause-shelf : goal.returns-clause-shelf
returns-clause-shelf c = c.take_steps.ensures.shelf

pub returns-clause-more : goal.returns-clause-more
returns-clause-more c = c.take_steps.ensures.more

pub returns-clause-keeps : goal.returns-clause-keeps
returns-clause-keeps c = c.take_steps.ensures.keeps

pub returns-in_err-take_steps-clause-shelf : goal.returns-in_err-take_steps-clause-shelf
returns-in_err-take_steps-clause-shelf c = c.take_steps.ensures.shelf

pub returns-in_err-take_steps-clause-more : goal.returns-in_err-take_steps-clause-more
returns-in_err-take_steps-clause-more c = c.take_steps.ensures.more

pub returns-in_err-take_steps-clause-keeps : goal.returns-in_err-take_steps-clause-keeps
returns-in_err-take_steps-clause-keeps c = c.take_steps.ensures.keeps
