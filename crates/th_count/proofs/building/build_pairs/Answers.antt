-- Written by `python3 tools/library.py write` from the scripts of tools/library/.
use Rattle.std.proofs.Common.{refl, Some}
use Rattle.library_steps.proofs.Computed.{from_none, from_more}
use Rattle.library_steps.proofs.Taken.{both_on, can_take, made_to, facts_to}
use Rattle.th_count.proofs.PairsTables.{cset_rel_of_pairs_proves, cset_rel_in_proves}
use Rattle.th_count.specs.Facts as facts
use Rattle.th_count.proofs.building.build_pairs.Goals as goal

pub take_steps-requires-clause-rules : goal.take_steps-requires-clause-rules
take_steps-requires-clause-rules c = c.requires.rules

pub take_steps-requires-clause-shelf : goal.take_steps-requires-clause-shelf
take_steps-requires-clause-shelf c = c.requires.shelf

pub take_steps-requires-clause-fit : goal.take_steps-requires-clause-fit
take_steps-requires-clause-fit c = can_take c.requires.defs (both_on c.requires.base_facts (both_on c.requires.num_facts (both_on c.requires.countable_facts (both_on c.requires.union_facts (both_on c.requires.cset_facts c.requires.relator_facts))))) (record { all = ((from_more 123 (refl {a = Some facts.cset_map_is}) (from_more 135 (refl {a = Some facts.cset_rel_firsts}) (from_more 136 (refl {a = Some facts.cset_rel_seconds}) from_none)), cset_rel_of_pairs_proves), ((from_more 137 (refl {a = Some facts.cset_rel_of_pairs}) (from_more 134 (refl {a = Some facts.cset_related_pairs}) (from_more 133 (refl {a = Some facts.cset_maps_related}) (from_more 127 (refl {a = Some facts.cset_set_is_rep}) from_none))), cset_rel_in_proves), tt)) })

pub returns-clause-defs : goal.returns-clause-defs
returns-clause-defs c = made_to c.in_ok-take_steps.ensures.defs c.requires.defs refl

pub returns-clause-pair_facts : goal.returns-clause-pair_facts
returns-clause-pair_facts c = facts_to c.in_ok-take_steps.ensures.facts (refl {a = facts.pair_facts})

pub returns-clause-shelf : goal.returns-clause-shelf
returns-clause-shelf c = c.take_steps.ensures.shelf

pub returns-clause-more : goal.returns-clause-more
returns-clause-more c = c.take_steps.ensures.more

pub returns-clause-keeps : goal.returns-clause-keeps
returns-clause-keeps c = c.take_steps.ensures.keeps

pub returns-in_err-take_steps-clause-shelf : goal.returns-in_err-take_steps-clause-shelf
returns-in_err-take_steps-clause-shelf c = c.take_steps.ensures.shelf

pub returns-in_err-take_steps-clause-more : goal.returns-in_err-take_steps-clause-more
returns-in_err-take_steps-clause-more c = c.take_steps.ensures.more

pub returns-in_err-take_steps-clause-keeps : goal.returns-in_err-take_steps-clause-keeps
returns-in_err-take_steps-clause-keeps c = c.take_steps.ensures.keeps
