-- Written by `python3 tools/library.py write` from the scripts of tools/library/.
use Rattle.std.proofs.Common.{refl, Some}
use Rattle.library_steps.proofs.Computed.{from_none, from_more}
use Rattle.library_steps.proofs.Taken.{both_on, can_take, made_to, facts_to}
use Rattle.th_count.proofs.CompositionsTables.{cset_rel_between_proves, cset_rel_split_proves, cset_rel_forwards_proves, cset_rel_backwards_proves, cset_rel_comp_proves}
use Rattle.th_count.specs.Facts as facts
use Rattle.th_base.specs.Facts as th_base
use Rattle.th_count.proofs.building.build_compositions.Goals as goal

pub take_steps-requires-clause-rules : goal.take_steps-requires-clause-rules
take_steps-requires-clause-rules c = c.requires.rules

pub take_steps-requires-clause-shelf : goal.take_steps-requires-clause-shelf
take_steps-requires-clause-shelf c = c.requires.shelf

pub take_steps-requires-clause-fit : goal.take_steps-requires-clause-fit
take_steps-requires-clause-fit c = can_take c.requires.defs (both_on c.requires.base_facts (both_on c.requires.num_facts (both_on c.requires.countable_facts (both_on c.requires.union_facts (both_on c.requires.cset_facts (both_on c.requires.relator_facts c.requires.pair_facts)))))) (record { all = ((from_more 16 (refl {a = Some th_base.choice_on}) (from_more 133 (refl {a = Some facts.cset_maps_related}) from_none), cset_rel_between_proves), ((from_more 138 (refl {a = Some facts.cset_rel_in}) (from_more 127 (refl {a = Some facts.cset_set_is_rep}) (from_more 139 (refl {a = Some facts.cset_rel_between}) from_none)), cset_rel_split_proves), ((from_none, cset_rel_forwards_proves), ((from_none, cset_rel_backwards_proves), ((from_more 140 (refl {a = Some facts.cset_rel_split}) (from_more 141 (refl {a = Some facts.cset_rel_forwards}) (from_more 142 (refl {a = Some facts.cset_rel_backwards}) from_none)), cset_rel_comp_proves), tt))))) })

pub returns-clause-defs : goal.returns-clause-defs
returns-clause-defs c = made_to c.in_ok-take_steps.ensures.defs c.requires.defs refl

pub returns-clause-composition_facts : goal.returns-clause-composition_facts
returns-clause-composition_facts c = facts_to c.in_ok-take_steps.ensures.facts (refl {a = facts.composition_facts})

pub returns-clause-shelf : goal.returns-clause-shelf
returns-clause-shelf c = c.take_steps.ensures.shelf

pub returns-clause-more : goal.returns-clause-more
returns-clause-more c = c.take_steps.ensures.more

pub returns-clause-keeps : goal.returns-clause-keeps
returns-clause-keeps c = c.take_steps.ensures.keeps

pub returns-in_err-take_steps-clause-shelf : goal.returns-in_err-take_steps-clause-shelf
returns-in_err-take_steps-clause-shelf c = c.take_steps.ensures.shelf

pub returns-in_err-take_steps-clause-more : goal.returns-in_err-take_steps-clause-more
returns-in_err-take_steps-clause-more c = c.take_steps.ensures.more

pub returns-in_err-take_steps-clause-keeps : goal.returns-in_err-take_steps-clause-keeps
returns-in_err-take_steps-clause-keeps c = c.take_steps.ensures.keeps
