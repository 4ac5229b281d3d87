use Rattle.std.proofs.Common.{◌∙◌, sym, ap}
use Rattle.std.proofs.lemmas.Result.{on_ok_weaker}
use Rattle.library_steps.specs.Building.{defs_after, facts_after, facts_on}
use Rattle.library_steps.proofs.Defined.{grows_keeps}
use Rattle.library_steps.proofs.Taken.{constant_fits, type_fits, fact_fits, premises_on, had_keeps, extends_itself}
use Rattle.library_steps.proofs.building.take_step.Goals as goal

-- ---- a constant

pub define_constant-requires-clause-so_far : goal.define_constant-requires-clause-so_far
define_constant-requires-clause-so_far c = (constant_fits _ _ _ c.in-Constant.place c.requires.fits c.in-Constant.is).0

pub define_constant-requires-clause-constant : goal.define_constant-requires-clause-constant
define_constant-requires-clause-constant c = (constant_fits _ _ _ c.in-Constant.place c.requires.fits c.in-Constant.is).1

pub returns-in-Constant-clause-defs : goal.returns-in-Constant-clause-defs
returns-in-Constant-clause-defs c =
    on_ok_weaker c.define_constant.result (λ new. new ∙ sym (ap (defs_after c.args.k.now.defs) c.in-Constant.is)) c.define_constant.ensures.made

pub returns-in-Constant-clause-facts : goal.returns-in-Constant-clause-facts
returns-in-Constant-clause-facts c =
    on_ok_weaker c.define_constant.result (λ new. sym (ap (facts_after (facts_on c.args.s.now)) c.in-Constant.is)) c.define_constant.ensures.made

pub returns-in-Constant-clause-shelf : goal.returns-in-Constant-clause-shelf
returns-in-Constant-clause-shelf c = had_keeps _ _ _ c.requires.shelf c.define_constant.ensures.keeps

pub returns-in-Constant-clause-more : goal.returns-in-Constant-clause-more
returns-in-Constant-clause-more c = extends_itself _

pub returns-in-Constant-clause-keeps : goal.returns-in-Constant-clause-keeps
returns-in-Constant-clause-keeps c = c.define_constant.ensures.keeps

-- ---- a type

pub define_type-requires-clause-rules : goal.define_type-requires-clause-rules
define_type-requires-clause-rules c = c.requires.rules

pub define_type-requires-clause-shelf : goal.define_type-requires-clause-shelf
define_type-requires-clause-shelf c = c.requires.shelf

pub define_type-requires-clause-so_far : goal.define_type-requires-clause-so_far
define_type-requires-clause-so_far c = (type_fits _ _ _ c.in-NewType.place _ c.requires.fits c.in-NewType.is).0

pub define_type-requires-clause-new_type : goal.define_type-requires-clause-new_type
define_type-requires-clause-new_type c = (type_fits _ _ _ c.in-NewType.place _ c.requires.fits c.in-NewType.is).1

pub returns-in-NewType-clause-defs : goal.returns-in-NewType-clause-defs
returns-in-NewType-clause-defs c =
    on_ok_weaker c.define_type.result (λ new. new ∙ sym (ap (defs_after c.args.k.now.defs) c.in-NewType.is)) c.define_type.ensures.made

pub returns-in-NewType-clause-facts : goal.returns-in-NewType-clause-facts
returns-in-NewType-clause-facts c =
    on_ok_weaker c.define_type.result (λ new. sym (ap (facts_after (facts_on c.args.s.now)) c.in-NewType.is)) c.define_type.ensures.made

pub returns-in-NewType-clause-shelf : goal.returns-in-NewType-clause-shelf
returns-in-NewType-clause-shelf c = had_keeps _ _ _ c.requires.shelf c.define_type.ensures.keeps

pub returns-in-NewType-clause-more : goal.returns-in-NewType-clause-more
returns-in-NewType-clause-more c = extends_itself _

pub returns-in-NewType-clause-keeps : goal.returns-in-NewType-clause-keeps
returns-in-NewType-clause-keeps c = c.define_type.ensures.keeps

-- ---- a fact

pub prove-requires-clause-rules : goal.prove-requires-clause-rules
prove-requires-clause-rules c = c.requires.rules

pub prove-requires-clause-shelf : goal.prove-requires-clause-shelf
prove-requires-clause-shelf c = c.requires.shelf

pub prove-requires-clause-listed : goal.prove-requires-clause-listed
prove-requires-clause-listed c = premises_on _ _ (fact_fits _ _ _ c.in-Prove.fact _ _ c.requires.fits c.in-Prove.is).0

pub prove-requires-clause-proves : goal.prove-requires-clause-proves
prove-requires-clause-proves c = (fact_fits _ _ _ c.in-Prove.fact _ _ c.requires.fits c.in-Prove.is).1

pub returns-in-Prove-clause-defs : goal.returns-in-Prove-clause-defs
returns-in-Prove-clause-defs c =
    on_ok_weaker c.prove.result (λ new. c.prove.ensures.grows.defs ∙ sym (ap (defs_after c.args.k.now.defs) c.in-Prove.is)) c.prove.ensures.facts

pub returns-in-Prove-clause-facts : goal.returns-in-Prove-clause-facts
returns-in-Prove-clause-facts c =
    on_ok_weaker c.prove.result (λ new. new ∙ sym (ap (facts_after (facts_on c.args.s.now)) c.in-Prove.is)) c.prove.ensures.facts

pub returns-in-Prove-clause-shelf : goal.returns-in-Prove-clause-shelf
returns-in-Prove-clause-shelf c = c.prove.ensures.shelf

pub returns-in-Prove-clause-more : goal.returns-in-Prove-clause-more
returns-in-Prove-clause-more c = c.prove.ensures.more

pub returns-in-Prove-clause-keeps : goal.returns-in-Prove-clause-keeps
returns-in-Prove-clause-keeps c = grows_keeps _ _ c.prove.ensures.grows
