use Rattle.std.proofs.Common.{refl, length}
use Rattle.std.proofs.lemmas.Option.{slice_get_read}
use Rattle.hol_terms.specs.Logic.{axioms}
use Rattle.replay_check.proofs.BaseTexts.{conclusion_at, no_conclusion_at}
use Rattle.replay_check.proofs.base_texts.conclusion_at.Goals as goal

pub returns-in-Some-clause-some : goal.returns-in-Some-clause-some
returns-in-Some-clause-some c = conclusion_at c.args.texts.now axioms c.args.place _ c.requires (slice_get_read c.args.texts.now (length c.args.texts.now) c.args.place _ refl c.in-Some.ensures.lookup.3.0 c.in-Some.ensures.lookup.1)

pub returns-in-None-clause-none : goal.returns-in-None-clause-none
returns-in-None-clause-none c = no_conclusion_at c.args.texts.now axioms c.args.place c.requires c.in-None.ensures.lookup.3
