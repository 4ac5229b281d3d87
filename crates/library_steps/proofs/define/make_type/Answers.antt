use Rattle.std.proofs.Common.{ap, ◌∙◌}
use Rattle.library_steps.proofs.Defined.{shows_fits, may_make, made_next, grows_keeps, grows_same, type_keeps}
use Rattle.library_steps.proofs.define.make_type.Goals as goal

pub run_closed-requires-clause-fits : goal.run_closed-requires-clause-fits
run_closed-requires-clause-fits c = shows_fits _ c.args.place _ _ c.requires.so_far c.requires.shows

pub define_type-requires-clause-fit : goal.define_type-requires-clause-fit
define_type-requires-clause-fit c = may_make _ _ c.args.place _ _ _ c.requires.so_far c.run_closed.ensures.grows.defs c.requires.shows c.in_ok-th.ensures.exact

pub returns-clause-made : goal.returns-clause-made
returns-clause-made c =
    ap (λ k. k.defs) c.in_ok-_both.ensures.ok.state ∙ made_next _ _ c.args.place _ _ _ c.requires.so_far c.run_closed.ensures.grows.defs c.requires.shows c.in_ok-th.ensures.exact

pub returns-clause-keeps : goal.returns-clause-keeps
returns-clause-keeps c = type_keeps _ _ _ _ _ _ _ c.run_closed.ensures.grows c.in_ok-_both.ensures.ok c.define_type.ensures.keeps

pub returns-in_err-_both-clause-keeps : goal.returns-in_err-_both-clause-keeps
returns-in_err-_both-clause-keeps c = grows_same _ _ _ c.run_closed.ensures.grows c.in_err-_both.ensures.err

pub returns-in_err-th-clause-keeps : goal.returns-in_err-th-clause-keeps
returns-in_err-th-clause-keeps c = grows_keeps _ _ c.run_closed.ensures.grows
