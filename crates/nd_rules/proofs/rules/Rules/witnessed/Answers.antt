use Rattle.std.proofs.Common.{sym}
use Rattle.hol_terms.proofs.Same.{same_refl}
use Rattle.nd_rules.specs.Facts.{symmetry_fact, ex_shown_fact}
use Rattle.nd_rules.proofs.Shapes.{same_ty_refl, ty_self, some_is}
use Rattle.hol_terms.specs.Tm.{tm_comb}
use Rattle.hol_terms.specs.Typing.{tm_type}
use Rattle.hol_terms.specs.Logic.{const_ex}
use Rattle.nd_rules.proofs.Hypotheses.{cut_hyps}
use Rattle.nd_rules.proofs.rules.Rules.witnessed.Goals as goal

pub run_lines-requires-clause-fits : goal.run_lines-requires-clause-fits
unfolding symmetry_fact ex_shown_fact
run_lines-requires-clause-fits c =
    record { is = simp (c.requires.is_a, c.requires.is_case, c.requires.predicate.typed, c.requires.boolean, c.kept-symmetry.ensures.is, c.kept-shown.ensures.is, cut_hyps (tm_comb (const_ex (tm_type c.args.t.now)) c.args.p.now) c.args.a.now.sequent.hyps c.requires.ascends, ty_self, same_refl, same_ty_refl) }

pub returns-clause-exact : goal.returns-clause-exact
unfolding symmetry_fact ex_shown_fact
returns-clause-exact c =
    let r = simp (c.requires.is_a, c.requires.is_case, c.requires.predicate.typed, c.requires.boolean, c.kept-symmetry.ensures.is, c.kept-shown.ensures.is, cut_hyps (tm_comb (const_ex (tm_type c.args.t.now)) c.args.p.now) c.args.a.now.sequent.hyps c.requires.ascends, ty_self, same_refl, same_ty_refl) at c.in_ok-th.ensures.exact.is in
    sym (some_is _ _ r)
