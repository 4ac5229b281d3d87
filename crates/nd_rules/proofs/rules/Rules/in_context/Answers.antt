use Rattle.std.proofs.Common.{sym}
use Rattle.hol_terms.proofs.Same.{same_refl}
use Rattle.nd_rules.specs.Facts.{symmetry_fact}
use Rattle.nd_rules.proofs.Shapes.{same_ty_refl, ty_self, some_is}
use Rattle.nd_rules.proofs.BinderLemmas.{union_none}
use Rattle.nd_rules.proofs.rules.Rules.in_context.Goals as goal

pub run_lines-requires-clause-fits : goal.run_lines-requires-clause-fits
unfolding symmetry_fact
run_lines-requires-clause-fits c =
    record { is = simp (c.requires.is_a, c.requires.is_b, c.requires.is_from, c.requires.is_to, c.requires.predicate.typed, c.requires.typed, c.requires.boolean_from, c.requires.boolean_to, c.kept-symmetry.ensures.is, union_none c.args.a.now.sequent.hyps c.requires.ascends, ty_self, same_refl, same_ty_refl) }

pub returns-clause-exact : goal.returns-clause-exact
unfolding symmetry_fact
returns-clause-exact c =
    let r = simp (c.requires.is_a, c.requires.is_b, c.requires.is_from, c.requires.is_to, c.requires.predicate.typed, c.requires.typed, c.requires.boolean_from, c.requires.boolean_to, c.kept-symmetry.ensures.is, union_none c.args.a.now.sequent.hyps c.requires.ascends, ty_self, same_refl, same_ty_refl) at c.in_ok-th.ensures.exact.is in
    sym (some_is _ _ r)
