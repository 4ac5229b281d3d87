use Rattle.std.proofs.Common.{sym, ap, ◌∙◌, true≢false}
use Rattle.hol_terms.specs.Tm.{tm_comb}
use Rattle.flat_terms.specs.Plain.{term_of}
use Rattle.flat_rules.specs.Equations.{eq_const}
use Rattle.flat_rules.proofs.Sides.{no_equation, no_equality, no_function, no_comb}
use Rattle.flat_rules.proofs.equations.equation.Goals as goal

pub returns-in_default : goal.returns-in_default
returns-in_default c = no_equation (term_of c.args.tables.now c.args.term) (no_comb c.args.tables.now c.args.term c.term_view.result c.term_view.ensures c.in_default.not-Comb)

pub returns-in_default-term_view : goal.returns-in_default-term_view
returns-in_default-term_view c = no_function (term_of c.args.tables.now c.args.term) _ _ c.in-Comb.ensures.3 (no_comb c.args.tables.now c.in-Comb.f c.term_view-2.result c.term_view-2.ensures c.in_default-term_view.not-Comb)

pub returns-else-is_equality : goal.returns-else-is_equality
returns-else-is_equality c =
    no_equality (term_of c.args.tables.now c.args.term) (term_of c.args.tables.now c.in-Comb-term_view.equality) (term_of c.args.tables.now c.in-Comb-term_view.left) (term_of c.args.tables.now c.in-Comb.right) (c.in-Comb.ensures.3 ∙ ap (λ f. tm_comb f (term_of c.args.tables.now c.in-Comb.right)) c.in-Comb-term_view.ensures.3)
    (λ e. true≢false (sym (c.is_equality.ensures.1 (e ∙ sym (ap eq_const c.type_of.ensures.ty))) ∙ c.if-is_equality.false))
