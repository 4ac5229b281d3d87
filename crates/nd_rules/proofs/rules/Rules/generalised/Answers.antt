use Rattle.std.proofs.Common.{sym, ap, ◌∙◌}
use Rattle.hol_terms.specs.Tm.{tm_comb, tm_abs}
use Rattle.hol_terms.specs.Typing.{tm_type}
use Rattle.hol_terms.specs.Notation.{◌⇒◌}
use Rattle.hol_terms.specs.Definition.{bool_ty}
use Rattle.hol_terms.specs.Sequent.{Sequent, seq, eq_tm, left_of}
use Rattle.hol_terms.specs.Rules.{lambda}
use Rattle.hol_terms.specs.Logic.{const_T, const_all}
use Rattle.hol_terms.proofs.KeptTypes.{tm_type-bind}
use Rattle.nd_rules.proofs.rules.Rules.generalised.Goals as goal

pub folded-requires-clause-typed : goal.folded-requires-clause-typed
folded-requires-clause-typed c =
    let e = c.sides.ensures.first ∙ ap (λ (s : Sequent). left_of s.concl) c.in_ok-lambdas.ensures.exact in
    ap tm_type e ∙ (ap (λ t. c.args.v.now.ty ⇒ t) (tm_type-bind 0 c.args.v.now c.args.p.now ∙ c.requires.formula.boolean) ∙ ap (λ t. tm_type t ⇒ bool_ty) (sym c.requires.variable))

pub folded-requires-clause-is : goal.folded-requires-clause-is
folded-requires-clause-is c =
    let e = c.sides.ensures.first ∙ ap (λ (s : Sequent). left_of s.concl) c.in_ok-lambdas.ensures.exact in
    ap (λ (s : Sequent). s.concl) c.in_ok-lambdas.ensures.exact ∙ (λ i. eq_tm (sym e i) (tm_abs (tm_type (sym c.requires.variable i)) const_T))

pub returns-clause-exact : goal.returns-clause-exact
returns-clause-exact c =
    let e = c.sides.ensures.first ∙ ap (λ (s : Sequent). left_of s.concl) c.in_ok-lambdas.ensures.exact in
    c.in_ok-th.ensures.exact
    ∙ ((λ i. seq (c.in_ok-lambdas.ensures.exact i).hyps (tm_comb (const_all (tm_type (c.requires.variable i))) (e i)))
    ∙ ap (λ q. seq c.args.a.now.sequent.hyps (tm_comb (const_all c.args.v.now.ty) (lambda c.args.v.now q))) c.requires.concl)
