use Rattle.std.proofs.Common.{[], ◌∷◌, Some, ap, sym, ◌∙◌}
use Rattle.hol_terms.specs.Typing.{tm_type}
use Rattle.hol_terms.specs.Binding.{tm_inst}
use Rattle.hol_terms.specs.Definition.{signature_of}
use Rattle.hol_terms.specs.Sequent.{seq, eq_tm, left_of, union}
use Rattle.hol_terms.proofs.Same.{same-is}
use Rattle.hol_terms.proofs.Checked.{same_ty-is}
use Rattle.hol_terms.proofs.InstLemmas.{IsOver-closed}
use Rattle.kernel_lines.proofs.Given.{grows_on}
use Rattle.kernel_lines.proofs.Had.{if_true, if_some}
use Rattle.nd_rules.proofs.Hypotheses.{ascends}
use Rattle.nd_rules.proofs.Shapes.{both_left, both_right}
use Rattle.nd_rules.proofs.BinderCases.{context_is, context_case, inst_bool, predicate_grows}
use Rattle.nd_rules.proofs.rules.Rules.subst.Goals as goal

pub mk_abs-requires : goal.mk_abs-requires
mk_abs-requires c = IsOver-closed (signature_of c.args.k.now.defs) [] c.args.t.now c.requires.over_t

pub sides-requires-clause-equation : goal.sides-requires-clause-equation
sides-requires-clause-equation c = same-is _ _ (both_left _ _ (if_true _ _ c.requires.fits))

pub case-requires-clause-predicate : goal.case-requires-clause-predicate
case-requires-clause-predicate c =
    let sig = signature_of c.args.k.now.defs in
    let v = c.args.v.now in
    let t = c.args.t.now in
    let g = if_true _ _ c.requires.fits in
    let d = same_ty-is _ _ (both_left _ _ (both_right _ _ g)) in
    let b = inst_bool v (left_of c.args.a.now.sequent.concl) t c.args.b.now.sequent.concl d (same-is _ _ (both_right _ _ (both_right _ _ g))) (ap tm_type (sym c.conclusion-before.ensures.value) ∙ c.conclusion-before.ensures.boolean) in
    let s = ap tm_type c.sides.ensures.first ∙ d in
    context_is sig v t c.sides.result.0.now c.in_ok-context.context c.requires.over_v c.requires.over_t b s c.in_ok-context.ensures

pub case-requires-2-clause-predicate : goal.case-requires-2-clause-predicate
case-requires-2-clause-predicate c =
    let sig = signature_of c.args.k.now.defs in
    let v = c.args.v.now in
    let t = c.args.t.now in
    let g = if_true _ _ c.requires.fits in
    let d = same_ty-is _ _ (both_left _ _ (both_right _ _ g)) in
    let b = inst_bool v (left_of c.args.a.now.sequent.concl) t c.args.b.now.sequent.concl d (same-is _ _ (both_right _ _ (both_right _ _ g))) (ap tm_type (sym c.conclusion-before.ensures.value) ∙ c.conclusion-before.ensures.boolean) in
    let s = ap tm_type c.sides.ensures.first ∙ d in
    predicate_grows _ _ (context_is sig v t c.sides.result.1.now c.in_ok-context.context c.requires.over_v c.requires.over_t b (c.sides.ensures.typed ∙ s) c.in_ok-context.ensures) c.in_ok-from.ensures.grows

pub returns-in_err-to-clause-grows : goal.returns-in_err-to-clause-grows
returns-in_err-to-clause-grows c = grows_on c.in_ok-from.ensures.grows c.in_err-to.ensures.grows

pub in_context-requires-clause-predicate : goal.in_context-requires-clause-predicate
in_context-requires-clause-predicate c =
    let sig = signature_of c.args.k.now.defs in
    let v = c.args.v.now in
    let t = c.args.t.now in
    let g = if_true _ _ c.requires.fits in
    let d = same_ty-is _ _ (both_left _ _ (both_right _ _ g)) in
    let b = inst_bool v (left_of c.args.a.now.sequent.concl) t c.args.b.now.sequent.concl d (same-is _ _ (both_right _ _ (both_right _ _ g))) (ap tm_type (sym c.conclusion-before.ensures.value) ∙ c.conclusion-before.ensures.boolean) in
    let s = ap tm_type c.sides.ensures.first ∙ d in
    predicate_grows _ _ (context_is sig v t c.sides.result.0.now c.in_ok-context.context c.requires.over_v c.requires.over_t b s c.in_ok-context.ensures) (grows_on c.in_ok-from.ensures.grows c.in_ok-to.ensures.grows)

pub in_context-requires-clause-is_a : goal.in_context-requires-clause-is_a
in_context-requires-clause-is_a c = same-is _ _ (both_left _ _ (if_true _ _ c.requires.fits)) ∙ (λ i. eq_tm (sym c.sides.ensures.first i) (sym c.sides.ensures.second i))

pub in_context-requires-clause-is_b : goal.in_context-requires-clause-is_b
in_context-requires-clause-is_b c =
    let sig = signature_of c.args.k.now.defs in
    let v = c.args.v.now in
    let t = c.args.t.now in
    let g = if_true _ _ c.requires.fits in
    same-is _ _ (both_right _ _ (both_right _ _ g))
    ∙ (ap (λ w. tm_inst ((v, w) ∷ []) t) (sym c.sides.ensures.first) ∙ sym (context_case sig v t c.sides.result.0.now c.in_ok-context.context c.requires.over_t c.sides.ensures.over_first c.in_ok-context.ensures))

pub in_context-requires-clause-ascends : goal.in_context-requires-clause-ascends
in_context-requires-clause-ascends c = ascends c.conclusion-equation.ensures.derivable

pub returns-in_err-th-clause-grows : goal.returns-in_err-th-clause-grows
returns-in_err-th-clause-grows c = grows_on (grows_on c.in_ok-from.ensures.grows c.in_ok-to.ensures.grows) c.in_context.ensures.grows

pub returns-clause-exact : goal.returns-clause-exact
returns-clause-exact c =
    let sig = signature_of c.args.k.now.defs in
    let v = c.args.v.now in
    let t = c.args.t.now in
    let g = if_true _ _ c.requires.fits in
    if_some _ _ c.requires.fits
    ∙ ap Some (ap (seq (union c.args.a.now.sequent.hyps c.args.b.now.sequent.hyps))
    (ap (λ w. tm_inst ((v, w) ∷ []) t) (sym c.sides.ensures.second) ∙ sym (context_case sig v t c.sides.result.1.now c.in_ok-context.context c.requires.over_t c.sides.ensures.over_second c.in_ok-context.ensures))
    ∙ sym c.in_ok-th.ensures.exact)

pub returns-clause-grows : goal.returns-clause-grows
returns-clause-grows c = grows_on (grows_on c.in_ok-from.ensures.grows c.in_ok-to.ensures.grows) c.in_context.ensures.grows
