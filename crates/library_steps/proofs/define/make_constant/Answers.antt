use Rattle.std.proofs.Common.{List, ◌++◌, ◌∷◌, [], sym, ap, ◌∙◌, subst, refl}
use Rattle.hol_terms.specs.Definition.{Definition, const_def}
use Rattle.hol_terms.specs.Proves.{IsConstDef}
use Rattle.hol_terms.proofs.BaseTyped.{const_def_at}
use Rattle.hol_kernel.proofs.Fitting.{fault_free}
use Rattle.stmt_core.proofs.BaseSteps.{base-push}
use Rattle.library_steps.proofs.Defined.{step_keeps, keeps_same}
use Rattle.library_steps.proofs.define.make_constant.Goals as goal

pub define-requires-clause-fit : goal.define-requires-clause-fit
define-requires-clause-fit c =
    let fit : IsConstDef c.args.k.now.defs c.args.name.now c.args.body.now =
    subst (λ (ds : List Definition). IsConstDef ds c.args.name.now c.args.body.now) (sym c.requires.so_far) (const_def_at c.args.place _ _ _ c.requires.next refl) in
    fault_free _ _ _ fit

pub define-requires-clause-typed : goal.define-requires-clause-typed
define-requires-clause-typed c =
    let fit : IsConstDef c.args.k.now.defs c.args.name.now c.args.body.now =
    subst (λ (ds : List Definition). IsConstDef ds c.args.name.now c.args.body.now) (sym c.requires.so_far) (const_def_at c.args.place _ _ _ c.requires.next refl) in
    fit.typed

pub returns-clause-made : goal.returns-clause-made
returns-clause-made c =
    ap (λ k. k.defs) c.in_ok-_th.ensures.ok.state ∙ ap (λ ds. ds ++ const_def c.args.name.now c.args.body.now ∷ []) c.requires.so_far ∙ base-push c.args.place _ c.requires.next

pub returns-clause-keeps : goal.returns-clause-keeps
returns-clause-keeps c = step_keeps _ _ _ _ _ c.in_ok-_th.ensures.ok c.define.ensures.keeps

pub returns-in_err-_th-clause-keeps : goal.returns-in_err-_th-clause-keeps
returns-in_err-_th-clause-keeps c = keeps_same _ _ c.in_err-_th.ensures.err
