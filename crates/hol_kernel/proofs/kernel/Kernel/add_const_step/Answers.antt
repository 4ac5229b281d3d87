use Rattle.std.proofs.Common.{◌≡◌, [], List, length, refl, sym, ap, ◌∙◌, subst, string_bytes}
use Rattle.hol_terms.specs.Definition.{Definition, const_def, signature_of}
use Rattle.hol_terms.specs.Sequent.{seq, eq_tm}
use Rattle.hol_terms.specs.Typing.{tm_type}
use Rattle.hol_terms.specs.TyVars.{own_const}
use Rattle.hol_terms.specs.declared.defs.Def.TheVariants.{Const}
use Rattle.hol_terms.specs.Table.{introduces_new}
use Rattle.hol_terms.specs.Proves.{IsConstDef}
use Rattle.hol_kernel.specs.declared.step.Step.TheVariants as step
use Rattle.hol_kernel.proofs.Adding.{conservative_new}
use Rattle.hol_kernel.proofs.Keeping.{kept_const, pushed, defined_derivable}
use Rattle.hol_kernel.proofs.kernel.Kernel.add_const_step.Goals as goal

pub add_def-requires-clause-new : goal.add_def-requires-clause-new
add_def-requires-clause-new c =
    let d = const_def (string_bytes c.args.name) c.args.body in
    let table : c.self.inside.sig ≡ signature_of c.args.self.now.defs = c.self.invariant.table ∙ ap (λ k. signature_of k.defs) c.self.view_is in
    ap (λ s. introduces_new s d) table ∙ conservative_new c.args.self.now.defs d c.requires.fit

pub said-requires : goal.said-requires
said-requires c =
    let fit = subst (λ (es : List Definition). IsConstDef es (string_bytes c.args.name) c.args.body) (sym (ap (λ k. k.defs) c.self.view_is)) c.requires.fit in
    defined_derivable _ _ _ _ c.self.invariant.conservative fit c.in_ok-history.ensures (ap (seq []) c.requires.said)

pub invariant_of-self-2 : goal.invariant_of-self-2
invariant_of-self-2 c =
    let fit = subst (λ (es : List Definition). IsConstDef es (string_bytes c.args.name) c.args.body) (sym (ap (λ k. k.defs) c.self.view_is)) c.requires.fit in
    let a = c.self.inside in
    let said : c.of_none.result ≡ seq [] (eq_tm (own_const (string_bytes c.args.name) (tm_type c.args.body)) c.args.body) = c.of_none.ensures ∙ ap (seq []) c.requires.said in
    let place : c.len-place.result ≡ length a.defs.items = c.len-place.ensures ∙ a.defs.ok.0 in
    let number : c.len-number.result ≡ length a.steps.items = c.len-number.ensures ∙ a.steps.ok.0 in
    kept_const a _ c.args.name c.args.body c.self.invariant fit
    (pushed a.defs.items (Const c.args.name c.args.body) (Const c.args.name c.args.body) c.push_within-4.ensures.items c.make_room.ensures.defs refl)
    c.in_ok-history.ensures
    c.in_ok-add_def.ensures.ok
    (pushed a.steps.items c.of_none.result _ c.push_within.ensures.items c.make_room.ensures.steps said)
    (pushed a.log.items (step.Const c.len-place.result) _ c.push_within-2.ensures.items c.make_room.ensures.log (ap step.Const place))
    (pushed a.made.items c.len-number.result _ c.push_within-3.ensures.items c.make_room.ensures.made number)
