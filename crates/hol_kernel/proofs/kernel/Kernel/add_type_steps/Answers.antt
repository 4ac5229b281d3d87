use Rattle.std.proofs.Common.{◌≡◌, ◌+◌, [], length, refl, sym, ap, ◌∙◌, subst, string_bytes}
use Rattle.hol_terms.specs.Definition.{type_def}
use Rattle.hol_terms.specs.Sequent.{seq}
use Rattle.hol_terms.specs.Table.{introduces_new}
use Rattle.hol_terms.specs.declared.defs.Def.TheVariants.{NewType}
use Rattle.hol_kernel.specs.State.{State}
use Rattle.hol_kernel.specs.NewType.{IsShownAt}
use Rattle.hol_kernel.specs.declared.step.Step.TheVariants as step
use Rattle.hol_kernel.proofs.Adding.{conservative_new}
use Rattle.hol_kernel.proofs.Keeping.{kept_type, shown_type, pushed, two_pushed, new_type_is, abs_derivable, rep_derivable}
use Rattle.hol_kernel.proofs.kernel.Kernel.add_type_steps.Goals as goal

pub said-requires : goal.said-requires
said-requires c =
    let fit = shown_type c.self.inside c.args.self.now _ _ _ c.self.invariant c.self.view_is c.requires.fit c.requires.shown in
    abs_derivable _ _ _ _ c.self.invariant.conservative fit c.in_ok-history.ensures (ap (seq []) c.requires.abs)

pub said-requires-2 : goal.said-requires-2
said-requires-2 c =
    let fit = shown_type c.self.inside c.args.self.now _ _ _ c.self.invariant c.self.view_is c.requires.fit c.requires.shown in
    rep_derivable _ _ _ _ c.self.invariant.conservative fit c.in_ok-history.ensures (ap (seq []) c.requires.rep)

pub add_def-requires-clause-new : goal.add_def-requires-clause-new
add_def-requires-clause-new c =
    let d = type_def (string_bytes c.args.name) c.args.pred in
    let fit = shown_type c.self.inside c.args.self.now _ _ _ c.self.invariant c.self.view_is c.requires.fit c.requires.shown in
    ap (λ s. introduces_new s d) c.self.invariant.table ∙ conservative_new c.self.inside.history d fit

pub invariant_of-self-2 : goal.invariant_of-self-2
invariant_of-self-2 c =
    let a = c.self.inside in
    let n = string_bytes c.args.name in
    let p = c.args.pred in
    let fit = shown_type a c.args.self.now n p c.args.from c.self.invariant c.self.view_is c.requires.fit c.requires.shown in
    let shown = subst (λ (k : State). IsShownAt k.steps c.args.from p) (sym c.self.view_is) c.requires.shown in
    let place : c.len-place.result ≡ length a.defs.items = c.len-place.ensures ∙ a.defs.ok.0 in
    let first : c.len-first.result ≡ length a.steps.items = c.len-first.ensures ∙ a.steps.ok.0 in
    kept_type a _ c.args.name p c.args.from c.self.invariant fit shown
    (pushed a.defs.items (NewType c.args.name p c.args.from) (NewType c.args.name p c.args.from) c.push_within-2.ensures.items c.make_room.ensures.defs refl)
    c.in_ok-history.ensures
    c.in_ok-add_def.ensures.ok
    (two_pushed a.steps.items c.of_none-abs.result c.of_none-rep.result _ _ c.push_two_within.ensures c.make_room.ensures.steps (c.of_none-abs.ensures ∙ ap (seq []) c.requires.abs) (c.of_none-rep.ensures ∙ ap (seq []) c.requires.rep))
    (two_pushed a.log.items (step.TypeAbs c.len-place.result) (step.TypeRep c.len-place.result) _ _ c.push_two_within-2.ensures c.make_room.ensures.log (ap step.TypeAbs place) (ap step.TypeRep place))
    (pushed a.made.items c.len-first.result _ c.push_within.ensures.items c.make_room.ensures.made first)

pub returns-clause-ok : goal.returns-clause-ok
returns-clause-ok c =
    let a = c.self.inside in
    let first : c.len-first.result ≡ length a.steps.items = c.len-first.ensures ∙ a.steps.ok.0 in
    let defs = c.in_ok-history.ensures in
    let steps = two_pushed a.steps.items c.of_none-abs.result c.of_none-rep.result _ _ c.push_two_within.ensures c.make_room.ensures.steps (c.of_none-abs.ensures ∙ ap (seq []) c.requires.abs) (c.of_none-rep.ensures ∙ ap (seq []) c.requires.rep) in
    new_type_is (string_bytes c.args.name) c.args.pred c.self.view_is
    (c.in_ok-says_abs.ensures ∙ (λ i. record { defs = defs i; sequent = seq [] (c.requires.abs i); step = first i }))
    (c.in_ok-says_rep.ensures ∙ (λ i. record { defs = defs i; sequent = seq [] (c.requires.rep i); step = first i + 1 }))
    (λ i. record { defs = defs i; steps = steps i })
