use Rattle.std.proofs.Common.{[], List, ap, arith, sym, subst}
use Rattle.hol_terms.specs.Definition.{Definition}
use Rattle.hol_terms.specs.Sequent.{seq}
use Rattle.hol_terms.specs.Proves.{IsDerivable}
use Rattle.hol_kernel.proofs.Recall.{recall, recalled_below, recalled_row, recalled_says, recalled_has}
use Rattle.hol_kernel.proofs.kernel.Kernel.says.Goals as goal

pub overflow_add-step : goal.overflow_add-step
overflow_add-step c =
    let r = recall c.self.inside c.args.self.now c.args.i c.args.j c.index.result.now c.self.invariant c.self.view_is c.requires c.index.ensures in
    let below = recalled_below c.self.inside.steps.items (ap (λ k. k.steps) c.self.view_is) r in
    let len = c.self.inside.steps.ok.0 in
    let small = c.self.inside.steps.small in
    omega arith

pub index-requires-2 : goal.index-requires-2
index-requires-2 c =
    let r = recall c.self.inside c.args.self.now c.args.i c.args.j c.index.result.now c.self.invariant c.self.view_is c.requires c.index.ensures in
    let below = recalled_below c.self.inside.steps.items (ap (λ k. k.steps) c.self.view_is) r in
    omega (arith, c.self.inside.steps.ok.0)

pub said-requires : goal.said-requires
said-requires c =
    let r = recall c.self.inside c.args.self.now c.args.i c.args.j c.index.result.now c.self.invariant c.self.view_is c.requires c.index.ensures in
    let e = recalled_row c.self.inside.steps.items c.index-2.result.now _ (ap (λ k. k.steps) c.self.view_is) r c.behind-self.view_is c.index-2.ensures in
    subst (λ (ds : List Definition). IsDerivable ds (seq [] c.behind-self.inside.concl)) (sym (ap (λ k. k.defs) c.self.view_is)) (rw e r.derivable)

pub returns-clause-said : goal.returns-clause-said
returns-clause-said c =
    let r = recall c.self.inside c.args.self.now c.args.i c.args.j c.index.result.now c.self.invariant c.self.view_is c.requires c.index.ensures in
    let e = recalled_row c.self.inside.steps.items c.index-2.result.now _ (ap (λ k. k.steps) c.self.view_is) r c.behind-self.view_is c.index-2.ensures in
    recalled_says c.in_ok-th.th _ r e (ap (λ t. t.sequent) c.in_ok-th.ensures)

pub returns-clause-has : goal.returns-clause-has
returns-clause-has c =
    let r = recall c.self.inside c.args.self.now c.args.i c.args.j c.index.result.now c.self.invariant c.self.view_is c.requires c.index.ensures in
    let e = recalled_row c.self.inside.steps.items c.index-2.result.now _ (ap (λ k. k.steps) c.self.view_is) r c.behind-self.view_is c.index-2.ensures in
    recalled_has c.in_ok-th.th _ _ r e (ap (λ k. k.defs) c.self.view_is) c.in_ok-th.ensures
