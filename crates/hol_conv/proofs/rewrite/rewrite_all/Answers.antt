use Rattle.std.proofs.Common.{ap, sym, ◌∙◌}
use Rattle.hol_terms.specs.Typing.{tm_type}
use Rattle.hol_terms.specs.Sequent.{seq, left_of}
use Rattle.hol_terms.specs.Replacing.{replaced, has_subterm}
use Rattle.hol_conv.proofs.RewriteLemmas.{sides}
use Rattle.hol_conv.proofs.PlaceLemmas.{place, context_of_all, all_filled, hyps_kept, nothing_rewritten}
use Rattle.hol_conv.proofs.rewrite.rewrite_all.Goals as goal

pub returns-then-not-has_subterm-clause-exact : goal.returns-then-not-has_subterm-clause-exact
returns-then-not-has_subterm-clause-exact c = nothing_rewritten c.args.t.now c.args.eq.now c.in_ok-th.th (ap (λ l. has_subterm l c.args.t.now) (sym (c.left-left.ensures ∙ ap left_of c.concl.ensures.value)) ∙ sym c.has_subterm.ensures ∙ c.if-not-has_subterm.true) c.in_ok-th.ensures.exact

pub rewrite_under-requires-clause-over : goal.rewrite_under-requires-clause-over
rewrite_under-requires-clause-over c =
    let s = sides c.args.k.now c.args.eq.now c.requires.has_eq c.concl.ensures.derivable c.requires.equation in
    let p = place c.args.k.now c.args.t.now c.args.eq.now c.in_ok-v.v c.type_of.result.now s c.in_ok-v.ensures (c.type_of.ensures ∙ ap tm_type (c.left-left.ensures ∙ ap left_of c.concl.ensures.value)) in
    context_of_all c.args.k.now c.args.t.now c.in_ok-context.context c.args.eq.now c.in_ok-v.v p c.requires.over (c.in_ok-context.ensures ∙ (λ i. replaced ((c.left-left.ensures ∙ ap left_of c.concl.ensures.value) i) (c.in_ok-place.ensures i) c.args.t.now))

pub rewrite_under-requires-clause-over_v : goal.rewrite_under-requires-clause-over_v
rewrite_under-requires-clause-over_v c =
    let s = sides c.args.k.now c.args.eq.now c.requires.has_eq c.concl.ensures.derivable c.requires.equation in
    let p = place c.args.k.now c.args.t.now c.args.eq.now c.in_ok-v.v c.type_of.result.now s c.in_ok-v.ensures (c.type_of.ensures ∙ ap tm_type (c.left-left.ensures ∙ ap left_of c.concl.ensures.value)) in
    p.over

pub rewrite_under-requires-clause-sides : goal.rewrite_under-requires-clause-sides
rewrite_under-requires-clause-sides c = sides c.args.k.now c.args.eq.now c.requires.has_eq c.concl.ensures.derivable c.requires.equation

pub returns-clause-exact : goal.returns-clause-exact
returns-clause-exact c =
    let s = sides c.args.k.now c.args.eq.now c.requires.has_eq c.concl.ensures.derivable c.requires.equation in
    let p = place c.args.k.now c.args.t.now c.args.eq.now c.in_ok-v.v c.type_of.result.now s c.in_ok-v.ensures (c.type_of.ensures ∙ ap tm_type (c.left-left.ensures ∙ ap left_of c.concl.ensures.value)) in
    c.in_ok-th-2.ensures.exact
    ∙ (λ i. seq (hyps_kept c.args.t.now c.args.eq.now (ap (λ l. has_subterm l c.args.t.now) (sym (c.left-left.ensures ∙ ap left_of c.concl.ensures.value)) ∙ sym c.has_subterm.ensures ∙ c.if-not-has_subterm.false) i) (all_filled c.args.k.now c.args.t.now c.in_ok-context.context c.args.eq.now c.in_ok-v.v p s c.requires.over (c.in_ok-context.ensures ∙ (λ i. replaced ((c.left-left.ensures ∙ ap left_of c.concl.ensures.value) i) (c.in_ok-place.ensures i) c.args.t.now)) i))
