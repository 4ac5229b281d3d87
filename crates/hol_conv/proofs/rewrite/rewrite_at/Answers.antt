use Rattle.std.proofs.Common.{ap, ◌∙◌}
use Rattle.hol_terms.specs.Typing.{tm_type}
use Rattle.hol_terms.specs.Sequent.{seq, left_of}
use Rattle.hol_terms.specs.Replacing.{replaced_at}
use Rattle.hol_conv.proofs.RewriteLemmas.{sides}
use Rattle.hol_conv.proofs.PlaceLemmas.{place, context_of_path, path_filled}
use Rattle.hol_conv.proofs.rewrite.rewrite_at.Goals as goal

pub rewrite_under-requires-clause-over : goal.rewrite_under-requires-clause-over
rewrite_under-requires-clause-over c =
    let s = sides c.args.k.now c.args.eq.now c.requires.has_eq c.concl.ensures.derivable c.requires.equation in
    let p = place c.args.k.now c.args.t.now c.args.eq.now c.in_ok-v.v c.type_of.result.now s c.in_ok-v.ensures (c.type_of.ensures ∙ ap tm_type (c.left.ensures ∙ ap left_of c.concl.ensures.value)) in
    context_of_path c.args.k.now c.args.path.now c.args.t.now c.in_ok-context.context c.args.eq.now c.in_ok-v.v p c.requires.place c.requires.over (c.in_ok-context.ensures.exact ∙ ap (λ x. replaced_at c.args.path.now x c.args.t.now) c.in_ok-place.ensures)

pub rewrite_under-requires-clause-over_v : goal.rewrite_under-requires-clause-over_v
rewrite_under-requires-clause-over_v c =
    let s = sides c.args.k.now c.args.eq.now c.requires.has_eq c.concl.ensures.derivable c.requires.equation in
    let p = place c.args.k.now c.args.t.now c.args.eq.now c.in_ok-v.v c.type_of.result.now s c.in_ok-v.ensures (c.type_of.ensures ∙ ap tm_type (c.left.ensures ∙ ap left_of c.concl.ensures.value)) in
    p.over

pub rewrite_under-requires-clause-sides : goal.rewrite_under-requires-clause-sides
rewrite_under-requires-clause-sides c = sides c.args.k.now c.args.eq.now c.requires.has_eq c.concl.ensures.derivable c.requires.equation

pub returns-clause-exact : goal.returns-clause-exact
returns-clause-exact c =
    let s = sides c.args.k.now c.args.eq.now c.requires.has_eq c.concl.ensures.derivable c.requires.equation in
    let p = place c.args.k.now c.args.t.now c.args.eq.now c.in_ok-v.v c.type_of.result.now s c.in_ok-v.ensures (c.type_of.ensures ∙ ap tm_type (c.left.ensures ∙ ap left_of c.concl.ensures.value)) in
    c.in_ok-th.ensures.exact
    ∙ ap (seq c.args.eq.now.sequent.hyps) (path_filled c.args.k.now c.args.path.now c.args.t.now c.in_ok-context.context c.args.eq.now c.in_ok-v.v p s c.requires.over c.requires.place (c.in_ok-context.ensures.exact ∙ ap (λ x. replaced_at c.args.path.now x c.args.t.now) c.in_ok-place.ensures))
