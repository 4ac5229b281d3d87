use Rattle.std.proofs.Common.{ap, ◌∙◌}
use Rattle.hol_terms.specs.Sequent.{seq, eq_tm, left_of, argument}
use Rattle.hol_conv.specs.Reduction.{reduct}
use Rattle.hol_conv.proofs.RewriteLemmas.{context_over, context_closed, over_after, applied_fits, under_fits, under_gives, filled_is}
use Rattle.hol_conv.proofs.rewrite.rewrite_under.Goals as goal

pub mk_abs-requires : goal.mk_abs-requires
mk_abs-requires c = context_closed c.args.k.now c.args.c.now c.requires.over

pub reduce_sides-requires-clause-over_left : goal.reduce_sides-requires-clause-over_left
reduce_sides-requires-clause-over_left c = context_over c.args.k.now c.in_ok-f.f (left_of c.args.eq.now.sequent.concl) c.args.c.now c.args.v.now c.in_ok-f.ensures c.requires.over c.requires.over_v c.requires.sides.left c.requires.typed

pub reduce_sides-requires-clause-over_right : goal.reduce_sides-requires-clause-over_right
reduce_sides-requires-clause-over_right c =
    context_over c.args.k.now c.in_ok-f.f (argument c.args.eq.now.sequent.concl) c.args.c.now c.args.v.now c.in_ok-f.ensures c.requires.over c.requires.over_v c.requires.sides.right (c.requires.typed ∙ c.requires.sides.types)

pub in_argument-requires-clause-over : goal.in_argument-requires-clause-over
in_argument-requires-clause-over c =
    let h = context_over c.args.k.now c.in_ok-f.f (left_of c.args.eq.now.sequent.concl) c.args.c.now c.args.v.now c.in_ok-f.ensures c.requires.over c.requires.over_v c.requires.sides.left c.requires.typed in
    over_after c.args.k.now c.reduce_sides.new.k c.in_ok-f.f c.reduce_sides.ensures.grows.defs h.0

pub in_argument-requires-clause-fits : goal.in_argument-requires-clause-fits
in_argument-requires-clause-fits c =
    let h = context_over c.args.k.now c.in_ok-f.f (left_of c.args.eq.now.sequent.concl) c.args.c.now c.args.v.now c.in_ok-f.ensures c.requires.over c.requires.over_v c.requires.sides.left c.requires.typed in
    applied_fits c.args.k.now c.args.eq.now c.in_ok-f.f c.requires.equation h

pub eq_mp-requires-clause-fits : goal.eq_mp-requires-clause-fits
eq_mp-requires-clause-fits c =
    let l = left_of c.args.eq.now.sequent.concl in
    let r = argument c.args.eq.now.sequent.concl in
    let h = context_over c.args.k.now c.in_ok-f.f l c.args.c.now c.args.v.now c.in_ok-f.ensures c.requires.over c.requires.over_v c.requires.sides.left c.requires.typed in
    under_fits c.args.k.now c.args.eq.now c.in_ok-same.same c.in_ok-applied.applied c.in_ok-f.f (eq_tm (reduct c.in_ok-f.f l) (reduct c.in_ok-f.f r)) c.requires.equation h c.in_ok-applied.ensures.exact c.in_ok-same.ensures.exact

pub returns-clause-exact : goal.returns-clause-exact
returns-clause-exact c =
    let l = left_of c.args.eq.now.sequent.concl in
    let r = argument c.args.eq.now.sequent.concl in
    let h = context_over c.args.k.now c.in_ok-f.f l c.args.c.now c.args.v.now c.in_ok-f.ensures c.requires.over c.requires.over_v c.requires.sides.left c.requires.typed in
    under_gives c.args.k.now c.args.eq.now c.in_ok-same.same c.in_ok-applied.applied c.in_ok-th.th c.in_ok-f.f (eq_tm (reduct c.in_ok-f.f l) (reduct c.in_ok-f.f r)) c.requires.equation h c.in_ok-applied.ensures.exact
    c.in_ok-same.ensures.exact c.in_ok-th.ensures.exact ∙ ap (seq c.args.eq.now.sequent.hyps) (filled_is c.in_ok-f.f c.args.c.now c.args.v.now l r c.in_ok-f.ensures)
