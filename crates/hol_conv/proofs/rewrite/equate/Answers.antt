use Rattle.std.proofs.Common.{◌≡◌, [], ap, sym, ◌∙◌, subst}
use Rattle.hol_terms.specs.Typing.{tm_type}
use Rattle.hol_terms.specs.Sequent.{left_of}
use Rattle.hol_terms.specs.Signature.{IsOver}
use Rattle.hol_terms.specs.Definition.{signature_of}
use Rattle.hol_conv.proofs.RewriteLemmas.{sides, plain_is, equals, equals_over, half_fits, whole_fits, whole_gives}
use Rattle.hol_conv.proofs.rewrite.equate.Goals as goal

pub in_argument-requires-clause-over : goal.in_argument-requires-clause-over
in_argument-requires-clause-over c =
    let e : c.in_ok-equals.equals ≡ equals (tm_type (left_of c.args.a.now.sequent.concl)) = c.in_ok-equals.ensures ∙ ap equals (c.type_of.ensures ∙ ap tm_type (c.left.ensures ∙ ap left_of c.concl.ensures.value)) in
    let s = sides c.args.k.now c.args.a.now c.requires.has_a c.concl.ensures.derivable (plain_is c.args.a.now c.requires.plain_a) in
    subst (IsOver (signature_of c.args.k.now.defs) []) (sym e) (equals_over c.args.k.now.defs (left_of c.args.a.now.sequent.concl) s.left)

pub in_argument-requires-clause-fits : goal.in_argument-requires-clause-fits
in_argument-requires-clause-fits c =
    let e : c.in_ok-equals.equals ≡ equals (tm_type (left_of c.args.a.now.sequent.concl)) = c.in_ok-equals.ensures ∙ ap equals (c.type_of.ensures ∙ ap tm_type (c.left.ensures ∙ ap left_of c.concl.ensures.value)) in
    half_fits c.args.a.now c.in_ok-equals.equals c.requires.plain_a e

pub mk_comb-requires-clause-fits : goal.mk_comb-requires-clause-fits
mk_comb-requires-clause-fits c =
    let e : c.in_ok-equals.equals ≡ equals (tm_type (left_of c.args.a.now.sequent.concl)) = c.in_ok-equals.ensures ∙ ap equals (c.type_of.ensures ∙ ap tm_type (c.left.ensures ∙ ap left_of c.concl.ensures.value)) in
    let s = sides c.args.k.now c.args.a.now c.requires.has_a c.concl.ensures.derivable (plain_is c.args.a.now c.requires.plain_a) in
    whole_fits c.args.a.now c.args.b.now c.in_ok-half.half c.in_ok-equals.equals c.requires.plain_a c.requires.plain_b e c.requires.typed s.types c.in_ok-half.ensures.exact

pub returns-clause-exact : goal.returns-clause-exact
returns-clause-exact c =
    let e : c.in_ok-equals.equals ≡ equals (tm_type (left_of c.args.a.now.sequent.concl)) = c.in_ok-equals.ensures ∙ ap equals (c.type_of.ensures ∙ ap tm_type (c.left.ensures ∙ ap left_of c.concl.ensures.value)) in
    let s = sides c.args.k.now c.args.a.now c.requires.has_a c.concl.ensures.derivable (plain_is c.args.a.now c.requires.plain_a) in
    whole_gives c.args.a.now c.args.b.now c.in_ok-half.half c.in_ok-th.th c.in_ok-equals.equals c.requires.plain_a c.requires.plain_b e c.requires.typed s.types c.in_ok-half.ensures.exact c.in_ok-th.ensures.exact
