use Rattle.std.proofs.Common.{◌≡◌, [], ◌∷◌, ap, ◌∙◌, rules}
use Rattle.hol_terms.specs.Tm.{tm_comb, tm_free}
use Rattle.hol_terms.specs.Binding.{tm_open}
use Rattle.hol_terms.specs.Opening.{body_of}
use Rattle.hol_terms.specs.Sequent.{seq, eq_tm}
use Rattle.hol_terms.proofs.InstLemmas.{IsOver-closed}
use Rattle.hol_conv.proofs.RuleLemmas.{beta_gives, inst_fits, inst_gives, applied, grows_on}
use Rattle.hol_conv.proofs.beta.apply_to.Goals as goal

pub inst-requires-clause-fits : goal.inst-requires-clause-fits
inst-requires-clause-fits c =
    let v = c.in_ok-v.v in
    let f = c.args.f.now in
    let e : c.deref.result.now ≡ (v, c.args.u.now) ∷ [] = search rules in
    let r : c.in_ok-redex.redex ≡ tm_comb f (tm_free v) = search rules in
    inst_fits c.deref.result.now c.in_ok-general.general.sequent v c.args.u.now (eq_tm (tm_comb f (tm_free v)) (tm_open 0 v (body_of f))) e
    (beta_gives v f c.in_ok-redex.redex c.in_ok-general.general.sequent r c.requires.abstraction c.in_ok-v.ensures.absent c.in_ok-general.ensures.exact)
    (search rules)

pub returns-clause-exact : goal.returns-clause-exact
returns-clause-exact c =
    let v = c.in_ok-v.v in
    let f = c.args.f.now in
    let u = c.args.u.now in
    let e : c.deref.result.now ≡ (v, u) ∷ [] = search rules in
    let r : c.in_ok-redex.redex ≡ tm_comb f (tm_free v) = search rules in
    inst_gives c.deref.result.now c.in_ok-general.general.sequent c.in_ok-th.th.sequent v u (eq_tm (tm_comb f (tm_free v)) (tm_open 0 v (body_of f))) e
    (beta_gives v f c.in_ok-redex.redex c.in_ok-general.general.sequent r c.requires.abstraction c.in_ok-v.ensures.absent c.in_ok-general.ensures.exact)
    (search rules) c.in_ok-th.ensures.exact
    ∙ ap (seq []) (applied v u f c.requires.abstraction c.in_ok-v.ensures.absent (IsOver-closed _ [] f c.requires.over.0) (IsOver-closed _ [] u c.requires.over.1))

pub returns-clause-grows : goal.returns-clause-grows
returns-clause-grows c = grows_on c.beta.ensures.grows c.inst.ensures.grows
