use Rattle.std.proofs.Common.{◌≡◌, [], ◌∷◌, codes, rules}
use Rattle.hol_terms.specs.Subst.{ty_pairs}
use Rattle.hol_conv.proofs.RuleLemmas.{grows_on}
use Rattle.hol_conv.proofs.EtaLemmas.{types_gives}
use Rattle.hol_conv.proofs.eta.at_types.Goals as goal

pub returns-clause-exact : goal.returns-clause-exact
returns-clause-exact c =
    let a = c.args.a.now in
    let b = c.args.b.now in
    let e : ty_pairs c.deref.result.now ≡ (codes "a", a) ∷ (codes "b", b) ∷ [] = search rules in
    types_gives (ty_pairs c.deref.result.now) a b c.in_ok-general.general.sequent c.in_ok-th.th.sequent e c.in_ok-general.ensures.exact c.in_ok-th.ensures.exact

pub returns-clause-grows : goal.returns-clause-grows
returns-clause-grows c = grows_on c.general.ensures.grows c.inst_type.ensures.grows
