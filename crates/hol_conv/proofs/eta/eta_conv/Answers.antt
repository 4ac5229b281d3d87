use Rattle.std.proofs.Common.{◌≡◌, [], ◌∷◌, sym, ◌∙◌, ap, subst, rules}
use Rattle.hol_terms.specs.Ty.{Ty}
use Rattle.hol_terms.specs.Tm.{Tm, tm_free}
use Rattle.hol_terms.specs.Typing.{tm_type, domain_ty, range_ty}
use Rattle.hol_terms.specs.Signature.{IsTyOver}
use Rattle.hol_terms.specs.Definition.{signature_of}
use Rattle.hol_terms.specs.Sequent.{seq, eq_tm}
use Rattle.hol_conv.specs.Eta.{eta_fact, expanded, applied_in, function_between}
use Rattle.hol_conv.proofs.RuleLemmas.{inst_fits, inst_gives}
use Rattle.hol_conv.proofs.EtaLemmas.{domain_over, range_over, function_typed, function_is_over, expanded_gives, pairs_over, stated, typed_as}
use Rattle.hol_conv.proofs.eta.eta_conv.Goals as goal

pub at_types-requires-clause-over_b : goal.at_types-requires-clause-over_b
at_types-requires-clause-over_b c =
    let ds = c.args.k.now.defs in
    let t = c.args.t.now in
    let e : c.range-2.result.now ≡ range_ty (tm_type (applied_in t)) = search rules in
    subst (IsTyOver (signature_of ds)) (sym e) (range_over ds t c.requires.over c.requires.redex)

pub inst-requires-clause-over : goal.inst-requires-clause-over
inst-requires-clause-over c =
    let k = c.args.k.now in
    let t = c.args.t.now in
    let f = applied_in t in
    let v = c.in_ok-v.v in
    let e : c.deref.result.now ≡ (v, f) ∷ [] = search rules in
    let d : v ≡ function_between (domain_ty (tm_type f)) (range_ty (tm_type f)) = search rules in
    pairs_over k.defs c.at_types.new.k.defs c.deref.result.now v f c.at_types.ensures.grows.defs e d
    (domain_over k.defs t c.requires.over c.requires.redex) (range_over k.defs t c.requires.over c.requires.redex) (function_is_over k.defs t c.requires.over c.requires.redex)

pub inst-requires-clause-fits : goal.inst-requires-clause-fits
inst-requires-clause-fits c =
    let t = c.args.t.now in
    let f = applied_in t in
    let v = c.in_ok-v.v in
    let e : c.deref.result.now ≡ (v, f) ∷ [] = search rules in
    let d : v ≡ function_between (domain_ty (tm_type f)) (range_ty (tm_type f)) = search rules in
    let g : c.in_ok-typed.typed.sequent ≡ eta_fact (domain_ty (tm_type f)) (range_ty (tm_type f)) = search rules in
    inst_fits c.deref.result.now c.in_ok-typed.typed.sequent v f (eq_tm (expanded (tm_free v)) (tm_free v)) e (stated v (domain_ty (tm_type f)) (range_ty (tm_type f)) c.in_ok-typed.typed.sequent d g)
    (typed_as v f d (function_typed c.args.k.now.defs t c.requires.over c.requires.redex))

pub returns-clause-exact : goal.returns-clause-exact
returns-clause-exact c =
    let t = c.args.t.now in
    let f = applied_in t in
    let v = c.in_ok-v.v in
    let e : c.deref.result.now ≡ (v, f) ∷ [] = search rules in
    let d : v ≡ function_between (domain_ty (tm_type f)) (range_ty (tm_type f)) = search rules in
    let g : c.in_ok-typed.typed.sequent ≡ eta_fact (domain_ty (tm_type f)) (range_ty (tm_type f)) = search rules in
    let h = typed_as v f d (function_typed c.args.k.now.defs t c.requires.over c.requires.redex) in
    inst_gives c.deref.result.now c.in_ok-typed.typed.sequent c.in_ok-th.th.sequent v f (eq_tm (expanded (tm_free v)) (tm_free v)) e
    (stated v (domain_ty (tm_type f)) (range_ty (tm_type f)) c.in_ok-typed.typed.sequent d g) h c.in_ok-th.ensures.exact
    ∙ ap (seq []) (expanded_gives v f h ∙ ap (λ (u : Tm). eq_tm u f) (sym c.requires.redex.shape))
