use Rattle.std.proofs.Common.{ap, sym, ◌∙◌, ◌<◌, arith, subst}
use Rattle.hol_terms.specs.Opening.{body_of}
use Rattle.hol_terms.specs.Tm.{tm_size}
use Rattle.hol_terms.specs.Definition.{signature_of}
use Rattle.hol_conv.specs.Conv.{IsContraction, Contracts}
use Rattle.hol_conv.specs.Reduction.{contracted}
use Rattle.hol_conv.proofs.ContractLemmas.{opens, none_in_body, contracts_redex, function_fits, contracts_function, argument_fits, contracts_argument, body_fits, contracts_body}
use Rattle.hol_conv.proofs.beta.+contract.Goals as goal

pub returns-then-is_lambda-clause-exact : goal.returns-then-is_lambda-clause-exact
returns-then-is_lambda-clause-exact t c =
    contracts_redex c.args.t.now c.in-Comb.f.now c.in-Comb.u.now c.in_ok-th-in-Comb.th c.in-Comb.ensures.0 (sym c.is_lambda.ensures ∙ c.if-is_lambda.true) c.in_ok-th-in-Comb.ensures.exact

pub in_function-requires-clause-fits : goal.in_function-requires-clause-fits
in_function-requires-clause-fits t c =
    function_fits c.in-Comb.f.now c.in-Comb.u.now c.in-Some.inner c.in-Comb.ensures.1 (subst (IsContraction c.in-Comb.f.now) c.in-Some.is c.in_ok-inner-in-Comb.ensures.exact)

pub returns-in-Some-clause-exact : goal.returns-in-Some-clause-exact
returns-in-Some-clause-exact t c =
    contracts_function c.args.t.now c.in-Comb.f.now c.in-Comb.u.now c.in-Some.inner c.in_ok-th-in-Comb-2.th c.in-Comb.ensures.0 (sym c.is_lambda.ensures ∙ c.if-is_lambda.false) c.in-Comb.ensures.1
    (subst (IsContraction c.in-Comb.f.now) c.in-Some.is c.in_ok-inner-in-Comb.ensures.exact) c.in_ok-th-in-Comb-2.ensures.exact

pub in_argument-requires-clause-fits : goal.in_argument-requires-clause-fits
in_argument-requires-clause-fits t c =
    argument_fits c.in-Comb.f.now c.in-Comb.u.now c.in-Some-2.inner c.in-Comb.ensures.1 (subst (IsContraction c.in-Comb.u.now) c.in-Some-2.is c.in_ok-inner-in-Comb-2.ensures.exact)

pub returns-in_ok-th-in-Comb-3-clause-exact : goal.returns-in_ok-th-in-Comb-3-clause-exact
returns-in_ok-th-in-Comb-3-clause-exact t c =
    contracts_argument c.args.t.now c.in-Comb.f.now c.in-Comb.u.now c.in-Some-2.inner c.in_ok-th-in-Comb-3.th c.in-Comb.ensures.0 (sym c.is_lambda.ensures ∙ c.if-is_lambda.false)
    (subst (IsContraction c.in-Comb.f.now) c.in_default-2.is c.in_ok-inner-in-Comb.ensures.exact) c.in-Comb.ensures.1
    (subst (IsContraction c.in-Comb.u.now) c.in-Some-2.is c.in_ok-inner-in-Comb-2.ensures.exact) c.in_ok-th-in-Comb-3.ensures.exact

pub contract-requires-in-Abs : goal.contract-requires-in-Abs
contract-requires-in-Abs t c =
    let o = opens (signature_of c.args.k.now.defs) c.args.t.now c.in-Abs.field-1.now c.in-Abs.a.now c.in_ok-v-in-Abs.v c.in-Abs.ensures.0 c.in_ok-v-in-Abs.ensures c.requires.over in
    let s : tm_size c.in_ok-body-in-Abs.body < tm_size c.args.t.now = rw (c.in_ok-body-in-Abs.ensures) o.smaller in
    (omega (arith, s, c.decreases), rw (c.in_ok-body-in-Abs.ensures) o.over)

pub returns-in_default-4-clause-exact : goal.returns-in_default-4-clause-exact
returns-in_default-4-clause-exact t c =
    let o = opens (signature_of c.args.k.now.defs) c.args.t.now c.in-Abs.field-1.now c.in-Abs.a.now c.in_ok-v-in-Abs.v c.in-Abs.ensures.0 c.in_ok-v-in-Abs.ensures c.requires.over in
    none_in_body (signature_of c.args.k.now.defs) c.args.t.now c.in_ok-v-in-Abs.v o
    (sym (ap contracted c.in_ok-body-in-Abs.ensures) ∙ subst (IsContraction c.in_ok-body-in-Abs.body) c.in_default-4.is c.in_ok-inner-in-Abs.ensures.exact)

pub abs-requires-clause-fits : goal.abs-requires-clause-fits
abs-requires-clause-fits t c =
    let o = opens (signature_of c.args.k.now.defs) c.args.t.now c.in-Abs.field-1.now c.in-Abs.a.now c.in_ok-v-in-Abs.v c.in-Abs.ensures.0 c.in_ok-v-in-Abs.ensures c.requires.over in
    body_fits c.args.t.now (body_of c.args.t.now) c.in_ok-v-in-Abs.v c.in-Some-3.inner o.is o.absent o.at
    (subst (λ s. Contracts s c.in-Some-3.inner) c.in_ok-body-in-Abs.ensures (subst (IsContraction c.in_ok-body-in-Abs.body) c.in-Some-3.is c.in_ok-inner-in-Abs.ensures.exact))

pub returns-in_ok-th-in-Abs-clause-exact : goal.returns-in_ok-th-in-Abs-clause-exact
returns-in_ok-th-in-Abs-clause-exact t c =
    let o = opens (signature_of c.args.k.now.defs) c.args.t.now c.in-Abs.field-1.now c.in-Abs.a.now c.in_ok-v-in-Abs.v c.in-Abs.ensures.0 c.in_ok-v-in-Abs.ensures c.requires.over in
    contracts_body c.args.t.now (body_of c.args.t.now) c.in_ok-v-in-Abs.v c.in-Some-3.inner c.in_ok-th-in-Abs.th o.is o.absent o.at
    (subst (λ s. Contracts s c.in-Some-3.inner) c.in_ok-body-in-Abs.ensures (subst (IsContraction c.in_ok-body-in-Abs.body) c.in-Some-3.is c.in_ok-inner-in-Abs.ensures.exact)) c.in_ok-th-in-Abs.ensures.exact
