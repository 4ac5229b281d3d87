use Rattle.std.proofs.Common.{◌≡◌, ◌++◌, ◌∙◌, ap, sym, None, Some}
use Rattle.std.specs.Prelude.{bytes_eq}
use Rattle.std.proofs.lemmas.Slice.Eq.{strip_prefix_is}
use Rattle.std.proofs.lemmas.Bool.Decides.{Decides-eqb}
use Rattle.hol_terms.proofs.DottedNames.{joined_some, joined_none}
use Rattle.hol_terms.proofs.sig_types.is_joined.Goals as goal

pub returns-in-Some : goal.returns-in-Some
returns-in-Some c =
    let e : c.as_bytes.result.now ≡ c.as_bytes-2.result.now ++ c.in-Some.rest.now = strip_prefix_is Decides-eqb c.as_bytes.result.now c.as_bytes-2.result.now (Some c.in-Some.rest) c.in-Some.ensures.cases in
    let f : c.args.key.now ≡ c.args.name.now ++ c.in-Some.rest.now = sym c.as_bytes.ensures.value ∙ e ∙ ap (λ n. n ++ c.in-Some.rest.now) c.as_bytes-2.ensures.value in
    c.eq.ensures ∙ ap (bytes_eq c.in-Some.rest.now) c.as_bytes-in-Some.ensures.value ∙ joined_some c.args.key.now c.args.name.now c.args.end.now c.in-Some.rest.now f

pub returns-in-None : goal.returns-in-None
returns-in-None c =
    let h = strip_prefix_is Decides-eqb c.as_bytes.result.now c.as_bytes-2.result.now None c.in-None.ensures.cases in
    joined_none c.args.key.now c.args.name.now c.args.end.now (λ rest e. h rest (c.as_bytes.ensures.value ∙ e ∙ ap (λ n. n ++ rest) (sym c.as_bytes-2.ensures.value)))
