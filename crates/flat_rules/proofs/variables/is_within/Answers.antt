use Rattle.std.proofs.Common.{ap, ◌∙◌}
use Rattle.flat_terms.specs.Plain.{type_of, types_of, term_of}
use Rattle.flat_rules.proofs.Within.{within_by_vars}
use Rattle.flat_rules.proofs.variables.is_within.Goals as goal

pub returns : goal.returns
returns c =
    let t = c.args.tables.now in
    c.are_among.ensures ∙ within_by_vars (term_of t c.args.term) (type_of t c.args.ty) (types_of t c.as_slice.result.now) (types_of t c.in_ok-own.own.keys) (ap (types_of t) c.as_slice.ensures.keys ∙ c.in_ok-variables.ensures.trees) c.in_ok-own.ensures.trees
