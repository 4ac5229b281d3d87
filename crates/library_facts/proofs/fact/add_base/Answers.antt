use Rattle.std.proofs.Common.{◌≡◌, true, Some, slice_get, sym, ap, ◌∙◌, subst, rules}
use Rattle.hol_terms.specs.Signature.{Signature}
use Rattle.hol_terms.specs.Definition.{with_def}
use Rattle.hol_terms.specs.DefShape.{definition_of}
use Rattle.hol_terms.specs.Base.{base_definitions}
use Rattle.hol_terms.specs.Table.{introduces_new}
use Rattle.stmt_core.proofs.BaseSteps.{base_new, base_predicate, next_signature}
use Rattle.library_facts.proofs.fact.add_base.Goals as goal

pub add_def-requires-clause-new : goal.add_def-requires-clause-new
add_def-requires-clause-new c =
    let d = definition_of c.in_ok-next.next in
    let e : slice_get base_definitions c.args.place ≡ Some d = search rules in
    subst (λ (s : Signature). introduces_new s d ≡ true) (sym c.requires.so_far) (base_new c.args.place d e)

pub add_def-requires-clause-predicate : goal.add_def-requires-clause-predicate
add_def-requires-clause-predicate c =
    let d = definition_of c.in_ok-next.next in
    let e : slice_get base_definitions c.args.place ≡ Some d = search rules in
    base_predicate c.args.place d e

pub returns : goal.returns
returns c =
    let d = definition_of c.in_ok-next.next in
    let e : slice_get base_definitions c.args.place ≡ Some d = search rules in
    c.in_ok-add_def.ensures.ok ∙ ap (λ s. with_def s d) c.requires.so_far ∙ next_signature c.args.place d e
