use Rattle.std.proofs.Common.{[], ◌∷◌, refl, ap, ◌∙◌}
use Rattle.hol_terms.specs.Typing.{tm_type}
use Rattle.hol_terms.specs.Definition.{bool_ty}
use Rattle.hol_terms.specs.Sequent.{seq}
use Rattle.hol_terms.specs.Rules.{if_so}
use Rattle.flat_terms.specs.Plain.{type_of, term_of}
use Rattle.flat_instances.proofs.TablesGrow.{tables_grow_itself}
use Rattle.flat_rules.proofs.PairSteps.{same_ty_as}
use Rattle.flat_rules.proofs.RuleSteps.{answered, copied_numbers, numbered}
use Rattle.flat_rules.proofs.rules.assume.Goals as goal

pub returns-then-not-is_bool : goal.returns-then-not-is_bool
returns-then-not-is_bool c =
    let p = term_of c.args.tables.now c.args.term in
    ap (λ b. if_so b (seq (p ∷ []) p)) (same_ty_as (tm_type p) bool_ty (type_of c.args.tables.now c.type_of.result) bool_ty c.is_bool.result c.type_of.ensures.ty refl c.is_bool.ensures ∙ c.if-not-is_bool.true)

pub returns : goal.returns
returns c =
    let p = term_of c.args.tables.now c.args.term in
    answered c.args.tables.now c.args.tables.now (record { hyps = c.in_ok-hyps.hyps; concl = c.args.term }) _ (p ∷ []) p (tables_grow_itself c.args.tables.now) (copied_numbers c.args.tables.now c.in_ok-hyps.hyps.items (c.args.term ∷ []) (c.requires, tt) c.in_ok-hyps.ensures) (numbered c.args.tables.now c.args.term c.requires)
    (ap (λ b. if_so b (seq (p ∷ []) p)) (same_ty_as (tm_type p) bool_ty (type_of c.args.tables.now c.type_of.result) bool_ty c.is_bool.result c.type_of.ensures.ty refl c.is_bool.ensures ∙ c.if-not-is_bool.false))
