use Rattle.std.proofs.Common.{[], map, sym, ap, subst, ◌∙◌}
use Rattle.hol_terms.specs.Tm.{Tm}
use Rattle.hol_terms.specs.Subst.{TySubst}
use Rattle.hol_terms.specs.Binding.{tm_ty_subst}
use Rattle.hol_terms.specs.Sequent.{union}
use Rattle.flat_terms.specs.Plain.{term_of}
use Rattle.flat_instances.specs.Types.{type_pairs}
use Rattle.flat_instances.specs.Retypings.{KeepsType}
use Rattle.flat_instances.proofs.TablesGrow.{tables_grow_itself, tables_grow_further, tables_grow_extended}
use Rattle.flat_rules.specs.Sequents.{terms_of, sequent_of}
use Rattle.flat_rules.proofs.Numbers.{numbers_are, number_moved}
use Rattle.flat_rules.proofs.PairSteps.{type_pairs_there, type_pairs_same}
use Rattle.flat_rules.proofs.RuleSteps.{answered, some_types, united_alone, made_before, inst_type_gives}
use Rattle.flat_rules.proofs.rules.inst_type.Goals as goal

pub type_instance_in-requires-clause-pairs : goal.type_instance_in-requires-clause-pairs
type_instance_in-requires-clause-pairs c = type_pairs_there c.args.tables.now c.type_instances.new.tables c.args.pairs.now c.type_instances.ensures.grows c.requires.pairs

pub returns-in_err-concl-clause-grows : goal.returns-in_err-concl-clause-grows
returns-in_err-concl-clause-grows c = tables_grow_further _ _ _ c.type_instances.ensures.grows (tables_grow_extended _ _ c.type_instance_in.ensures.grows)

pub union_of-requires-clause-a : goal.union_of-requires-clause-a
union_of-requires-clause-a c = made_before c.type_instances.new.tables c.type_instance_in.new.tables c.in_ok-hyps.hyps.items _ _ c.in_ok-hyps.ensures.ok (tables_grow_extended _ _ c.type_instance_in.ensures.grows) c.deref-2.ensures.value

pub returns-in_err-hyps-2-clause-grows : goal.returns-in_err-hyps-2-clause-grows
returns-in_err-hyps-2-clause-grows c = tables_grow_further _ _ _ c.type_instances.ensures.grows (tables_grow_extended _ _ c.type_instance_in.ensures.grows)

pub returns-clause-grows : goal.returns-clause-grows
returns-clause-grows c = tables_grow_further _ _ _ c.type_instances.ensures.grows (tables_grow_extended _ _ c.type_instance_in.ensures.grows)

pub returns-clause-ok : goal.returns-clause-ok
returns-clause-ok c =
    answered c.type_instance_in.new.tables c.type_instance_in.new.tables (record { hyps = c.in_ok-hyps-2.hyps; concl = c.in_ok-concl.concl }) _ (union (map (tm_ty_subst (type_pairs c.args.tables.now c.args.pairs.now)) (terms_of c.args.tables.now c.args.a.now.hyps.items)) []) (tm_ty_subst (type_pairs c.args.tables.now c.args.pairs.now) (term_of c.args.tables.now c.args.a.now.concl)) (tables_grow_itself c.type_instance_in.new.tables)
    (united_alone c.type_instances.new.tables c.type_instance_in.new.tables c.in_ok-hyps.hyps.items _ c.in_ok-hyps-2.hyps.items _ (numbers_are c.type_instances.new.tables c.in_ok-hyps.hyps.items _ _ c.in_ok-hyps.ensures.ok (ap (λ l. map (tm_ty_subst (type_pairs c.args.tables.now c.args.pairs.now)) (terms_of c.args.tables.now l)) c.deref.ensures.value)) (tables_grow_extended _ _ c.type_instance_in.ensures.grows) c.deref-2.ensures.value c.in_ok-hyps-2.ensures)
    (number_moved c.type_instance_in.new.tables c.in_ok-concl.concl _ _ c.in_ok-concl.ensures.ok (λ j. tm_ty_subst (type_pairs_same c.args.tables.now c.type_instances.new.tables c.args.pairs.now c.type_instances.ensures.grows c.requires.pairs j) (c.type_instances.ensures.grows.same_term c.args.a.now.concl c.requires.a.concl j)))
    (inst_type_gives (type_pairs c.args.tables.now c.args.pairs.now) (sequent_of c.args.tables.now c.args.a.now) (some_types c.args.tables.now c.args.pairs.now (sym c.is_empty.ensures ∙ c.if-is_empty.false)) (sym c.are_distinct_names.ensures ∙ c.if-not-are_distinct_names.false))

pub returns-clause-typed : goal.returns-clause-typed
returns-clause-typed c =
    subst (λ (p : TySubst × Tm). KeepsType p.0 p.1) (λ j. (type_pairs_same c.args.tables.now c.type_instances.new.tables c.args.pairs.now c.type_instances.ensures.grows c.requires.pairs j, c.type_instances.ensures.grows.same_term c.args.a.now.concl c.requires.a.concl j)) c.in_ok-concl.ensures.typed
