use Rattle.std.proofs.Common.{[], map, sym, ap, ◌∙◌}
use Rattle.hol_terms.specs.Binding.{tm_inst}
use Rattle.hol_terms.specs.Sequent.{union}
use Rattle.flat_terms.specs.Plain.{term_of}
use Rattle.flat_instances.specs.Terms.{term_pairs}
use Rattle.flat_instances.proofs.TablesGrow.{tables_grow_itself, tables_grow_further, tables_grow_terms}
use Rattle.flat_rules.specs.Sequents.{terms_of, sequent_of}
use Rattle.flat_rules.proofs.Numbers.{numbers_are, number_moved}
use Rattle.flat_rules.proofs.PairSteps.{term_pairs_there, term_pairs_same}
use Rattle.flat_rules.proofs.RuleSteps.{answered, typed_pairs, some_terms, united_alone, made_before, inst_gives}
use Rattle.flat_rules.proofs.rules.inst.Goals as goal

pub instances-requires-clause-pairs : goal.instances-requires-clause-pairs
instances-requires-clause-pairs c = typed_pairs c.args.tables.now c.args.pairs.now c.requires.pairs (sym c.have_types.ensures ∙ c.if-not-have_types.false)

pub instance-requires-clause-pairs : goal.instance-requires-clause-pairs
instance-requires-clause-pairs c = term_pairs_there c.args.tables.now c.instances.new.tables c.args.pairs.now c.instances.ensures.grows (typed_pairs c.args.tables.now c.args.pairs.now c.requires.pairs (sym c.have_types.ensures ∙ c.if-not-have_types.false))

pub returns-in_err-concl-clause-grows : goal.returns-in_err-concl-clause-grows
returns-in_err-concl-clause-grows c = tables_grow_further _ _ _ c.instances.ensures.grows (tables_grow_terms _ _ c.instance.ensures.grows)

pub union_of-requires-clause-a : goal.union_of-requires-clause-a
union_of-requires-clause-a c = made_before c.instances.new.tables c.instance.new.tables c.in_ok-hyps.hyps.items _ _ c.in_ok-hyps.ensures.ok (tables_grow_terms _ _ c.instance.ensures.grows) c.deref-2.ensures.value

pub returns-in_err-hyps-2-clause-grows : goal.returns-in_err-hyps-2-clause-grows
returns-in_err-hyps-2-clause-grows c = tables_grow_further _ _ _ c.instances.ensures.grows (tables_grow_terms _ _ c.instance.ensures.grows)

pub returns-clause-grows : goal.returns-clause-grows
returns-clause-grows c = tables_grow_further _ _ _ c.instances.ensures.grows (tables_grow_terms _ _ c.instance.ensures.grows)

pub returns-clause-ok : goal.returns-clause-ok
returns-clause-ok c =
    answered c.instance.new.tables c.instance.new.tables (record { hyps = c.in_ok-hyps-2.hyps; concl = c.in_ok-concl.concl }) _ (union (map (tm_inst (term_pairs c.args.tables.now c.args.pairs.now)) (terms_of c.args.tables.now c.args.a.now.hyps.items)) []) (tm_inst (term_pairs c.args.tables.now c.args.pairs.now) (term_of c.args.tables.now c.args.a.now.concl)) (tables_grow_itself c.instance.new.tables)
    (united_alone c.instances.new.tables c.instance.new.tables c.in_ok-hyps.hyps.items _ c.in_ok-hyps-2.hyps.items _ (numbers_are c.instances.new.tables c.in_ok-hyps.hyps.items _ _ c.in_ok-hyps.ensures.ok (ap (λ l. map (tm_inst (term_pairs c.args.tables.now c.args.pairs.now)) (terms_of c.args.tables.now l)) c.deref.ensures.value)) (tables_grow_terms _ _ c.instance.ensures.grows) c.deref-2.ensures.value c.in_ok-hyps-2.ensures)
    (number_moved c.instance.new.tables c.in_ok-concl.concl _ _ c.in_ok-concl.ensures.ok (λ j. tm_inst (term_pairs_same c.args.tables.now c.instances.new.tables c.args.pairs.now c.instances.ensures.grows (typed_pairs c.args.tables.now c.args.pairs.now c.requires.pairs (sym c.have_types.ensures ∙ c.if-not-have_types.false)) j) (c.instances.ensures.grows.same_term c.args.a.now.concl c.requires.a.concl j)))
    (inst_gives (term_pairs c.args.tables.now c.args.pairs.now) (sequent_of c.args.tables.now c.args.a.now) (some_terms c.args.tables.now c.args.pairs.now (sym c.is_empty.ensures ∙ c.if-is_empty.false)) (sym c.are_distinct_variables.ensures ∙ c.if-not-are_distinct_variables.false) (sym c.have_types.ensures ∙ c.if-not-have_types.false))
