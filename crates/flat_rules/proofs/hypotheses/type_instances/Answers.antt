use Rattle.std.proofs.Common.{◌≡◌, ◌+◌, List, get_or, take, map, sym, subst}
use Rattle.hol_terms.specs.Binding.{tm_ty_subst}
use Rattle.flat_terms.specs.declared.nodes.TermId.{TermId}
use Rattle.flat_terms.specs.Plain.{term_of}
use Rattle.flat_instances.specs.Types.{type_pairs}
use Rattle.flat_instances.proofs.TablesGrow.{tables_grow_further, tables_grow_extended}
use Rattle.flat_rules.specs.Sequents.{terms_of, AreNumbers}
use Rattle.flat_rules.proofs.Numbers.{has_at, number_moved, numbers_more}
use Rattle.flat_rules.proofs.PairSteps.{type_pairs_there, type_pairs_same}
use Rattle.flat_rules.proofs.hypotheses.type_instances.Goals as goal

pub type_instance_in-requires-clause-pairs : goal.type_instance_in-requires-clause-pairs
type_instance_in-requires-clause-pairs c = type_pairs_there c.args.tables.now c.loop-hyp.tables c.args.pairs.now c.loop-hyp.invariant.grows c.requires.pairs

pub type_instance_in-requires-clause-term : goal.type_instance_in-requires-clause-term
type_instance_in-requires-clause-term c = c.loop-hyp.invariant.grows.has_term _ (has_at c.args.tables.now c.args.hyps.now c.loop-hyp.hyp-index _ c.requires.hyps c.loop-hyp-test.true)

pub returns-in_err-made-clause-grows : goal.returns-in_err-made-clause-grows
returns-in_err-made-clause-grows c = tables_grow_further _ _ _ c.loop-hyp.invariant.grows (tables_grow_extended _ _ c.type_instance_in.ensures.grows)

pub returns-in_err-push-clause-grows : goal.returns-in_err-push-clause-grows
returns-in_err-push-clause-grows c = tables_grow_further _ _ _ c.loop-hyp.invariant.grows (tables_grow_extended _ _ c.type_instance_in.ensures.grows)

pub loop-hyp-preserved : goal.loop-hyp-preserved
loop-hyp-preserved c =
    let step = tables_grow_extended c.loop-hyp.tables c.type_instance_in.new.tables c.type_instance_in.ensures.grows in
    let hyp = get_or c.args.hyps.now c.loop-hyp.hyp-index (record { 0 = 0 }) in
    let same : tm_ty_subst (type_pairs c.loop-hyp.tables c.args.pairs.now) (term_of c.loop-hyp.tables hyp) ≡ tm_ty_subst (type_pairs c.args.tables.now c.args.pairs.now) (term_of c.args.tables.now hyp) =
    λ j. tm_ty_subst (type_pairs_same c.args.tables.now c.loop-hyp.tables c.args.pairs.now c.loop-hyp.invariant.grows c.requires.pairs j) (c.loop-hyp.invariant.grows.same_term hyp (has_at c.args.tables.now c.args.hyps.now c.loop-hyp.hyp-index _ c.requires.hyps c.loop-hyp-test.true) j) in
    record {
      grows = tables_grow_further _ _ _ c.loop-hyp.invariant.grows step;
      done = subst (λ (l : List TermId). AreNumbers c.type_instance_in.new.tables l (map (tm_ty_subst (type_pairs c.args.tables.now c.args.pairs.now)) (terms_of c.args.tables.now (take (c.loop-hyp.hyp-index + 1) c.args.hyps.now)))) (sym c.in_ok-push.ensures.items)
          (numbers_more c.args.tables.now c.loop-hyp.tables c.type_instance_in.new.tables (tm_ty_subst (type_pairs c.args.tables.now c.args.pairs.now)) c.args.hyps.now c.loop-hyp.all.items c.loop-hyp.hyp-index (record { 0 = 0 }) c.in_ok-made.made c.loop-hyp-test.true step c.loop-hyp.invariant.done
          (number_moved c.type_instance_in.new.tables c.in_ok-made.made _ _ c.in_ok-made.ensures.ok same));
    }
