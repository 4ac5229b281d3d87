use Rattle.std.proofs.Common.{◌≡◌, ◌+◌, List, get_or, take, map, sym, subst}
use Rattle.hol_terms.specs.Binding.{tm_inst}
use Rattle.flat_terms.specs.declared.nodes.TermId.{TermId}
use Rattle.flat_terms.specs.Plain.{term_of}
use Rattle.flat_instances.specs.Terms.{term_pairs}
use Rattle.flat_instances.proofs.TablesGrow.{tables_grow_further, tables_grow_terms}
use Rattle.flat_rules.specs.Sequents.{terms_of, AreNumbers}
use Rattle.flat_rules.proofs.Numbers.{has_at, number_moved, numbers_more}
use Rattle.flat_rules.proofs.PairSteps.{term_pairs_there, term_pairs_same}
use Rattle.flat_rules.proofs.hypotheses.instances.Goals as goal

pub instance-requires-clause-pairs : goal.instance-requires-clause-pairs
instance-requires-clause-pairs c = term_pairs_there c.args.tables.now c.loop-hyp.tables c.args.pairs.now c.loop-hyp.invariant.grows c.requires.pairs

pub instance-requires-clause-term : goal.instance-requires-clause-term
instance-requires-clause-term c = c.loop-hyp.invariant.grows.has_term _ (has_at c.args.tables.now c.args.hyps.now c.loop-hyp.hyp-index _ c.requires.hyps c.loop-hyp-test.true)

pub returns-in_err-made-clause-grows : goal.returns-in_err-made-clause-grows
returns-in_err-made-clause-grows c = tables_grow_further _ _ _ c.loop-hyp.invariant.grows (tables_grow_terms _ _ c.instance.ensures.grows)

pub returns-in_err-push-clause-grows : goal.returns-in_err-push-clause-grows
returns-in_err-push-clause-grows c = tables_grow_further _ _ _ c.loop-hyp.invariant.grows (tables_grow_terms _ _ c.instance.ensures.grows)

pub loop-hyp-preserved : goal.loop-hyp-preserved
loop-hyp-preserved c =
    let step = tables_grow_terms c.loop-hyp.tables c.instance.new.tables c.instance.ensures.grows in
    let hyp = get_or c.args.hyps.now c.loop-hyp.hyp-index (record { 0 = 0 }) in
    let same : tm_inst (term_pairs c.loop-hyp.tables c.args.pairs.now) (term_of c.loop-hyp.tables hyp) ≡ tm_inst (term_pairs c.args.tables.now c.args.pairs.now) (term_of c.args.tables.now hyp) =
    λ j. tm_inst (term_pairs_same c.args.tables.now c.loop-hyp.tables c.args.pairs.now c.loop-hyp.invariant.grows c.requires.pairs j) (c.loop-hyp.invariant.grows.same_term hyp (has_at c.args.tables.now c.args.hyps.now c.loop-hyp.hyp-index _ c.requires.hyps c.loop-hyp-test.true) j) in
    record {
      grows = tables_grow_further _ _ _ c.loop-hyp.invariant.grows step;
      done = subst (λ (l : List TermId). AreNumbers c.instance.new.tables l (map (tm_inst (term_pairs c.args.tables.now c.args.pairs.now)) (terms_of c.args.tables.now (take (c.loop-hyp.hyp-index + 1) c.args.hyps.now)))) (sym c.in_ok-push.ensures.items)
          (numbers_more c.args.tables.now c.loop-hyp.tables c.instance.new.tables (tm_inst (term_pairs c.args.tables.now c.args.pairs.now)) c.args.hyps.now c.loop-hyp.all.items c.loop-hyp.hyp-index (record { 0 = 0 }) c.in_ok-made.made c.loop-hyp-test.true step c.loop-hyp.invariant.done
          (number_moved c.instance.new.tables c.in_ok-made.made _ _ c.in_ok-made.ensures.ok same));
    }
