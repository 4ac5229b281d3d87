use Rattle.std.proofs.Common.{◌≡◌, ◌<◌, ◌+◌, ◌++◌, ℕ, drop, List, length, subst, sym, ◌∙◌}
use Rattle.hol_terms.specs.TyVars.{pairs_of}
use Rattle.flat_terms.specs.declared.nodes.NameId.{NameId}
use Rattle.flat_terms.specs.declared.nodes.TypeId.{TypeId}
use Rattle.flat_terms.specs.Plain.{types_of}
use Rattle.flat_instances.specs.Types.{HasTypePairs, type_pairs}
use Rattle.flat_instances.proofs.TypeSteps.{has_at}
use Rattle.flat_signatures.proofs.PairSteps.{pairs_pushed, pairs_further}
use Rattle.flat_signatures.proofs.constants.pairs_of.Goals as goal

pub name_of-requires : goal.name_of-requires
name_of-requires c = has_at c.args.tables.now c.args.variables.now c.loop-i.i (record { 0 = 0 }) c.requires.variables c.loop-i-test.true

pub loop-i-preserved : goal.loop-i-preserved
loop-i-preserved c =
    let within : c.loop-i.i < length c.args.args.now = subst (λ (k : ℕ). c.loop-i.i < k) (sym c.requires.as_many) c.loop-i-test.true in
    let both = subst (λ (ps : List (NameId × TypeId)). HasTypePairs c.args.tables.now ps × (pairs_of (types_of c.args.tables.now c.args.variables.now) (types_of c.args.tables.now c.args.args.now) ≡ type_pairs c.args.tables.now ps ++ pairs_of (types_of c.args.tables.now (drop (c.loop-i.i + 1) c.args.variables.now)) (types_of c.args.tables.now (drop (c.loop-i.i + 1) c.args.args.now)))) (sym c.in_ok-push.ensures.items) (
      pairs_pushed c.args.tables.now c.loop-i.pairs.items c.name_of.result _ c.loop-i.invariant.has c.name_of.ensures.has (has_at c.args.tables.now c.args.args.now c.loop-i.i (record { 0 = 0 }) c.requires.args within),
      c.loop-i.invariant.done ∙ pairs_further c.args.tables.now c.loop-i.pairs.items c.args.variables.now c.args.args.now c.loop-i.i (record { 0 = 0 }) (record { 0 = 0 }) c.name_of.result c.loop-i-test.true within c.name_of.ensures.text,
    ) in
    record { has = both.0; done = both.1 }
