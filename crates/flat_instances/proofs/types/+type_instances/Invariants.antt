use Rattle.std.proofs.Common.{◌+◌, ◌*◌, take}
use Rattle.flat_instances.specs.Types.{TakesTypes, AreTypeInstances}
use Rattle.flat_instances.proofs.TypeSteps.{most}
use Rattle.flat_instances.proofs.types.+type_instances.Given as goal

abbrev pub decreases-type_instance_at : goal.decreases-type_instance_at
decreases-type_instance_at l = 2 * l.ty.0 + 1

abbrev pub decreases-type_instances_at : goal.decreases-type_instances_at
decreases-type_instances_at l = 2 * most l.types.now

abbrev pub invariant-type_instances_at-loop-ty : goal.invariant-type_instances_at-loop-ty
invariant-type_instances_at-loop-ty l = record {
  takes : TakesTypes l.fn.tables l.tables l.pairs l.memo.entries;
  made : AreTypeInstances l.fn.tables l.tables l.pairs (take l.ty-index l.types) l.instances.items;
}
