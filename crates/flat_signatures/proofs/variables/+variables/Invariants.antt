use Rattle.std.proofs.Common.{◌≡◌, ◌+◌, ◌*◌, drop}
use Rattle.hol_terms.specs.Ty.{tys}
use Rattle.hol_terms.specs.TyVars.{tys_vars}
use Rattle.flat_terms.specs.Plain.{HasTypes, types_of}
use Rattle.flat_instances.proofs.TypeSteps.{most}
use Rattle.flat_signatures.specs.Walked.{AllWalked}
use Rattle.flat_signatures.proofs.variables.+variables.Given as goal

abbrev pub decreases-add_variables : goal.decreases-add_variables
decreases-add_variables l = 2 * l.ty.0 + 1

abbrev pub decreases-add_variables_of : goal.decreases-add_variables_of
decreases-add_variables_of l = 2 * most l.types.now

abbrev pub invariant-add_variables_of-loop-ty : goal.invariant-add_variables_of-loop-ty
invariant-add_variables_of-loop-ty l = record {
  has : HasTypes l.tables l.seen.keys;
  walked : AllWalked l.tables (types_of l.tables l.seen.keys) l.walked.keys;
  left : tys_vars (tys (types_of l.tables l.types)) (types_of l.tables l.fn.seen.keys) ≡ tys_vars (tys (types_of l.tables (drop l.ty-index l.types))) (types_of l.tables l.seen.keys);
}
