-- What a type definition introduces, by its numbers.
use Rattle.std.specs.Prelude.{[], ◌∷◌, ◌++◌}
use Rattle.hol_terms.specs.Name.{Name, dot_abs, dot_rep}
use Rattle.hol_terms.specs.Ty.{Ty}
use Rattle.hol_terms.specs.Tm.{Tm}
use Rattle.hol_terms.specs.Signature.{Signature}
use Rattle.hol_terms.specs.Definition.{new_type, abs_ty, rep_ty}
use Rattle.flat_terms.specs.Plain.{PlainTables}
use Rattle.flat_instances.specs.Types.{IsTypeNumber}
use Rattle.flat_signatures.specs.Reads.{IsNameNumber}
use Rattle.replay_check.specs.declared.definitions.BridgeTypes.{BridgeTypes}
use Rattle.replay_check.specs.declared.definitions.BridgeNames.{BridgeNames}
use Rattle.replay_check.specs.Definitions.{count_of}

-- the new type of the predicate p, and the types of the functions to it and from it
pub record AreBridgeTypes (t : PlainTables) (n : Name) (p : Tm) (b : BridgeTypes) : Type 0 where
  pub new : IsTypeNumber t b.new (new_type n p)
  pub to : IsTypeNumber t b.abs (abs_ty n p)
  pub from : IsTypeNumber t b.rep (rep_ty n p)

pub record AreBridgeNames (t : PlainTables) (n : Name) (b : BridgeNames) : Type 0 where
  pub to : IsNameNumber t b.abs (dot_abs n)
  pub from : IsNameNumber t b.rep (dot_rep n)

-- the signature with a new type and two functions
abbrev pub with_bridge : Signature → Name → Ty → Ty → Ty → Signature
with_bridge s n new to from = record { types = s.types ++ (n, count_of new) ∷ []; consts = s.consts ++ (dot_abs n, to) ∷ (dot_rep n, from) ∷ [] }
