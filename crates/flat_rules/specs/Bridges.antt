-- The constants between a new type and the old one, over the tables.
use Rattle.std.specs.Prelude.{◌≡◌, [], ◌∷◌}
use Rattle.hol_terms.specs.Name.{Name}
use Rattle.hol_terms.specs.Ty.{Ty}
use Rattle.hol_terms.specs.Tm.{Tm, tm_free, tm_comb}
use Rattle.hol_terms.specs.Typing.{tm_type, fun_ty, domain_ty}
use Rattle.hol_terms.specs.Definition.{new_type}
use Rattle.hol_terms.specs.Sequent.{eq_tm}
use Rattle.hol_terms.specs.Proves.{abs_const, rep_const}
use Rattle.flat_terms.specs.Plain.{PlainTables, HasType, HasTerm, type_of, term_of}
use Rattle.flat_walks.specs.Number.{IsNumber}
use Rattle.flat_instances.specs.Types.{IsTypeNumber}
use Rattle.flat_rules.specs.declared.definitions.Bridge.{Bridge}

-- the numbers of both types and both constants of the type that the predicate p carves out
pub record IsBridge (t : PlainTables) (n : Name) (p : Tm) (b : Bridge) : Type 0 where
  pub old_type : IsTypeNumber t b.old_type (domain_ty (tm_type p))
  pub new_type : IsTypeNumber t b.new_type (new_type n p)
  pub abs : IsNumber t b.abs (abs_const n p)
  pub rep : IsNumber t b.rep (rep_const n p)

-- the constants go from one type to the other
pub record AreJoined (t : PlainTables) (b : Bridge) : Type 0 where
  pub has_old : HasType t b.old_type
  pub has_new : HasType t b.new_type
  pub has_abs : HasTerm t b.abs
  pub has_rep : HasTerm t b.rep
  pub abs_typed : tm_type (term_of t b.abs) ≡ fun_ty (type_of t b.old_type) (type_of t b.new_type)
  pub rep_typed : tm_type (term_of t b.rep) ≡ fun_ty (type_of t b.new_type) (type_of t b.old_type)

-- `g (f x) = x`
abbrev pub there_and_back : Tm → Tm → Tm → Tm
there_and_back g f x = eq_tm (tm_comb g (tm_comb f x)) x

-- the variables `a` and `r` of types
abbrev pub new_variable : Ty → Tm
new_variable y = tm_free (record { name = 97 ∷ []; ty = y })

abbrev pub old_variable : Ty → Tm
old_variable y = tm_free (record { name = 114 ∷ []; ty = y })
