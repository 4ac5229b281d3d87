-- A constant of a signature, test by test.
use Rattle.std.proofs.Common.{◌≡◌, suc, Bool, true, false, ◌==◌, List, [], ◌∷◌, length, Option, Some, None, refl, ap, subst, ◌∙◌}
use Rattle.hol_terms.specs.Name.{Name}
use Rattle.hol_terms.specs.Ty.{Ty, tys}
use Rattle.hol_terms.specs.Tm.{Tm, tm_const}
use Rattle.hol_terms.specs.TyVars.{ty_vars, instance_at, const_at}
use Rattle.hol_terms.specs.Signature.{Signature, generic_of}
use Rattle.strict_reading.specs.Steps.{◌>>=◌, when}
use Rattle.strict_reading.specs.Terms.{is_type_over, are_types_over, constant}
use Rattle.strict_reading.proofs.Steps.{bind_some, when_true}
use Rattle.flat_terms.specs.declared.nodes.NameId.{NameId}
use Rattle.flat_terms.specs.declared.nodes.TypeId.{TypeId}
use Rattle.flat_terms.specs.declared.nodes.TermId.{TermId}
use Rattle.flat_terms.specs.Plain.{PlainTables, HasName, HasTypes, name_of, type_of, types_of, term_of, IsTermAdded}
use Rattle.flat_walks.proofs.Steps.{added_is}
use Rattle.flat_instances.specs.Types.{IsTypeNumber}
use Rattle.flat_instances.specs.TablesGrow.{TablesGrow}
use Rattle.flat_signatures.specs.Reads.{IsTypeWhere}
use Rattle.flat_signatures.proofs.Numbers.{types_there}

pub bind_none : {A B : Type 0} (o : Option A) (f : A → Option B) → o ≡ None → (o >>= f) ≡ None
unfolding ◌>>=◌
bind_none o f e = ap (λ v. v >>= f) e

pub when_false : {A : Type 0} (b : Bool) (x : Option A) → b ≡ false → when b x ≡ None
unfolding when
when_false b x e = ap (λ v. when v x) e

pub when_none : {A : Type 0} (b : Bool) (x : Option A) → x ≡ None → when b x ≡ None
unfolding when
when_none true x e = e
when_none false x e = refl

module _ (s : Signature) (c : Name) (args : List Ty) where
  pub unknown_constant : generic_of s c ≡ None → constant s c args ≡ None
  unfolding constant
  unknown_constant e = bind_none (generic_of s c) _ e

  -- the rest of the definition, for a generic type
  abbrev pub tests : Ty → Option Tm
  tests g = when (length args == length (ty_vars g [])) (when (are_types_over s (tys args)) (when (is_type_over s (instance_at g args)) (Some (const_at c g args))))

  pub known_constant : (g : Ty) → generic_of s c ≡ Some g → constant s c args ≡ tests g
  unfolding constant
  known_constant g e = bind_some (generic_of s c) tests g e

  pub not_as_many : (g : Ty) → generic_of s c ≡ Some g → (length args == length (ty_vars g [])) ≡ false → constant s c args ≡ None
  not_as_many g e h = known_constant g e ∙ when_false _ _ h

  pub arguments_not_over : (g : Ty) → generic_of s c ≡ Some g → are_types_over s (tys args) ≡ false → constant s c args ≡ None
  arguments_not_over g e h = known_constant g e ∙ when_none _ _ (when_false _ _ h)

  pub instance_not_over : (g : Ty) → generic_of s c ≡ Some g → is_type_over s (instance_at g args) ≡ false → constant s c args ≡ None
  instance_not_over g e h = known_constant g e ∙ when_none _ _ (when_none _ _ (when_false _ _ h))

  pub constant_passes : (g : Ty) → generic_of s c ≡ Some g → (length args == length (ty_vars g [])) ≡ true → are_types_over s (tys args) ≡ true → is_type_over s (instance_at g args) ≡ true → constant s c args ≡ Some (const_at c g args)
  constant_passes g e h k l = known_constant g e ∙ when_true _ _ h ∙ when_true _ _ k ∙ when_true _ _ l

pub count_of : (t : PlainTables) (ns : List TypeId) → length (types_of t ns) ≡ length ns
count_of t [] = refl
count_of t (n ∷ ns) = ap suc (count_of t ns)

pub where_none : (t : PlainTables) (o : Option TypeId) (b : Bool) (x : Ty) → IsTypeWhere t o b x → o ≡ None → b ≡ false
where_none t o b x w e = subst (λ (p : Option TypeId). IsTypeWhere t p b x) e w

pub where_some : (t : PlainTables) (o : Option TypeId) (n : TypeId) (b : Bool) (x : Ty) → IsTypeWhere t o b x → o ≡ Some n → (b ≡ true) × IsTypeNumber t n x
where_some t o n b x w e = subst (λ (p : Option TypeId). IsTypeWhere t p b x) e w

-- the constant's number, in the tables to which it was added
pub constant_made : (t u w : PlainTables) (c : NameId) (args : List TypeId) (ty : TypeId) (g : Ty) (n : TermId) → TablesGrow t u → HasName t c → HasTypes t args → IsTypeNumber u ty (instance_at g (types_of t args))
    → IsTermAdded u w n (tm_const (name_of u c) (types_of u args) (type_of u ty)) → term_of w n ≡ const_at (name_of t c) g (types_of t args)
constant_made t u w c args ty g n grow hc hs is a = added_is u w n (tm_const (name_of u c) (types_of u args) (type_of u ty)) a ∙ (λ j. tm_const (grow.same_name c hc j) ((types_there t u args grow hs).trees j) (is.tree j))
