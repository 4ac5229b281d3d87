-- Numbers that were added, and that larger tables keep.
use Rattle.std.proofs.Common.{◌≡◌, ◌&&◌, Result, Ok, Err, IfOk, OnOk, OnErr, Bool, true, false, List, [], ◌∷◌, ap, ◌∙◌, refl}
use Rattle.std.proofs.lemmas.Option.{slice_get_within, get_or_from_slice_get}
use Rattle.std.specs.Str.{chars, IsUtf8, is_utf8}
use Rattle.std.proofs.lemmas.Str.{IsUtf8-from_is_utf8}
use Rattle.hol_terms.specs.Name.{Name, is_segment, is_segment_of}
use Rattle.hol_terms.specs.Ty.{Ty, ty_var, ty_app, tys}
use Rattle.hol_terms.specs.Typing.{fun_ty}
use Rattle.flat_terms.specs.declared.nodes.NameId.{NameId}
use Rattle.flat_terms.specs.declared.nodes.TypeId.{TypeId}
use Rattle.flat_terms.specs.Plain.{PlainTables, HasTypes, name_of, type_of, types_of, IsNameAdded, IsTypeAdded}
use Rattle.flat_instances.specs.Types.{IsTypeNumber}
use Rattle.flat_instances.specs.TablesGrow.{TablesGrow}
use Rattle.flat_instances.proofs.Growth.{type_number_added}
use Rattle.flat_instances.proofs.TablesGrow.{tables_grow_same, tables_grow_by_type}
use Rattle.flat_signatures.specs.Reads.{IsNameNumber, AreTypeNumbers}

pub name_number_added : (t u : PlainTables) (n : NameId) (x : Name) → IsNameAdded t u n x → IsNameNumber u n x
name_number_added t u n x a = record { has = slice_get_within u.names n.0 x a.at; text = get_or_from_slice_get u.names n.0 x [] a.at }

pub type_number_there : (t u : PlainTables) (n : TypeId) (x : Ty) → TablesGrow t u → IsTypeNumber t n x → IsTypeNumber u n x
type_number_there t u n x g h = record { has = g.has_type n h.has; tree = g.same_type n h.has ∙ h.tree }

pub types_there : (t u : PlainTables) (ns : List TypeId) → TablesGrow t u → HasTypes t ns → AreTypeNumbers u ns (types_of t ns)
types_there t u [] g h = record { has = tt; trees = refl }
types_there t u (n ∷ ns) g h =
    let rest = types_there t u ns g h.1 in
    record { has = (g.has_type n h.0, rest.has); trees = λ j. g.same_type n h.0 j ∷ rest.trees j }

-- a name that was put, applied to types
pub applied_number : (t u w : PlainTables) (n : NameId) (x : Name) (args : List TypeId) (r : TypeId) → TablesGrow t u → IsNameNumber u n x → HasTypes t args → IsTypeAdded u w r (ty_app (name_of u n) (tys (types_of u args)))
    → IsTypeNumber w r (ty_app x (tys (types_of t args)))
applied_number t u w n x args r g h hs a =
    let made = type_number_added u w r (ty_app (name_of u n) (tys (types_of u args))) a in
    record { has = made.has; tree = made.tree ∙ (λ j. ty_app (h.text j) (tys ((types_there t u args g hs).trees j))) }

pub grows_by_type : {E : Type 0} (t u : PlainTables) (x : Ty) (r : Result TypeId E) → IfOk r (λ n. IsTypeAdded t u n x) → OnErr r (u ≡ t) → TablesGrow t u
grows_by_type t u x (Ok n) a e = tables_grow_by_type t u n x a
grows_by_type t u x (Err d) a e = tables_grow_same t u e

pub applied_result : {E : Type 0} (t u w : PlainTables) (n : NameId) (x : Name) (args : List TypeId) (r : Result TypeId E) → TablesGrow t u → IsNameNumber u n x → HasTypes t args → IfOk r (λ k. IsTypeAdded u w k (ty_app (name_of u n) (tys (types_of u args))))
    → IfOk r (λ k. IsTypeNumber w k (ty_app x (tys (types_of t args))))
applied_result t u w n x args (Ok k) g h hs a = applied_number t u w n x args k g h hs a
applied_result t u w n x args (Err d) g h hs a = tt

pub variable_number : (u w : PlainTables) (n : NameId) (x : Name) (r : TypeId) → IsNameNumber u n x → IsTypeAdded u w r (ty_var (name_of u n)) → IsTypeNumber w r (ty_var x)
variable_number u w n x r h a =
    let made = type_number_added u w r (ty_var (name_of u n)) a in record { has = made.has; tree = made.tree ∙ ap ty_var h.text }

pub no_segment : (n : Name) → (IsUtf8 n → ⊥) → is_segment n ≡ false
unfolding is_segment
no_segment n never = at (is_utf8 n) refl
  where
    at : (b : Bool) → is_utf8 n ≡ b → (b && is_segment_of (chars n)) ≡ false
    at true e = absurd (never (IsUtf8-from_is_utf8 n e))
    at false e = refl

pub no_utf8 : (n : Name) → (IsUtf8 n → ⊥) → is_utf8 n ≡ false
no_utf8 n never = at (is_utf8 n) refl
  where
    at : (b : Bool) → is_utf8 n ≡ b → b ≡ false
    at true e = absurd (never (IsUtf8-from_is_utf8 n e))
    at false e = refl

pub name_number_is : (t : PlainTables) (n : NameId) (x y : Name) → IsNameNumber t n x → x ≡ y → IsNameNumber t n y
name_number_is t n x y h e = record { has = h.has; text = h.text ∙ e }

pub OnOk-implies : {A E : Type 0} (r : Result A E) (P Q : Type 0) → (P → Q) → OnOk r P → OnOk r Q
OnOk-implies (Ok x) P Q f h = f h
OnOk-implies (Err e) P Q f h = tt

pub IfOk-implies : {A E : Type 0} (r : Result A E) (P Q : A → Type 0) → ((x : A) → P x → Q x) → IfOk r P → IfOk r Q
IfOk-implies (Ok x) P Q f h = f x h
IfOk-implies (Err e) P Q f h = tt

pub function_number : (t u : PlainTables) (a b r : TypeId) (x y : Ty) → type_of t a ≡ x → type_of t b ≡ y → IsTypeNumber u r (fun_ty (type_of t a) (type_of t b)) → IsTypeNumber u r (fun_ty x y)
function_number t u a b r x y ea eb n = record { has = n.has; tree = n.tree ∙ (λ j. fun_ty (ea j) (eb j)) }
