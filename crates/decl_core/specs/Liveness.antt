-- Which parameters of a group of declared types are live.
use Rattle.std.specs.Prelude.{Bool, true, false, not, ◌&&◌, ◌||◌, if◌then◌else◌, bytes_eq, List, [], ◌∷◌, ◌++◌, map, codes}
use Rattle.std.specs.List.{list_any}
use Rattle.hol_terms.specs.Name.{Name}
use Rattle.hol_terms.specs.Ty.{Ty, ty_var, ty_app, Tys, no_tys, more_tys}
use Rattle.hol_terms.specs.Typing.{fun_name}
use Rattle.hol_terms.specs.TyVars.{occurs}
use Rattle.decl_core.specs.Declaration.{Ctor, Decl, type_of}
use Rattle.decl_core.specs.Functors.{Lives, lives_of, same_type}

-- ---- countable types: `unit`, `bool`, `num`, and products and sums of countable types
abbrev pub is_one_of : Name → List Name → Bool
is_one_of n names = list_any (bytes_eq n) names

abbrev pub basic : List Name
basic = codes "unit" ∷ codes "bool" ∷ codes "num" ∷ []

abbrev pub of_two : List Name
of_two = codes "prod" ∷ codes "sum" ∷ []

abbrev mutual
  pub is_countable : Ty → Bool
  is_countable (ty_var n) = false
  is_countable (ty_app c no_tys) = is_one_of c basic
  is_countable (ty_app c (more_tys a ts)) = is_one_of c of_two && (is_countable a && are_countable ts)

  pub are_countable : Tys → Bool
  are_countable no_tys = true
  are_countable (more_tys a ts) = is_countable a && are_countable ts

-- ---- which arguments of an applied type constructor are live here: the range of a function is where its domain is countable
abbrev pub lives_here : Lives → Name → Tys → List Bool
lives_here ls c no_tys = lives_of ls c
lives_here ls c (more_tys a ts) = if bytes_eq c fun_name then false ∷ is_countable a ∷ [] else lives_of ls c

-- the parameter occurs in the type inside a dead argument; types of the group are left out, since they stand at the parameters
abbrev mutual
  pub dead_in : Lives → List Ty → Name → Ty → Bool
  dead_in ls group p (ty_var n) = false
  dead_in ls group p (ty_app c ts) = if list_any (same_type (ty_app c ts)) group then false else dead_in_any ls group p (lives_here ls c ts) ts

  pub dead_in_any : Lives → List Ty → Name → List Bool → Tys → Bool
  dead_in_any ls group p lives no_tys = false
  dead_in_any ls group p [] (more_tys a ts) = false
  dead_in_any ls group p (live ∷ lives) (more_tys a ts) = (if live then dead_in ls group p a else occurs p a) || dead_in_any ls group p lives ts

abbrev pub dead_in_ctor : Lives → List Ty → Name → Ctor → Bool
dead_in_ctor ls group p c = list_any (λ a. dead_in ls group p a.ty) c.args

abbrev pub dead_in_decl : Lives → List Ty → Name → Decl → Bool
dead_in_decl ls group p d = list_any (dead_in_ctor ls group p) d.ctors

-- the parameter is live where it is in no argument of a constructor of the group so
abbrev pub is_live : Lives → List Decl → Name → Bool
is_live ls ds p = not (list_any (dead_in_decl ls (map type_of ds) p) ds)

-- with the types of a group
abbrev pub with_group : Lives → List Decl → Lives
with_group ls ds = map (λ d. (d.name, map (is_live ls ds) d.params)) ds ++ ls
