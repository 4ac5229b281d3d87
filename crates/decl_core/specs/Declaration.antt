-- What a datatype or codatatype command declares, as plain trees.
use Rattle.std.specs.Prelude.{List, map, Option, refl}
use Rattle.std.specs.Coded.{Coded, code_by, coded×, coded_list, coded_option, coded_ℕ}
use Rattle.hol_terms.specs.Name.{Name}
use Rattle.hol_terms.specs.Ty.{Ty, ty_var, ty_app, tys, ty_code}

-- an argument of a constructor: its type, and its selector if it has one
pub record Arg : Type 0 where
  pub selector : Option Name
  pub ty : Ty

pub record Ctor : Type 0 where
  pub name : Name
  pub args : List Arg

-- a declared type with its parameters, and its constructors
pub record Decl : Type 0 where
  pub params : List Name
  pub name : Name
  pub ctors : List Ctor

-- the declared type at its parameters
abbrev pub type_at : Name → List Name → Ty
type_at name params = ty_app name (tys (map ty_var params))

abbrev pub type_of : Decl → Ty
type_of d = type_at d.name d.params

-- the types of a constructor's arguments
abbrev pub arg_types : Ctor → List Ty
arg_types c = map (λ a. a.ty) c.args

-- Each as a tree of numbers, and back.
abbrev pub name_code : Coded Name
name_code = coded_list coded_ℕ

abbrev pub arg_code : Coded Arg
arg_code = code_by (Option Name × Ty) (coded× (coded_option name_code) ty_code) (λ a. (a.selector, a.ty)) (λ p. record { selector = p.0; ty = p.1 }) (λ _. refl)

abbrev pub ctor_code : Coded Ctor
ctor_code = code_by (Name × List Arg) (coded× name_code (coded_list arg_code)) (λ c. (c.name, c.args)) (λ p. record { name = p.0; args = p.1 }) (λ _. refl)

abbrev pub decl_code : Coded Decl
decl_code =
    code_by (List Name × (Name × List Ctor)) (coded× (coded_list name_code) (coded× name_code (coded_list ctor_code)))
    (λ d. (d.params, (d.name, d.ctors))) (λ p. record { params = p.0; name = p.1.0; ctors = p.1.1 }) (λ _. refl)
