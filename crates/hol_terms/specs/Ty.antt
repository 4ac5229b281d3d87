-- Types (HOL Light): a type variable, or a name applied to a list of types.
use Rattle.std.specs.Prelude.{◌≡◌, ℕ, suc, ◌+◌, List, [], ◌∷◌, refl}
use mathlib.Core.Path.{ap}
use base.Stored.{Gv, gnil, gnum, gcons, num, Coded}
use Rattle.std.specs.Coded.{code_by}
use denote.Struct.Codes.{itself}
use Rattle.hol_terms.specs.Name.{Name}

mutual
  pub data Ty : Type 0 where
    ty_var : Name → Ty
    ty_app : Name → Tys → Ty

  pub data Tys : Type 0 where
    no_tys : Tys
    more_tys : Ty → Tys → Tys

-- a list of types, in the two spellings
abbrev pub tys : List Ty → Tys
tys [] = no_tys
tys (t ∷ ts) = more_tys t (tys ts)

abbrev pub ty_list : Tys → List Ty
ty_list no_tys = []
ty_list (more_tys t ts) = t ∷ ty_list ts

pub ty_list-tys : (ts : List Ty) → ty_list (tys ts) ≡ ts
ty_list-tys [] = refl
ty_list-tys (t ∷ ts) = ap (λ us. t ∷ us) (ty_list-tys ts)

pub tys-ty_list : (ts : Tys) → tys (ty_list ts) ≡ ts
tys-ty_list no_tys = refl
tys-ty_list (more_tys t ts) = ap (λ us. more_tys t us) (tys-ty_list ts)

-- how many nodes a type has
abbrev mutual
  pub ty_size : Ty → ℕ
  ty_size (ty_var n) = 1
  ty_size (ty_app n ts) = suc (tys_size ts)

  pub tys_size : Tys → ℕ
  tys_size no_tys = 0
  tys_size (more_tys t ts) = ty_size t + tys_size ts

-- A type as a tree of numbers, and back.
abbrev pub name_tree : Name → Gv
name_tree [] = gnil
name_tree (b ∷ bs) = gcons (gnum b) (name_tree bs)

abbrev pub name_of_tree : Gv → Name
name_of_tree gnil = []
name_of_tree (gnum n) = []
name_of_tree (gcons b bs) = num b ∷ name_of_tree bs

pub name_of_tree-name_tree : (n : Name) → name_of_tree (name_tree n) ≡ n
name_of_tree-name_tree [] = refl
name_of_tree-name_tree (b ∷ bs) = ap (λ cs. b ∷ cs) (name_of_tree-name_tree bs)

abbrev mutual
  pub ty_tree : Ty → Gv
  ty_tree (ty_var n) = gcons gnil (name_tree n)
  ty_tree (ty_app n ts) = gcons (gcons gnil (name_tree n)) (tys_tree ts)

  pub tys_tree : Tys → Gv
  tys_tree no_tys = gnil
  tys_tree (more_tys t ts) = gcons (ty_tree t) (tys_tree ts)

abbrev mutual
  pub ty_of_tree : Gv → Ty
  ty_of_tree gnil = ty_var []
  ty_of_tree (gnum n) = ty_var []
  ty_of_tree (gcons gnil b) = ty_var (name_of_tree b)
  ty_of_tree (gcons (gnum n) b) = ty_var []
  ty_of_tree (gcons (gcons a n) b) = ty_app (name_of_tree n) (tys_of_tree b)

  pub tys_of_tree : Gv → Tys
  tys_of_tree gnil = no_tys
  tys_of_tree (gnum n) = no_tys
  tys_of_tree (gcons a b) = more_tys (ty_of_tree a) (tys_of_tree b)

mutual
  pub ty_of_tree-ty_tree : (t : Ty) → ty_of_tree (ty_tree t) ≡ t
  ty_of_tree-ty_tree (ty_var n) = ap ty_var (name_of_tree-name_tree n)
  ty_of_tree-ty_tree (ty_app n ts) = λ i. ty_app (name_of_tree-name_tree n i) (tys_of_tree-tys_tree ts i)

  pub tys_of_tree-tys_tree : (ts : Tys) → tys_of_tree (tys_tree ts) ≡ ts
  tys_of_tree-tys_tree no_tys = refl
  tys_of_tree-tys_tree (more_tys t ts) = λ i. more_tys (ty_of_tree-ty_tree t i) (tys_of_tree-tys_tree ts i)

abbrev pub ty_code : Coded Ty
ty_code = code_by Gv itself ty_tree ty_of_tree ty_of_tree-ty_tree
