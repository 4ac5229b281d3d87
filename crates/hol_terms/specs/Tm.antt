-- Terms as plain trees. An index counts the binders between it and its own. Each index and each constant has its type beside it.
use Rattle.std.specs.Prelude.{◌≡◌, ℕ, suc, ◌+◌, List, []}
use mathlib.Core.Path.{ap, ◌∙◌}
use base.Stored.{Gv, gnil, gnum, gcons, Coded}
use Rattle.std.specs.Coded.{code_by}
use denote.Struct.Codes.{itself}
use Rattle.hol_terms.specs.Name.{Name}
use Rattle.hol_terms.specs.Ty.{Ty, ty_var, tys, ty_list, ty_list-tys, name_tree, name_of_tree, name_of_tree-name_tree, ty_tree, tys_tree, ty_of_tree, tys_of_tree, ty_of_tree-ty_tree, tys_of_tree-tys_tree}

-- a free variable
pub record FreeVar : Type 0 where
  pub name : Name
  pub ty : Ty

pub data Tm : Type 0 where
  tm_index : ℕ → Ty → Tm
  tm_free : FreeVar → Tm
  tm_const : Name → List Ty → Ty → Tm
  tm_comb : Tm → Tm → Tm
  tm_abs : Ty → Tm → Tm

abbrev pub tm_size : Tm → ℕ
tm_size (tm_index i t) = 1
tm_size (tm_free v) = 1
tm_size (tm_const c ts t) = 1
tm_size (tm_comb f x) = suc (tm_size f + tm_size x)
tm_size (tm_abs t b) = suc (tm_size b)

-- A term as a tree of numbers, and back.
abbrev pub var_tree : FreeVar → Gv
var_tree v = gcons (name_tree v.name) (ty_tree v.ty)

abbrev pub var_of_tree : Gv → FreeVar
var_of_tree gnil = record { name = []; ty = ty_var [] }
var_of_tree (gnum n) = record { name = []; ty = ty_var [] }
var_of_tree (gcons a b) = record { name = name_of_tree a; ty = ty_of_tree b }

pub var_of_tree-var_tree : (v : FreeVar) → var_of_tree (var_tree v) ≡ v
var_of_tree-var_tree v = λ i. record { name = name_of_tree-name_tree v.name i; ty = ty_of_tree-ty_tree v.ty i }

abbrev pub var_code : Coded FreeVar
var_code = code_by Gv itself var_tree var_of_tree var_of_tree-var_tree

abbrev pub tm_tree : Tm → Gv
tm_tree (tm_index i t) = gcons (gnum i) (ty_tree t)
tm_tree (tm_free v) = gcons gnil (gcons gnil (var_tree v))
tm_tree (tm_const c ts t) = gcons gnil (gcons (gcons (name_tree c) (tys_tree (tys ts))) (ty_tree t))
tm_tree (tm_comb f x) = gcons (gcons gnil (tm_tree f)) (tm_tree x)
tm_tree (tm_abs t b) = gcons (gcons (gnum 0) (ty_tree t)) (tm_tree b)

abbrev nothing : Tm
nothing = tm_index 0 (ty_var [])

abbrev leaf_of_tree : Gv → Tm
leaf_of_tree gnil = nothing
leaf_of_tree (gnum n) = nothing
leaf_of_tree (gcons gnil b) = tm_free (var_of_tree b)
leaf_of_tree (gcons (gnum n) b) = nothing
leaf_of_tree (gcons (gcons c ts) b) = tm_const (name_of_tree c) (ty_list (tys_of_tree ts)) (ty_of_tree b)

abbrev pub tm_of_tree : Gv → Tm
tm_of_tree gnil = nothing
tm_of_tree (gnum n) = nothing
tm_of_tree (gcons gnil b) = leaf_of_tree b
tm_of_tree (gcons (gnum n) b) = tm_index n (ty_of_tree b)
tm_of_tree (gcons (gcons gnil a) b) = tm_comb (tm_of_tree a) (tm_of_tree b)
tm_of_tree (gcons (gcons (gnum n) a) b) = tm_abs (ty_of_tree a) (tm_of_tree b)
tm_of_tree (gcons (gcons (gcons n m) a) b) = nothing

pub ty_list_of_tree : (ts : List Ty) → ty_list (tys_of_tree (tys_tree (tys ts))) ≡ ts
ty_list_of_tree ts = ap ty_list (tys_of_tree-tys_tree (tys ts)) ∙ ty_list-tys ts

pub tm_of_tree-tm_tree : (t : Tm) → tm_of_tree (tm_tree t) ≡ t
tm_of_tree-tm_tree (tm_index n t) = ap (λ u. tm_index n u) (ty_of_tree-ty_tree t)
tm_of_tree-tm_tree (tm_free v) = ap tm_free (var_of_tree-var_tree v)
tm_of_tree-tm_tree (tm_const c ts t) = λ i. tm_const (name_of_tree-name_tree c i) (ty_list_of_tree ts i) (ty_of_tree-ty_tree t i)
tm_of_tree-tm_tree (tm_comb f x) = λ i. tm_comb (tm_of_tree-tm_tree f i) (tm_of_tree-tm_tree x i)
tm_of_tree-tm_tree (tm_abs t b) = λ i. tm_abs (ty_of_tree-ty_tree t i) (tm_of_tree-tm_tree b i)

abbrev pub tm_code : Coded Tm
tm_code = code_by Gv itself tm_tree tm_of_tree tm_of_tree-tm_tree
