-- A kernel with a type of lists and constants of their types, of which it says nothing else, and what these are made from.
use Rattle.std.specs.Prelude.{◌≡◌, List, [], ◌∷◌, ◌++◌, codes}
use Rattle.hol_terms.specs.Name.{Name}
use Rattle.hol_terms.specs.Ty.{Ty, ty_var, ty_app, tys}
use Rattle.hol_terms.specs.Tm.{Tm}
use Rattle.hol_terms.specs.Definition.{Definition, const_def, type_def, alpha, bool_ty}
use Rattle.hol_terms.specs.Notation.{◌⇒◌, ◌·◌, ix, lam}
use Rattle.hol_terms.specs.Logic.{const_eq, const_some, const_T}
use Rattle.hol_terms.specs.Base.{base}
use Rattle.hol_terms.specs.Sequent.{seq, eq_tm}
use Rattle.hol_terms.specs.Text.{Text}
use Rattle.script_core.specs.Ready.{Gives}
use Rattle.script_tests.specs.Closed.{nothing}

-- the table gives an equation of a term with itself
pub record IsSide (ds : List Definition) (table : Text) : Type 0 where
  pub term : Tm
  pub gives : Gives ds [] nothing table (seq [] (eq_tm term term))

-- the constant of that name, defined as that term, is the last definition
pub record IsConstantOf (old : List Definition) (name : Name) (table : Text) (new : List Definition) : Type 0 where
  pub term : Tm
  pub gives : Gives old [] nothing table (seq [] (eq_tm term term))
  pub is : new ≡ old ++ const_def name term ∷ []

abbrev pub list_of : Ty → Ty
list_of a = ty_app (codes "list") (tys (a ∷ []))

-- a constant of that name and type, which is something of the type
abbrev pub constant : Name → Ty → Definition
constant name t = const_def name (const_some t · lam t const_T)

abbrev pub with_list : List Definition
with_list = base 10 ++ type_def (codes "list") (const_eq (alpha ⇒ alpha) · lam alpha (ix 0 alpha)) ∷ []

abbrev pub with_nil : List Definition
with_nil = with_list ++ constant (codes "Nil") (list_of alpha) ∷ []

abbrev pub with_cons : List Definition
with_cons = with_nil ++ constant (codes "Cons") (alpha ⇒ list_of alpha ⇒ list_of alpha) ∷ []

abbrev pub with_set : List Definition
with_set = with_cons ++ constant (codes "list.set1") (list_of alpha ⇒ alpha ⇒ bool_ty) ∷ []

abbrev pub with_map : List Definition
with_map = with_set ++ constant (codes "list.map") ((alpha ⇒ ty_var (codes "x1")) ⇒ list_of alpha ⇒ list_of (ty_var (codes "x1"))) ∷ []
