-- Type expressions as functors of names that occur in them: the map, the membership and the relator of an expression. A name is a
-- type variable, or a declared type at its parameters.
use Rattle.std.specs.Prelude.{ℕ, ◌+◌, nat_eq, Bool, true, false, ◌&&◌, ◌||◌, Option, Some, None, unwrap_or, if◌then◌else◌, List, [], ◌∷◌, ◌++◌, map, decimal, codes}
use Rattle.std.specs.List.{list_any}
use Rattle.std.specs.Ordering.{is_eq}
use Rattle.hol_terms.specs.Name.{Name}
use Rattle.hol_terms.specs.Ty.{Ty, ty_var, ty_app, Tys, no_tys, more_tys, tys, ty_list}
use Rattle.hol_terms.specs.Tm.{Tm, FreeVar, tm_index, tm_const, tm_free, tm_comb, tm_abs}
use Rattle.hol_terms.specs.Typing.{tm_type, domain_ty, range_ty}
use Rattle.hol_terms.specs.Subst.{ty_cmp}
use Rattle.hol_terms.specs.Signature.{entry_at}
use Rattle.hol_terms.specs.Definition.{bool_ty}
use Rattle.hol_terms.specs.Notation.{◌⇒◌, ◌·◌}
use Rattle.hol_terms.specs.Logic.{const_eq}
use Rattle.hol_terms.specs.Base.{const_id}
use Rattle.stmt_core.specs.Formulas.{conj_of, disj_of, ex_of}
use Rattle.decl_core.specs.Statements.{◌≐◌, when, variable, function_ty, applied}

-- ---- live arguments

-- for each type constructor, which of its arguments are live
abbrev pub Lives : Type 0
Lives = List (Name × List Bool)

-- the types that are there before any declaration
abbrev pub basic_lives : Lives
basic_lives =
    (codes "fun", false ∷ true ∷ []) ∷ (codes "prod", true ∷ true ∷ []) ∷ (codes "sum", true ∷ true ∷ []) ∷ (codes "cset", true ∷ []) ∷ []

abbrev pub lives_of : Lives → Name → List Bool
lives_of ls n = unwrap_or (entry_at ls n) []

-- what stands at the live places, and at the others
abbrev pub live_among : {A : Type 0} → List Bool → List A → List A
live_among [] xs = []
live_among (l ∷ ls) [] = []
live_among (l ∷ ls) (x ∷ xs) = when l x ++ live_among ls xs

abbrev pub dead_among : {A : Type 0} → List Bool → List A → List A
dead_among [] xs = xs
dead_among (l ∷ ls) [] = []
dead_among (l ∷ ls) (x ∷ xs) = (if l then [] else x ∷ []) ++ dead_among ls xs

-- ---- the map, the sets and the relator of a type constructor T, from arguments as to arguments bs

abbrev pub in_turn : List Ty → List Ty → List Ty
in_turn [] bs = []
in_turn (a ∷ rest) [] = []
in_turn (a ∷ rest) (b ∷ bs) = a ∷ b ∷ in_turn rest bs

abbrev pub functions : List Ty → List Ty → List Ty
functions [] bs = []
functions (a ∷ rest) [] = []
functions (a ∷ rest) (b ∷ bs) = (a ⇒ b) ∷ functions rest bs

abbrev pub relations : List Ty → List Ty → List Ty
relations [] bs = []
relations (a ∷ rest) [] = []
relations (a ∷ rest) (b ∷ bs) = (a ⇒ b ⇒ bool_ty) ∷ relations rest bs

-- the type arguments of T.map and T.rel: each live argument with its target, then the dead ones
abbrev pub map_args : List Bool → List Ty → List Ty → List Ty
map_args ls sources targets = in_turn (live_among ls sources) (live_among ls targets) ++ dead_among ls sources

-- T.map : (a -> b) -> .. -> (a,..) T -> (b,..) T, with a function for each live argument
abbrev pub map_const : Name → List Bool → List Ty → List Ty → Tm
map_const n ls sources targets =
    tm_const (n ++ codes ".map") (map_args ls sources targets)
    (function_ty (functions (live_among ls sources) (live_among ls targets)) (ty_app n (tys sources) ⇒ ty_app n (tys targets)))

-- T.rel : (a -> b -> bool) -> .. -> (a,..) T -> (b,..) T -> bool, with a relation for each live argument
abbrev pub rel_const : Name → List Bool → List Ty → List Ty → Tm
rel_const n ls sources targets =
    tm_const (n ++ codes ".rel") (map_args ls sources targets)
    (function_ty (relations (live_among ls sources) (live_among ls targets)) (ty_app n (tys sources) ⇒ ty_app n (tys targets) ⇒ bool_ty))

-- T.setI : (a,..) T -> a -> bool, for the I-th argument, of the type a
abbrev pub set_const : Name → ℕ → List Ty → Ty → Tm
set_const n k args a = tm_const (n ++ codes ".set" ++ decimal k) args (ty_app n (tys args) ⇒ a ⇒ bool_ty)

-- T.map and T.rel of what is put for each argument, of which the live ones count
abbrev pub mapped : Name → List Bool → List Tm → Tm
mapped n ls gs = applied (map_const n ls (map (λ g. domain_ty (tm_type g)) gs) (map (λ g. range_ty (tm_type g)) gs)) (live_among ls gs)

abbrev pub related : Name → List Bool → List Tm → Tm
related n ls rs = applied (rel_const n ls (map (λ r. domain_ty (tm_type r)) rs) (map (λ r. domain_ty (range_ty (tm_type r))) rs)) (live_among ls rs)

-- the variable for a member of an argument of the type a. Its type tells it from those of the arguments inside
abbrev pub member_var : Ty → FreeVar
member_var a = variable (codes "z") a

-- ---- names in a type expression

-- terms for names
abbrev pub Names : Type 0
Names = List (Ty × Tm)

abbrev pub same_type : Ty → Ty → Bool
same_type a b = is_eq (ty_cmp a b)

abbrev pub term_for : Names → Ty → Option Tm
term_for [] a = None
term_for (e ∷ es) a = if same_type e.0 a then Some e.1 else term_for es a

-- the name v occurs in the type
abbrev mutual
  pub has_name : Ty → Ty → Bool
  has_name v (ty_var n) = same_type v (ty_var n)
  has_name v (ty_app c ts) = same_type v (ty_app c ts) || any_has_name v ts

  pub any_has_name : Ty → Tys → Bool
  any_has_name v no_tys = false
  any_has_name v (more_tys a ts) = has_name v a || any_has_name v ts

abbrev pub has_names : Names → Ty → Bool
has_names g a = list_any (λ e. has_name e.0 a) g

-- ---- the map of a type expression: `id` where no name occurs, the function of a name, and else T.map of the maps of the live arguments
abbrev mutual
  pub map_term : Lives → Names → Ty → Tm
  map_term ls g (ty_var n) = unwrap_or (term_for g (ty_var n)) (const_id (ty_var n))
  map_term ls g (ty_app c ts) =
      unwrap_or (term_for g (ty_app c ts)) (if has_names g (ty_app c ts) then mapped c (lives_of ls c) (map_terms ls g ts) else const_id (ty_app c ts))

  pub map_terms : Lives → Names → Tys → List Tm
  map_terms ls g no_tys = []
  map_terms ls g (more_tys a ts) = map_term ls g a ∷ map_terms ls g ts

-- ---- the relator of a type expression: `eq` where no name occurs, the relation of a name, and else T.rel of those of the live arguments
abbrev mutual
  pub rel_term : Lives → Names → Ty → Tm
  rel_term ls r (ty_var n) = unwrap_or (term_for r (ty_var n)) (const_eq (ty_var n))
  rel_term ls r (ty_app c ts) =
      unwrap_or (term_for r (ty_app c ts)) (if has_names r (ty_app c ts) then related c (lives_of ls c) (rel_terms ls r ts) else const_eq (ty_app c ts))

  pub rel_terms : Lives → Names → Tys → List Tm
  rel_terms ls r no_tys = []
  rel_terms ls r (more_tys a ts) = rel_term ls r a ∷ rel_terms ls r ts

-- a term in place of the index that k binders lie before
abbrev pub put : ℕ → Tm → Tm → Tm
put k x (tm_index i a) = if nat_eq i k then x else tm_index i a
put k x (tm_free v) = tm_free v
put k x (tm_const c ts a) = tm_const c ts a
put k x (tm_comb f y) = tm_comb (put k x f) (put k x y)
put k x (tm_abs a b) = tm_abs a (put (k + 1) x b)

-- ---- the map applied to a term: the term itself where no name occurs. An abstraction that stands for a name is contracted
abbrev pub contracted : Tm → Tm → Tm
contracted (tm_index i a) x = tm_index i a · x
contracted (tm_free v) x = tm_free v · x
contracted (tm_const c ts a) x = tm_const c ts a · x
contracted (tm_comb f y) x = tm_comb f y · x
contracted (tm_abs a b) x = put 0 x b

abbrev pub map_at : Lives → Names → Ty → Tm → Tm
map_at ls g a x = if has_names g a then contracted (map_term ls g a) x else x

-- ---- membership: that y stands at the name v in x, a value of the type expression. It is `y = x` where the expression is v. Else it
-- is one of: `T.setI x y` for a live argument that is v, and `?z. T.setI x z /\ z has y` for another in which v occurs
abbrev mutual
  pub mem_term : Lives → Ty → Ty → Tm → Tm → Tm
  mem_term ls v (ty_var n) x y = if same_type v (ty_var n) then y ≐ x else disj_of []
  mem_term ls v (ty_app c ts) x y = if same_type v (ty_app c ts) then y ≐ x else disj_of (mem_terms ls v c (ty_list ts) (lives_of ls c) 1 ts x y)

  pub mem_terms : Lives → Ty → Name → List Ty → List Bool → ℕ → Tys → Tm → Tm → List Tm
  mem_terms ls v c args lives k no_tys x y = []
  mem_terms ls v c args [] k (more_tys a ts) x y = []
  mem_terms ls v c args (live ∷ lives) k (more_tys a ts) x y =
      when (live && has_name v a)
      (if same_type v a then set_const c k args a · x · y else ex_of (member_var a ∷ []) (conj_of ((set_const c k args a · x · tm_free (member_var a)) ∷ mem_term ls v a (tm_free (member_var a)) y ∷ [])))
      ++ mem_terms ls v c args lives (k + 1) ts x y
