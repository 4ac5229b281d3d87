-- Equations and the types that they need.
use Rattle.std.proofs.Common.{◌≡◌, ◌≤◌, ◌<◌, Bool, true, false, List, [], ◌∷◌, length, get_or, codes, ◌==◌, Result, Ok, Err, suc, not, refl, ap, sym, subst, ◌∙◌, arith, true≢false}
use Rattle.std.proofs.lemmas.Option.{get_or_from_slice_get}
use Rattle.std.specs.Result.{IfOk, OnErr}
use Rattle.std.specs.declared.alloc.AllocError.{AllocError}
use Rattle.hol_terms.specs.Name.{Name}
use Rattle.hol_terms.specs.Ty.{Ty, ty_app, no_tys, tys}
use Rattle.hol_terms.specs.Tm.{Tm, tm_index, tm_const, tm_comb}
use Rattle.hol_terms.specs.Typing.{tm_type, fun_ty}
use Rattle.hol_terms.specs.Takes.{Takes}
use Rattle.hol_terms.specs.Definition.{bool_ty, eq_ty}
use Rattle.hol_terms.specs.Sequent.{eq_tm, left_of, argument}
use Rattle.hol_terms.specs.Rules.{is_equation}
use Rattle.flat_terms.specs.declared.nodes.NameId.{NameId}
use Rattle.flat_terms.specs.declared.nodes.TypeId.{TypeId}
use Rattle.flat_terms.specs.declared.nodes.TermId.{TermId}
use Rattle.flat_terms.specs.declared.nodes.TermView.{TermView}
use Rattle.flat_terms.specs.declared.nodes.TermView.TheVariants.{Index, Free, Const, Comb, Abs}
use Rattle.flat_terms.specs.Plain.{PlainTables, HasType, HasTerm, name_of, type_of, types_of, term_of, IsNameAdded, IsTermAdded}
use Rattle.flat_terms.specs.Views.{IsTermView}
use Rattle.flat_walks.specs.Number.{IsNumber}
use Rattle.flat_walks.proofs.Steps.{added_has, added_is}
use Rattle.flat_instances.specs.Types.{IsTypeNumber}
use Rattle.flat_instances.specs.TablesGrow.{TablesGrow}
use Rattle.flat_instances.proofs.TablesGrow.{tables_grow_same, tables_grow_by_term, tables_grow_by_name}
use Rattle.flat_rules.specs.Equations.{eq_const}
use Rattle.flat_rules.proofs.Placing.{same_no}

pub bool_when : (t : PlainTables) (n : Name) (args : List TypeId) (y : Ty) → y ≡ ty_app n (tys (types_of t args)) → n ≡ codes "bool" → (args ≡ [] → y ≡ bool_ty) × (y ≡ bool_ty → args ≡ [])
bool_when t n args y e k = (λ h. e ∙ (λ j. ty_app (k j) (tys (types_of t (h j)))), λ h. none args (sym e ∙ h))
  where
    none : (args : List TypeId) → ty_app n (tys (types_of t args)) ≡ bool_ty → args ≡ []
    none [] h = refl
    none (a ∷ args) h = cc

pub no_equation : (p : Tm) → ((f x : Tm) → p ≡ tm_comb f x → ⊥) → is_equation p ≡ false
no_equation p n = same_no p (eq_tm (left_of p) (argument p)) (λ e. n _ _ e)

pub no_equality : (p e l r : Tm) → p ≡ tm_comb (tm_comb e l) r → (e ≡ eq_const (tm_type l) → ⊥) → is_equation p ≡ false
no_equality p e l r h n = subst (λ (q : Tm). is_equation q ≡ false) (sym h) (same_no (tm_comb (tm_comb e l) r) (eq_tm l r) other)
  where
    other : tm_comb (tm_comb e l) r ≡ tm_comb (tm_comb (eq_const (tm_type l)) l) r → ⊥
    other k = let same : e ≡ eq_const (tm_type l) = cc in n same

pub no_function : (p f x : Tm) → p ≡ tm_comb f x → ((g y : Tm) → f ≡ tm_comb g y → ⊥) → is_equation p ≡ false
no_function p f x h n = subst (λ (q : Tm). is_equation q ≡ false) (sym h) (same_no (tm_comb f x) (eq_tm (argument f) x) other)
  where
    other : tm_comb f x ≡ tm_comb (tm_comb (eq_const (tm_type (argument f))) (argument f)) x → ⊥
    other k = let same : f ≡ tm_comb (eq_const (tm_type (argument f))) (argument f) = cc in n _ _ same

-- an entry that isn't read as an application is none
pub no_comb : (t : PlainTables) (m : TermId) (v : TermView) → IsTermView t m v → ((f x : TermId) → v ≡ Comb f x → ⊥) → (f x : Tm) → term_of t m ≡ tm_comb f x → ⊥
no_comb t m (Index i y) h n f x e = let k : tm_index i (type_of t y) ≡ tm_comb f x = sym h.1 ∙ e in cc
no_comb t m (Free a y) h n f x e = let k = sym h.2 ∙ e in cc
no_comb t m (Const a args y) h n f x e = let k = sym h.3 ∙ e in cc
no_comb t m (Comb g y) h n f x e = n g y refl
no_comb t m (Abs a b) h n f x e = let k = sym h.2 ∙ e in cc

-- the constant takes the left side, and then the right one
pub eq_takes : (e l : Tm) → e ≡ eq_const (tm_type l) → Takes e l
eq_takes e l k = subst (λ (c : Tm). Takes c l) (sym k) refl

pub eq_takes_more : (f l r : Tm) → f ≡ tm_comb (eq_const (tm_type l)) l → tm_type r ≡ tm_type l → Takes f r
eq_takes_more f l r k e = subst (λ (g : Tm). Takes g r) (sym k) (λ j. fun_ty (sym e j) bool_ty)

-- a term that may have been added
pub grows_adding : (t u : PlainTables) (r : Result TermId AllocError) (x : Tm) → IfOk r (λ n. IsTermAdded t u n x) → OnErr r (u ≡ t) → TablesGrow t u
grows_adding t u (Ok n) x a e = tables_grow_by_term t u n x a
grows_adding t u (Err b) x a e = tables_grow_same t u e

pub named : (t u : PlainTables) (n : NameId) (x : Name) → IsNameAdded t u n x → name_of u n ≡ x
named t u n x a = get_or_from_slice_get u.names n.0 x [] a.at

pub equality_made : (s t u w : PlainTables) (at ty : TypeId) (n : NameId) (r : TermId) → TablesGrow s t → HasType s at → IsTypeNumber t ty (eq_ty (type_of s at)) → IsNameAdded t u n (codes "eq")
    → IsTermAdded u w r (tm_const (name_of u n) (type_of u at ∷ []) (type_of u ty)) → IsNumber w r (eq_const (type_of s at))
equality_made s t u w at ty n r g h k a m = record { has = added_has u w r _ m; tree = added_is u w r _ m ∙ (λ j. tm_const (named t u n (codes "eq") a j) (same j ∷ []) (typed j)) }
  where
    later : TablesGrow t u
    later = tables_grow_by_name t u n (codes "eq") a

    same : type_of u at ≡ type_of s at
    same = later.same_type at (g.has_type at h) ∙ g.same_type at h

    typed : type_of u ty ≡ eq_ty (type_of s at)
    typed = later.same_type ty k.has ∙ k.tree

-- `eq l`, and then the equation
pub half_made : (s t u : PlainTables) (at : TypeId) (l e f : TermId) → HasTerm s l → type_of s at ≡ tm_type (term_of s l) → TablesGrow s t → IsNumber t e (eq_const (type_of s at)) → IsTermAdded t u f (tm_comb (term_of t e) (term_of t l))
    → IsNumber u f (tm_comb (eq_const (tm_type (term_of s l))) (term_of s l))
half_made s t u at l e f h y g k a = record { has = added_has t u f _ a; tree = added_is t u f _ a ∙ (λ j. tm_comb ((k.tree ∙ ap eq_const y) j) (g.same_term l h j)) }

pub half_takes : (s t u : PlainTables) (l r f : TermId) → HasTerm s r → TablesGrow s u → IsNumber u f (tm_comb (eq_const (tm_type (term_of s l))) (term_of s l)) → tm_type (term_of s r) ≡ tm_type (term_of s l) → Takes (term_of u f) (term_of u r)
half_takes s t u l r f h g k e = eq_takes_more (term_of u f) (term_of s l) (term_of u r) k.tree (ap tm_type (g.same_term r h) ∙ e)

pub equation_made : (s u w : PlainTables) (l r f p : TermId) → HasTerm s r → TablesGrow s u → IsNumber u f (tm_comb (eq_const (tm_type (term_of s l))) (term_of s l)) → IsTermAdded u w p (tm_comb (term_of u f) (term_of u r))
    → IsNumber w p (eq_tm (term_of s l) (term_of s r))
equation_made s u w l r f p h g k a = record { has = added_has u w p _ a; tree = added_is u w p _ a ∙ (λ j. tm_comb (k.tree j) (g.same_term r h j)) }

-- the tests
pub bool_test : (t : PlainTables) (n : Name) (args : List TypeId) (y : Ty) (b : Bool) → y ≡ ty_app n (tys (types_of t args)) → n ≡ codes "bool" → b ≡ (length args == 0) → (b ≡ true → y ≡ bool_ty) × (y ≡ bool_ty → b ≡ true)
bool_test t n [] y b e k i = (λ h. e ∙ ap (λ m. ty_app m no_tys) k, λ h. i)
bool_test t n (a ∷ args) y b e k i = (λ h. absurd (true≢false (sym h ∙ i ∙ nat_no)), λ h. absurd (none (sym e ∙ h)))
  where
    nat_no : (suc (length args) == 0) ≡ false
    nat_no = grind arith

    none : ty_app n (tys (types_of t (a ∷ args))) ≡ bool_ty → ⊥
    none h = cc

pub equality_test : (t : PlainTables) (n : Name) (args : List TypeId) (y a d : TypeId) (m : TermId) (b : Bool) → term_of t m ≡ tm_const n (types_of t args) (type_of t y) → n ≡ codes "eq" → 1 ≤ length args → length args < 2
    → type_of t (get_or args 0 d) ≡ type_of t a → (b ≡ true → type_of t y ≡ eq_ty (type_of t a)) × (type_of t y ≡ eq_ty (type_of t a) → b ≡ true)
    → (b ≡ true → term_of t m ≡ eq_const (type_of t a)) × (term_of t m ≡ eq_const (type_of t a) → b ≡ true)
equality_test t n [] y a d m b e k l u s h = absurd (omega arith)
equality_test t n (x ∷ []) y a d m b e k l u s h = (λ g. e ∙ (λ j. tm_const (k j) (s j ∷ []) (h.0 g j)), λ g. h.1 (typed g))
  where
    typed : term_of t m ≡ eq_const (type_of t a) → type_of t y ≡ eq_ty (type_of t a)
    typed g = let f : tm_const n (type_of t x ∷ []) (type_of t y) ≡ eq_const (type_of t a) = sym e ∙ g in cc
equality_test t n (x ∷ z ∷ rest) y a d m b e k l u s h = absurd (omega arith)

pub not_false : (b : Bool) → not b ≡ false → b ≡ true
not_false true e = refl
not_false false e = cc
