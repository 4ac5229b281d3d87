-- The steps of a walk that takes a term's instance by types.
use Rattle.std.proofs.Common.{◌≡◌, ◌<◌, ℕ, List, [], ◌∷◌, length, map, Some, Result, Ok, Err, refl, ap, sym, subst, ◌∙◌}
use Rattle.std.specs.Result.{IfOk, OnErr}
use Rattle.hol_terms.specs.Name.{Name}
use Rattle.hol_terms.specs.Ty.{Ty}
use Rattle.hol_terms.specs.Tm.{Tm, tm_index, tm_free, tm_const, tm_comb, tm_abs}
use Rattle.hol_terms.specs.Typing.{tm_type, fun_ty, range_ty}
use Rattle.hol_terms.specs.Takes.{Takes}
use Rattle.hol_terms.specs.Subst.{TySubst, ty_subst}
use Rattle.hol_terms.specs.Binding.{tm_ty_subst}
use Rattle.flat_terms.specs.declared.nodes.NameId.{NameId}
use Rattle.flat_terms.specs.declared.nodes.TypeId.{TypeId}
use Rattle.flat_terms.specs.declared.nodes.TermId.{TermId}
use Rattle.flat_terms.specs.Plain.{PlainTables, HasType, HasTerm, name_of, name_at, type_of, types_of, term_of, ty_at, tm_at, IsTermAdded}
use Rattle.flat_walks.specs.Walk.{Grows}
use Rattle.flat_walks.specs.Number.{IsNumber, AreAll}
use Rattle.flat_walks.proofs.Steps.{grows_added}
use Rattle.flat_walks.proofs.Memo.{number_is, number_added, all_weaker, found_all, noted_all}
use Rattle.flat_instances.specs.Types.{TypesGrow, IsTypeNumber, HasTypePairs, type_pairs, type_instance_of, IsTypeInstance, TakesTypes}
use Rattle.flat_instances.specs.Terms.{same_term_id, found_term, IsTermNoted}
use Rattle.flat_instances.specs.Retypings.{Extends, retyped, KeepsType, IsRetyped, IsRetyping, Retypes}
use Rattle.flat_instances.proofs.TypeSteps.{spelled}
use Rattle.flat_instances.proofs.TermSteps.{term_id_same}

pub extends_itself : (t : PlainTables) → Extends t t
extends_itself t = record { names = refl; has_type = λ n h. h; same_type = λ n h. refl; has_term = λ n h. h; same_term = λ n h. refl }

pub extends_further : (s t u : PlainTables) → Extends s t → Extends t u → Extends s u
extends_further s t u g h = record {
  names = h.names ∙ g.names;
  has_type = λ n p. h.has_type n (g.has_type n p);
  same_type = λ n p. h.same_type n (g.has_type n p) ∙ g.same_type n p;
  has_term = λ n p. h.has_term n (g.has_term n p);
  same_term = λ n p. h.same_term n (g.has_term n p) ∙ g.same_term n p;
}

pub extends_types : (s t : PlainTables) → TypesGrow s t → Extends s t
extends_types s t g = record {
  names = g.names;
  has_type = g.has;
  same_type = g.same;
  has_term = λ n p. subst (λ (l : List Tm). n.0 < length l) (sym g.terms) p;
  same_term = λ n p. ap (λ l. tm_at l n.0) g.terms;
}

pub extends_terms : (s t : PlainTables) → Grows s t → Extends s t
extends_terms s t g = record {
  names = g.names;
  has_type = λ n p. subst (λ (l : List Ty). n.0 < length l) (sym g.types) p;
  same_type = λ n p. ap (λ l. ty_at l n.0) g.types;
  has_term = g.has;
  same_term = g.same;
}

pub extends_added : (s t : PlainTables) (r : TermId) (x : Tm) → IsTermAdded s t r x → Extends s t
extends_added s t r x a = extends_terms s t (grows_added s t r x a)

-- pairs in tables that grew
pub pairs_on : (s t : PlainTables) (ps : List (NameId × TypeId)) → Extends s t → HasTypePairs s ps → HasTypePairs t ps
pairs_on s t [] g h = tt
pairs_on s t (p ∷ ps) g h = (subst (λ (ns : List Name). p.0.0 < length ns) (sym g.names) h.0, g.has_type p.1 h.1, pairs_on s t ps g h.2)

pub pairs_kept : (s t : PlainTables) (ps : List (NameId × TypeId)) → Extends s t → HasTypePairs s ps → type_pairs t ps ≡ type_pairs s ps
pairs_kept s t [] g h = refl
pairs_kept s t (p ∷ ps) g h = λ j. (name_at (g.names j) p.0.0, g.same_type p.1 h.1 j) ∷ pairs_kept s t ps g h.2 j

pub instance_on : (s t : PlainTables) (ps : List (NameId × TypeId)) (n : TypeId) → Extends s t → HasTypePairs s ps → HasType s n → type_instance_of t ps n ≡ type_instance_of s ps n
instance_on s t ps n g h hn = λ j. ty_subst (pairs_kept s t ps g h j) (g.same_type n hn j)

pub retyped_on : (s t : PlainTables) (ps : List (NameId × TypeId)) (n : TermId) → Extends s t → HasTypePairs s ps → HasTerm s n → retyped t ps n ≡ retyped s ps n
retyped_on s t ps n g h hn = λ j. tm_ty_subst (pairs_kept s t ps g h j) (g.same_term n hn j)

pub type_later : (t u : PlainTables) (r : TypeId) (x : Ty) → IsTypeNumber t r x → Extends t u → IsTypeNumber u r x
type_later t u r x n g = record { has = g.has_type r n.has; tree = g.same_type r n.has ∙ n.tree }

pub term_later : (t u : PlainTables) (r : TermId) (x : Tm) → IsNumber t r x → Extends t u → IsNumber u r x
term_later t u r x n g = record { has = g.has_term r n.has; tree = g.same_term r n.has ∙ n.tree }

-- what is noted stays right
pub types_on : (s t : PlainTables) (ps : List (NameId × TypeId)) (es : List (TypeId × TypeId)) → Extends s t → HasTypePairs s ps → AreAll (IsTypeInstance s ps) es → AreAll (IsTypeInstance t ps) es
types_on s t ps es g h a = all_weaker (IsTypeInstance s ps) (IsTypeInstance t ps) es later a
  where
    later : (n r : TypeId) → IsTypeInstance s ps n r → IsTypeInstance t ps n r
    later n r i =
        let there = type_later s t r (type_instance_of s ps n) i.number g in
        record { has = g.has_type n i.has; number = record { has = there.has; tree = there.tree ∙ sym (instance_on s t ps n g h i.has) } }

pub keeps_on : (s t : PlainTables) (ps : List (NameId × TypeId)) (n : TermId) → Extends s t → HasTypePairs s ps → HasTerm s n → KeepsType (type_pairs s ps) (term_of s n) → KeepsType (type_pairs t ps) (term_of t n)
keeps_on s t ps n g h hn k = subst (λ (p : TySubst × Tm). KeepsType p.0 p.1) (λ j. (sym (pairs_kept s t ps g h) j, sym (g.same_term n hn) j)) k

pub retyped_now : (s t : PlainTables) (ps : List (NameId × TypeId)) (n r : TermId) → Extends s t → HasTypePairs s ps → HasTerm s n → IsRetyped s t ps n r → IsRetyping t ps n r
retyped_now s t ps n r g h hn i = record {
  has = g.has_term n hn;
  retyped = record { number = number_is t r (retyped s ps n) (retyped t ps n) i.number (sym (retyped_on s t ps n g h hn)); keeps = keeps_on s t ps n g h hn i.keeps };
}

pub terms_on : (s t : PlainTables) (ps : List (NameId × TypeId)) (fs : List (TermId × TermId)) → Extends s t → HasTypePairs s ps → AreAll (IsRetyping s ps) fs → AreAll (IsRetyping t ps) fs
terms_on s t ps fs g h a = all_weaker (IsRetyping s ps) (IsRetyping t ps) fs later a
  where
    later : (n r : TermId) → IsRetyping s ps n r → IsRetyping t ps n r
    later n r i = retyped_now s t ps n r g h i.has (record { number = term_later s t r (retyped s ps n) i.retyped.number g; keeps = i.retyped.keeps })

pub found_retyped : (t : PlainTables) (ps : List (NameId × TypeId)) (fs : List (TermId × TermId)) (n r : TermId) → AreAll (IsRetyping t ps) fs → found_term fs n ≡ Some r → IsRetyped t t ps n r
found_retyped t ps fs n r a e = (found_all same_term_id term_id_same (IsRetyping t ps) fs n r a e).retyped

-- the steps that a walk takes
module _ (s t u : PlainTables) (ps : List (NameId × TypeId)) (es gs : List (TypeId × TypeId)) (fs hs : List (TermId × TermId)) (h : HasTypePairs s ps) (w : Retypes s t ps es fs) where
  pub then_retypes : Retypes t u ps gs hs → Retypes s u ps gs hs
  then_retypes v = record { grows = extends_further s t u w.grows v.grows; types = v.types; terms = v.terms }

  pub then_types : TakesTypes t u ps gs → Retypes s u ps gs fs
  then_types v = record {
    grows = extends_further s t u w.grows (extends_types t u v.grows);
    types = v.memo;
    terms = terms_on t u ps fs (extends_types t u v.grows) (pairs_on s t ps w.grows h) w.terms;
  }

  pub then_same : u ≡ t → Retypes s u ps es fs
  then_same e = subst (λ (x : PlainTables). Retypes s x ps es fs) (sym e) w

  pub then_added : (r : TermId) (x : Tm) → IsTermAdded t u r x → Retypes s u ps es fs
  then_added r x a = record {
    grows = extends_further s t u w.grows (extends_added t u r x a);
    types = types_on t u ps es (extends_added t u r x a) (pairs_on s t ps w.grows h) w.types;
    terms = terms_on t u ps fs (extends_added t u r x a) (pairs_on s t ps w.grows h) w.terms;
  }

  pub then_either : {E : Type 0} (x : Tm) (r : Result TermId E) → IfOk r (λ n. IsTermAdded t u n x) → OnErr r (u ≡ t) → Retypes s u ps es fs
  then_either x (Ok n) a e = then_added n x a
  then_either x (Err d) a e = then_same e

  pub then_noted : (n r : TermId) → HasTerm s n → IsRetyped s t ps n r → IsTermNoted fs hs n r → Retypes s t ps es hs
  then_noted n r hn i noted = record {
    grows = w.grows;
    types = w.types;
    terms = noted_all same_term_id term_id_same (IsRetyping t ps) fs hs n r w.terms (retyped_now s t ps n r w.grows h hn i) noted;
  }

pub retypes_itself : (t : PlainTables) (ps : List (NameId × TypeId)) (es : List (TypeId × TypeId)) (fs : List (TermId × TermId)) → AreAll (IsTypeInstance t ps) es → AreAll (IsRetyping t ps) fs → Retypes t t ps es fs
retypes_itself t ps es fs a b = record { grows = extends_itself t; types = a; terms = b }

-- what an instance keeps, by a term's parts
comb_range : (s : TySubst) (f x : Tm) → KeepsType s f → Takes f x → KeepsType s (tm_comb f x)
comb_range s f x kf takes = ap range_ty kf ∙ ap (λ u. range_ty (ty_subst s u)) takes

pub takes_retyped : (s : TySubst) (f x g y : Tm) → g ≡ tm_ty_subst s f → y ≡ tm_ty_subst s x → KeepsType s f → KeepsType s x → Takes f x → Takes g y
takes_retyped s f x g y eg ey kf kx takes =
    let tg : tm_type g ≡ ty_subst s (tm_type f) = ap tm_type eg ∙ kf in
    let ty : tm_type y ≡ ty_subst s (tm_type x) = ap tm_type ey ∙ kx in
    let range : range_ty (tm_type g) ≡ ty_subst s (range_ty (tm_type f)) = ap range_ty (ap tm_type eg) ∙ comb_range s f x kf takes in
    tg ∙ ap (ty_subst s) takes ∙ (λ j. fun_ty (sym ty j) (sym range j))

-- a new term that is the instance of the term n
module _ (s t w : PlainTables) (ps : List (NameId × TypeId)) (n r : TermId) where
  new_retyped : (x y : Tm) → term_of s n ≡ y → IsTermAdded t w r x → x ≡ tm_ty_subst (type_pairs s ps) y → KeepsType (type_pairs s ps) y → IsRetyped s w ps n r
  new_retyped x y e a is k = record {
    number = number_is w r x (retyped s ps n) (number_added t w r x a) (is ∙ sym (ap (tm_ty_subst (type_pairs s ps)) e));
    keeps = subst (λ (z : Tm). KeepsType (type_pairs s ps) z) (sym e) k;
  }

  pub index_retyped : (i : ℕ) (y z : TypeId) → term_of s n ≡ tm_index i (type_of s y) → IsTypeNumber t z (type_instance_of s ps y) → IsTermAdded t w r (tm_index i (type_of t z)) → IsRetyped s w ps n r
  index_retyped i y z e m a = new_retyped (tm_index i (type_of t z)) (tm_index i (type_of s y)) e a (ap (tm_index i) m.tree) refl

  pub free_retyped : (c : NameId) (y z : TypeId) → t.names ≡ s.names → term_of s n ≡ tm_free (record { name = name_of s c; ty = type_of s y }) → IsTypeNumber t z (type_instance_of s ps y)
      → IsTermAdded t w r (tm_free (record { name = name_of t c; ty = type_of t z })) → IsRetyped s w ps n r
  free_retyped c y z names e m a =
      new_retyped (tm_free (record { name = name_of t c; ty = type_of t z })) (tm_free (record { name = name_of s c; ty = type_of s y })) e a (λ j. tm_free (record { name = name_at (names j) c.0; ty = m.tree j })) refl

  pub const_retyped : (c : NameId) (args made : List TypeId) (y z : TypeId) → t.names ≡ s.names → term_of s n ≡ tm_const (name_of s c) (types_of s args) (type_of s y) → types_of t made ≡ map (type_instance_of s ps) args
      → IsTypeNumber t z (type_instance_of s ps y) → IsTermAdded t w r (tm_const (name_of t c) (types_of t made) (type_of t z)) → IsRetyped s w ps n r
  const_retyped c args made y z names e ts m a =
      new_retyped (tm_const (name_of t c) (types_of t made) (type_of t z)) (tm_const (name_of s c) (types_of s args) (type_of s y)) e a
      (λ j. tm_const (name_at (names j) c.0) ((ts ∙ spelled s ps args) j) (m.tree j)) refl

  pub comb_retyped : (f x g y : TermId) → term_of s n ≡ tm_comb (term_of s f) (term_of s x) → Takes (term_of s f) (term_of s x) → IsRetyped s t ps f g → IsRetyped s t ps x y → IsTermAdded t w r (tm_comb (term_of t g) (term_of t y)) → IsRetyped s w ps n r
  comb_retyped f x g y e takes kf kx a =
      new_retyped (tm_comb (term_of t g) (term_of t y)) (tm_comb (term_of s f) (term_of s x)) e a (λ j. tm_comb (kf.number.tree j) (kx.number.tree j)) (comb_range (type_pairs s ps) (term_of s f) (term_of s x) kf.keeps takes)

  pub abs_retyped : (a c : TypeId) (b d : TermId) → term_of s n ≡ tm_abs (type_of s a) (term_of s b) → IsTypeNumber t c (type_instance_of s ps a) → IsRetyped s t ps b d → IsTermAdded t w r (tm_abs (type_of t c) (term_of t d)) → IsRetyped s w ps n r
  abs_retyped a c b d e m k ad =
      new_retyped (tm_abs (type_of t c) (term_of t d)) (tm_abs (type_of s a) (term_of s b)) e ad (λ j. tm_abs (m.tree j) (k.number.tree j)) (ap (λ u. fun_ty (ty_subst (type_pairs s ps) (type_of s a)) u) k.keeps)

-- the type of an abstraction's instance
pub abs_retyped_type : (s t : PlainTables) (ps : List (NameId × TypeId)) (n : TermId) (a c y z : TypeId) (b d : TermId) → term_of s n ≡ tm_abs (type_of s a) (term_of s b) → type_of s y ≡ tm_type (term_of s n)
    → IsTypeNumber t c (type_instance_of s ps a) → IsTypeNumber t z (type_instance_of s ps y) → IsRetyped s t ps b d → type_of t z ≡ fun_ty (type_of t c) (tm_type (term_of t d))
abs_retyped_type s t ps n a c y z b d e ey mc mz k =
    mz.tree ∙ ap (ty_subst (type_pairs s ps)) (ey ∙ ap tm_type e) ∙ (λ j. fun_ty (sym mc.tree j) (sym (ap tm_type k.number.tree ∙ k.keeps) j))

-- instances of parts, from where the walk began and in larger tables
pub retyped_later : (s t u : PlainTables) (ps : List (NameId × TypeId)) (n r : TermId) → IsRetyped s t ps n r → Extends t u → IsRetyped s u ps n r
retyped_later s t u ps n r i g = record { number = term_later t u r (retyped s ps n) i.number g; keeps = i.keeps }

pub retyped_from : (s t u : PlainTables) (ps : List (NameId × TypeId)) (n r : TermId) → Extends s t → HasTypePairs s ps → HasTerm s n → IsRetyped t u ps n r → IsRetyped s u ps n r
retyped_from s t u ps n r g h hn i = record {
  number = number_is u r (retyped t ps n) (retyped s ps n) i.number (retyped_on s t ps n g h hn);
  keeps = subst (λ (p : TySubst × Tm). KeepsType p.0 p.1) (λ j. (pairs_kept s t ps g h j, g.same_term n hn j)) i.keeps;
}

pub type_from : (s t u : PlainTables) (ps : List (NameId × TypeId)) (n r : TypeId) → Extends s t → HasTypePairs s ps → HasType s n → IsTypeNumber u r (type_instance_of t ps n) → IsTypeNumber u r (type_instance_of s ps n)
type_from s t u ps n r g h hn m = record { has = m.has; tree = m.tree ∙ instance_on s t ps n g h hn }
