-- Tables to which names, types and terms were added.
use Rattle.std.proofs.Common.{◌≡◌, ◌⊎◌, inl, inr, ◌<◌, List, [], ◌∷◌, ◌++◌, length, Result, refl, ap, sym, subst, ◌∙◌, arith, length-append}
use Rattle.std.proofs.Math.ListN.{get_or-append}
use Rattle.hol_terms.specs.Name.{Name}
use Rattle.hol_terms.specs.Ty.{Ty, ty_var}
use Rattle.hol_terms.specs.Tm.{Tm, tm_index}
use Rattle.flat_terms.specs.declared.nodes.NameId.{NameId}
use Rattle.flat_terms.specs.declared.nodes.TypeId.{TypeId}
use Rattle.flat_terms.specs.declared.nodes.TermId.{TermId}
use Rattle.flat_terms.specs.Plain.{PlainTables, HasName, HasType, HasTerm, name_of, type_of, term_of, name_at, ty_at, tm_at, IsNameAdded, IsTypeAdded, IsTermAdded}
use Rattle.flat_walks.specs.Walk.{Grows}
use Rattle.flat_walks.proofs.Steps.{grows_added}
use Rattle.flat_instances.specs.Types.{TypesGrow}
use Rattle.flat_instances.specs.Retypings.{Extends}
use Rattle.flat_instances.specs.TablesGrow.{TablesGrow}
use Rattle.flat_instances.proofs.Growth.{types_grow_added}

pub tables_grow_itself : (t : PlainTables) → TablesGrow t t
tables_grow_itself t = record {
  has_name = λ n h. h;
  same_name = λ n h. refl;
  has_type = λ n h. h;
  same_type = λ n h. refl;
  has_term = λ n h. h;
  same_term = λ n h. refl;
}

pub tables_grow_same : (t u : PlainTables) → u ≡ t → TablesGrow t u
tables_grow_same t u e = subst (λ (w : PlainTables). TablesGrow t w) (sym e) (tables_grow_itself t)

pub tables_grow_further : (s t u : PlainTables) → TablesGrow s t → TablesGrow t u → TablesGrow s u
tables_grow_further s t u g h = record {
  has_name = λ n p. h.has_name n (g.has_name n p);
  same_name = λ n p. h.same_name n (g.has_name n p) ∙ g.same_name n p;
  has_type = λ n p. h.has_type n (g.has_type n p);
  same_type = λ n p. h.same_type n (g.has_type n p) ∙ g.same_type n p;
  has_term = λ n p. h.has_term n (g.has_term n p);
  same_term = λ n p. h.same_term n (g.has_term n p) ∙ g.same_term n p;
}

-- types and terms were added
pub tables_grow_extended : (t u : PlainTables) → Extends t u → TablesGrow t u
tables_grow_extended t u g = record {
  has_name = λ n h. subst (λ (l : List Name). n.0 < length l) (sym g.names) h;
  same_name = λ n h. ap (λ l. name_at l n.0) g.names;
  has_type = g.has_type;
  same_type = g.same_type;
  has_term = g.has_term;
  same_term = g.same_term;
}

-- terms were added
pub tables_grow_terms : (t u : PlainTables) → Grows t u → TablesGrow t u
tables_grow_terms t u g = record {
  has_name = λ n h. subst (λ (l : List Name). n.0 < length l) (sym g.names) h;
  same_name = λ n h. ap (λ l. name_at l n.0) g.names;
  has_type = λ n h. subst (λ (l : List Ty). n.0 < length l) (sym g.types) h;
  same_type = λ n h. ap (λ l. ty_at l n.0) g.types;
  has_term = g.has;
  same_term = g.same;
}

-- types were added
pub tables_grow_types : (t u : PlainTables) → TypesGrow t u → TablesGrow t u
tables_grow_types t u g = record {
  has_name = λ n h. subst (λ (l : List Name). n.0 < length l) (sym g.names) h;
  same_name = λ n h. ap (λ l. name_at l n.0) g.names;
  has_type = g.has;
  same_type = g.same;
  has_term = λ n h. subst (λ (l : List Tm). n.0 < length l) (sym g.terms) h;
  same_term = λ n h. ap (λ l. tm_at l n.0) g.terms;
}

pub tables_grow_by_term : (t u : PlainTables) (r : TermId) (x : Tm) → IsTermAdded t u r x → TablesGrow t u
tables_grow_by_term t u r x a = tables_grow_terms t u (grows_added t u r x a)

pub tables_grow_by_type : (t u : PlainTables) (r : TypeId) (x : Ty) → IsTypeAdded t u r x → TablesGrow t u
tables_grow_by_type t u r x a = tables_grow_types t u (types_grow_added t u r x a)

pub tables_grow_by_name : (t u : PlainTables) (r : NameId) (x : Name) → IsNameAdded t u r x → TablesGrow t u
tables_grow_by_name t u r x a = record {
  has_name = has;
  same_name = same;
  has_type = λ n h. subst (λ (l : List Ty). n.0 < length l) (sym a.types) h;
  same_type = λ n h. ap (λ l. ty_at l n.0) a.types;
  has_term = λ n h. subst (λ (l : List Tm). n.0 < length l) (sym a.terms) h;
  same_term = λ n h. ap (λ l. tm_at l n.0) a.terms;
}
  where
    has : (n : NameId) → HasName t n → HasName u n
    has n h = by a.names
      where
        by : (u.names ≡ t.names) ⊎ (u.names ≡ t.names ++ x ∷ []) → HasName u n
        by (inl e) = subst (λ (l : List Name). n.0 < length l) (sym e) h
        by (inr e) = subst (λ (l : List Name). n.0 < length l) (sym e) (omega (arith, length-append t.names (x ∷ []), h))

    same : (n : NameId) → HasName t n → name_of u n ≡ name_of t n
    same n h = by a.names
      where
        by : (u.names ≡ t.names) ⊎ (u.names ≡ t.names ++ x ∷ []) → name_of u n ≡ name_of t n
        by (inl e) = ap (λ l. name_at l n.0) e
        by (inr e) = ap (λ l. name_at l n.0) e ∙ get_or-append t.names (x ∷ []) [] n.0 h
