-- The sequents of definitions, a step at a time.
use Rattle.std.proofs.Common.{◌≡◌, Result, Ok, Err, IfOk, OnErr, List, [], ◌∷◌, ◌++◌, codes, ap, sym, subst, ◌∙◌}
use Rattle.hol_terms.specs.Name.{Name}
use Rattle.hol_terms.specs.Ty.{Ty, ty_app, tys}
use Rattle.hol_terms.specs.Tm.{Tm, tm_comb, tm_const}
use Rattle.hol_terms.specs.Typing.{tm_type, fun_ty, range_ty, domain_ty}
use Rattle.hol_terms.specs.TyVars.{ty_vars, tm_ty_vars, own_const}
use Rattle.hol_terms.specs.Sequent.{seq, eq_tm}
use Rattle.hol_terms.specs.Definition.{bool_ty, type_def, new_type}
use Rattle.hol_terms.specs.Proves.{abs_rep, rep_abs}
use Rattle.flat_terms.specs.declared.nodes.NameId.{NameId}
use Rattle.flat_terms.specs.declared.nodes.TypeId.{TypeId}
use Rattle.flat_terms.specs.declared.nodes.TermId.{TermId}
use Rattle.flat_terms.specs.Plain.{PlainTables, HasName, HasTerm, name_of, type_of, types_of, term_of, IsTypeAdded, IsTermAdded}
use Rattle.flat_walks.specs.Number.{IsNumber}
use Rattle.flat_walks.proofs.Steps.{added_has, added_is}
use Rattle.flat_instances.specs.Types.{IsTypeNumber}
use Rattle.flat_instances.specs.TablesGrow.{TablesGrow}
use Rattle.flat_instances.proofs.Growth.{type_number_added}
use Rattle.flat_instances.proofs.TablesGrow.{tables_grow_further, tables_grow_same, tables_grow_by_term}
use Rattle.flat_rules.specs.declared.sequent.FlatSequent.{FlatSequent}
use Rattle.flat_rules.specs.declared.definitions.Bridge.{Bridge}
use Rattle.flat_rules.specs.Sequents.{HasTerms, terms_of, sequent_of, HasSequent}
use Rattle.flat_rules.specs.Said.{AreSaid}
use Rattle.flat_rules.specs.Bridges.{IsBridge, AreJoined, there_and_back, new_variable, old_variable}
use Rattle.flat_rules.proofs.Numbers.{number_later, number_moved}

pub round_sides : (s u w : PlainTables) (g f x there back : TermId) → HasTerm s g → HasTerm s x → IsTermAdded s u there (tm_comb (term_of s f) (term_of s x)) → IsTermAdded u w back (tm_comb (term_of u g) (term_of u there))
    → eq_tm (term_of w back) (term_of w x) ≡ there_and_back (term_of s g) (term_of s f) (term_of s x)
round_sides s u w g f x there back hg hx a b = λ j. eq_tm (whole j) (same j)
  where
    step : TablesGrow s u
    step = tables_grow_by_term s u there _ a

    all : TablesGrow s w
    all = tables_grow_further s u w step (tables_grow_by_term u w back _ b)

    whole : term_of w back ≡ tm_comb (term_of s g) (tm_comb (term_of s f) (term_of s x))
    whole = added_is u w back _ b ∙ (λ j. tm_comb (step.same_term g hg j) (added_is s u there _ a j))

    same : term_of w x ≡ term_of s x
    same = all.same_term x hx

-- both sides of the second equation of a type
pub record AreLastSides (s w : PlainTables) (b : Bridge) (p holds back : TermId) : Type 0 where
  pub left : term_of w holds ≡ tm_comb (term_of s p) (old_variable (type_of s b.old_type))
  pub right : term_of w back ≡ there_and_back (term_of s b.rep) (term_of s b.abs) (old_variable (type_of s b.old_type))

pub last_sides : (s t u w : PlainTables) (b : Bridge) (p r back holds : TermId) → AreJoined s b → HasTerm s p → TablesGrow s t → IsNumber t r (old_variable (type_of s b.old_type)) → TablesGrow t u
    → IsNumber u back (there_and_back (term_of t b.rep) (term_of t b.abs) (term_of t r)) → IsTermAdded u w holds (tm_comb (term_of u p) (term_of u r)) → AreLastSides s w b p holds back
last_sides s t u w b p r back holds joined hp g nr h nb a = record {
  left = added_is u w holds _ a ∙ (λ j. tm_comb ((h.same_term p (g.has_term p hp) ∙ g.same_term p hp) j) ((h.same_term r nr.has ∙ nr.tree) j));
  right = last.same_term back nb.has ∙ nb.tree ∙ (λ j. there_and_back (g.same_term b.rep joined.has_rep j) (g.same_term b.abs joined.has_abs j) (nr.tree j));
}
  where
    last : TablesGrow u w
    last = tables_grow_by_term u w holds _ a

pub last_typed : (s w : PlainTables) (b : Bridge) (p holds back : TermId) → AreLastSides s w b p holds back → tm_type (term_of s p) ≡ fun_ty (type_of s b.old_type) bool_ty → tm_type (term_of w back) ≡ tm_type (term_of w holds)
last_typed s w b p holds back l e = ap tm_type l.right ∙ sym (ap range_ty e) ∙ sym (ap tm_type l.left)

type_later : (s t : PlainTables) (r : TypeId) (x : Ty) → IsTypeNumber s r x → TablesGrow s t → IsTypeNumber t r x
type_later s t r x n g = record { has = g.has_type r n.has; tree = g.same_type r n.has ∙ n.tree }

pub bridge_made : (s t u w : PlainTables) (name : NameId) (p : Tm) (old new : TypeId) (abs rep : TermId) → HasName s name → IsTypeNumber s old (domain_ty (tm_type p)) → TablesGrow s t → IsTypeNumber t new (new_type (name_of s name) p) → TablesGrow t u
    → IsNumber u abs (own_const (name_of t name ++ codes ".abs") (fun_ty (type_of t old) (type_of t new))) → TablesGrow u w → IsNumber w rep (own_const (name_of u name ++ codes ".rep") (fun_ty (type_of u new) (type_of u old)))
    → IsBridge w (name_of s name) p (record { old_type = old; new_type = new; abs = abs; rep = rep })
bridge_made s t u w name p old new abs rep hn ho g nn h na k nr = record {
  old_type = type_later u w old _ old_u k;
  new_type = type_later u w new _ new_u k;
  abs = number_moved w abs _ _ (number_later u w abs _ na k) (λ j. own_const (g.same_name name hn j ++ codes ".abs") (fun_ty (old_t.tree j) (nn.tree j)));
  rep = number_moved w rep _ _ nr (λ j. own_const ((h.same_name name (g.has_name name hn) ∙ g.same_name name hn) j ++ codes ".rep") (fun_ty (new_u.tree j) (old_u.tree j)));
}
  where
    old_t : IsTypeNumber t old (domain_ty (tm_type p))
    old_t = type_later s t old _ ho g

    old_u : IsTypeNumber u old (domain_ty (tm_type p))
    old_u = type_later t u old _ old_t h

    new_u : IsTypeNumber u new (new_type (name_of s name) p)
    new_u = type_later t u new _ nn h

pub bridge_joined : (t : PlainTables) (n : Name) (p : Tm) (b : Bridge) → IsBridge t n p b → AreJoined t b
bridge_joined t n p b i = record {
  has_old = i.old_type.has;
  has_new = i.new_type.has;
  has_abs = i.abs.has;
  has_rep = i.rep.has;
  abs_typed = ap tm_type i.abs.tree ∙ (λ j. fun_ty (sym i.old_type.tree j) (sym i.new_type.tree j));
  rep_typed = ap tm_type i.rep.tree ∙ (λ j. fun_ty (sym i.new_type.tree j) (sym i.old_type.tree j));
}

pub joined_later : (s t : PlainTables) (b : Bridge) → AreJoined s b → TablesGrow s t → AreJoined t b
joined_later s t b i g = record {
  has_old = g.has_type b.old_type i.has_old;
  has_new = g.has_type b.new_type i.has_new;
  has_abs = g.has_term b.abs i.has_abs;
  has_rep = g.has_term b.rep i.has_rep;
  abs_typed = ap tm_type (g.same_term b.abs i.has_abs) ∙ i.abs_typed ∙ (λ j. fun_ty (sym (g.same_type b.old_type i.has_old) j) (sym (g.same_type b.new_type i.has_new) j));
  rep_typed = ap tm_type (g.same_term b.rep i.has_rep) ∙ i.rep_typed ∙ (λ j. fun_ty (sym (g.same_type b.new_type i.has_new) j) (sym (g.same_type b.old_type i.has_old) j));
}

-- a predicate's type, by the number of its domain
pub predicate_typed : (s t : PlainTables) (n : Name) (p : TermId) (b : Bridge) → HasTerm s p → TablesGrow s t → IsBridge t n (term_of s p) b → tm_type (term_of s p) ≡ fun_ty (domain_ty (tm_type (term_of s p))) bool_ty
    → (u : PlainTables) → TablesGrow t u → tm_type (term_of u p) ≡ fun_ty (type_of u b.old_type) bool_ty
predicate_typed s t n p b hp g i e u h =
    ap tm_type (h.same_term p (g.has_term p hp) ∙ g.same_term p hp) ∙ e ∙ ap (λ d. fun_ty d bool_ty) (sym (h.same_type b.old_type i.old_type.has ∙ i.old_type.tree))

pub type_said : (s t u w : PlainTables) (n : Name) (p first last : TermId) (b : Bridge) (q r : FlatSequent) → HasTerm s p → TablesGrow s t → IsBridge t n (term_of s p) b → TablesGrow t u
    → IsNumber u first (there_and_back (term_of t b.abs) (term_of t b.rep) (new_variable (type_of t b.new_type))) → TablesGrow u w
    → IsNumber w last (eq_tm (tm_comb (term_of u p) (old_variable (type_of u b.old_type))) (there_and_back (term_of u b.rep) (term_of u b.abs) (old_variable (type_of u b.old_type))))
    → q.hyps.items ≡ [] → q.concl ≡ first → r.hyps.items ≡ [] → r.concl ≡ last → AreSaid w (type_def n (term_of s p)) (q ∷ r ∷ [])
type_said s t u w n p first last b q r hp g i h nf k nl eq cq er cr =
    record { has = (has q first eq cq (k.has_term first nf.has), (has r last er cr nl.has, tt)); said = λ j. said q first (abs_rep n (term_of s p)) eq cq (k.same_term first nf.has ∙ nf.tree ∙ one) j ∷ said r last (rep_abs n (term_of s p)) er cr (nl.tree ∙ two) j ∷ [] }
  where
    has : (q : FlatSequent) (c : TermId) → q.hyps.items ≡ [] → q.concl ≡ c → HasTerm w c → HasSequent w q
    has q c e d m = record { hyps = subst (λ (l : List TermId). HasTerms w l) (sym e) tt; concl = subst (λ (x : TermId). HasTerm w x) (sym d) m }

    said : (q : FlatSequent) (c : TermId) (x : Tm) → q.hyps.items ≡ [] → q.concl ≡ c → term_of w c ≡ x → sequent_of w q ≡ seq [] x
    said q c x e d m = λ j. seq (terms_of w (e j)) ((ap (term_of w) d ∙ m) j)

    one : there_and_back (term_of t b.abs) (term_of t b.rep) (new_variable (type_of t b.new_type)) ≡ abs_rep n (term_of s p)
    one = λ j. there_and_back (i.abs.tree j) (i.rep.tree j) (new_variable (i.new_type.tree j))

    two : eq_tm (tm_comb (term_of u p) (old_variable (type_of u b.old_type))) (there_and_back (term_of u b.rep) (term_of u b.abs) (old_variable (type_of u b.old_type))) ≡ rep_abs n (term_of s p)
    two = λ j. let r = old_variable ((h.same_type b.old_type i.old_type.has ∙ i.old_type.tree) j) in
        eq_tm (tm_comb ((h.same_term p (g.has_term p hp) ∙ g.same_term p hp) j) r) (there_and_back ((h.same_term b.rep i.rep.has ∙ i.rep.tree) j) ((h.same_term b.abs i.abs.has ∙ i.abs.tree) j) r)

-- ---- an entry over the type variables that were collected

pub grows_by_term : {E : Type 0} (t u : PlainTables) (x : Tm) (r : Result TermId E) → IfOk r (λ n. IsTermAdded t u n x) → OnErr r (u ≡ t) → TablesGrow t u
grows_by_term t u x (Ok n) a e = tables_grow_by_term t u n x a
grows_by_term t u x (Err d) a e = tables_grow_same t u e

-- a constant at the variables of its type
pub own_number : {E : Type 0} (t u : PlainTables) (c : NameId) (ty : TypeId) (args : List TypeId) (r : Result TermId E) → types_of t args ≡ ty_vars (type_of t ty) [] → IfOk r (λ n. IsTermAdded t u n (tm_const (name_of t c) (types_of t args) (type_of t ty)))
    → IfOk r (λ n. IsNumber u n (own_const (name_of t c) (type_of t ty)))
own_number t u c ty args (Ok n) e a = record { has = added_has t u n _ a; tree = added_is t u n _ a ∙ ap (λ vs. tm_const (name_of t c) vs (type_of t ty)) e }
own_number t u c ty args (Err d) e a = tt

-- a new type at the variables of its predicate
pub new_number : {E : Type 0} (t u : PlainTables) (c : NameId) (p : Tm) (args : List TypeId) (r : Result TypeId E) → types_of t args ≡ tm_ty_vars p [] → IfOk r (λ n. IsTypeAdded t u n (ty_app (name_of t c) (tys (types_of t args))))
    → IfOk r (λ n. IsTypeNumber u n (new_type (name_of t c) p))
new_number t u c p args (Ok n) e a = let made = type_number_added t u n (ty_app (name_of t c) (tys (types_of t args))) a in record { has = made.has; tree = made.tree ∙ ap (λ vs. ty_app (name_of t c) (tys vs)) e }
new_number t u c p args (Err d) e a = tt
