-- What the rules give of sequents of a known form, and answers that stand for it.
use Rattle.std.proofs.Common.{◌≡◌, Bool, true, false, List, [], ◌∷◌, length, ◌==◌, map, Option, Some, None, is_some, not, refl, ap, sym, subst, ◌∙◌, true≢false}
use Rattle.hol_terms.specs.Tm.{Tm, FreeVar, tm_comb, tm_abs}
use Rattle.hol_terms.specs.Typing.{tm_type, fun_ty, range_ty}
use Rattle.hol_terms.specs.Takes.{Takes}
use Rattle.hol_terms.specs.Loose.{HasAt}
use Rattle.hol_terms.specs.Signature.{IsOver}
use Rattle.hol_terms.specs.Subst.{TySubst}
use Rattle.hol_terms.specs.Binding.{VarSubst, tm_inst, tm_ty_subst}
use Rattle.hol_terms.specs.Sequent.{Sequent, seq, eq_tm, union}
use Rattle.hol_terms.specs.Rules.{same_ty, fits, if_so, both, is_equation, free_in_none, lambda, some_pair, are_distinct_types, are_distinct_vars, keeps_types, trans_rule, comb_rule, abs_rule, eq_mp_rule, inst_type_rule, inst_rule}
use Rattle.hol_terms.proofs.Same.{same_refl, same_ty-from}
use Rattle.hol_terms.proofs.Bound.{IsOver-HasAt}
use Rattle.flat_terms.specs.declared.nodes.NameId.{NameId}
use Rattle.flat_terms.specs.declared.nodes.TypeId.{TypeId}
use Rattle.flat_terms.specs.declared.nodes.TermId.{TermId}
use Rattle.flat_terms.specs.Plain.{PlainTables, HasTerm, type_of, term_of, IsTermAdded}
use Rattle.flat_walks.specs.Walk.{var_of}
use Rattle.flat_walks.specs.Number.{IsNumber}
use Rattle.flat_walks.proofs.Memo.{number_added}
use Rattle.flat_walks.proofs.Opening.{takes_kept}
use Rattle.flat_instances.specs.Types.{type_pairs}
use Rattle.flat_instances.specs.Terms.{HasTermPairs, term_pairs}
use Rattle.flat_instances.specs.TablesGrow.{TablesGrow}
use Rattle.flat_instances.proofs.TablesGrow.{tables_grow_by_term}
use Rattle.flat_rules.specs.declared.sequent.FlatSequent.{FlatSequent}
use Rattle.flat_rules.specs.declared.rules.Redex.{Redex}
use Rattle.flat_rules.specs.Sequents.{HasTerms, terms_of, AreNumbers, sequent_of, HasSequent, HasVariablePairs, IsWellTyped}
use Rattle.flat_rules.specs.Equations.{IsRange}
use Rattle.flat_rules.specs.Redexes.{AreRedexParts}
use Rattle.flat_rules.proofs.Numbers.{has_later, terms_later, number_later, number_moved}
use Rattle.flat_rules.proofs.Placing.{same_no, same_yes}
use Rattle.flat_rules.proofs.PairSteps.{same_ty_yes, same_ty_no}

-- an answer of hypotheses made in smaller tables, and of a conclusion made in larger ones
pub answered : (t u : PlainTables) (q : FlatSequent) (given : Option Sequent) (hs : List Tm) (p : Tm) → TablesGrow t u → AreNumbers t q.hyps.items hs → IsNumber u q.concl p → given ≡ Some (seq hs p) → HasSequent u q × (given ≡ Some (sequent_of u q))
answered t u q given hs p g a n e = (record { hyps = has_later t u q.hyps.items g a.has; concl = n.has }, e ∙ (λ j. Some (seq (sym (terms_later t u q.hyps.items g a.has ∙ a.trees) j) (sym n.tree j))))

pub united : (t : PlainTables) (xs ys cs ds ns : List TermId) → xs ≡ cs → ys ≡ ds → AreNumbers t ns (union (terms_of t xs) (terms_of t ys)) → AreNumbers t ns (union (terms_of t cs) (terms_of t ds))
united t xs ys cs ds ns e f a = record { has = a.has; trees = a.trees ∙ (λ j. union (terms_of t (e j)) (terms_of t (f j))) }

pub copied_numbers : (t : PlainTables) (ns ms : List TermId) → HasTerms t ms → ns ≡ ms → AreNumbers t ns (terms_of t ms)
copied_numbers t ns ms h e = record { has = subst (λ (l : List TermId). HasTerms t l) (sym e) h; trees = ap (terms_of t) e }

is_sides : (s t : Tm) → is_equation (eq_tm s t) ≡ true
is_sides s t = same_refl (eq_tm s t)

module _ (hs ks : List Tm) (p q s m o r : Tm) (ep : p ≡ eq_tm s m) (eq : q ≡ eq_tm o r) where
  pub trans_gives : m ≡ o → trans_rule (seq hs p) (seq ks q) ≡ Some (seq (union hs ks) (eq_tm s r))
  trans_gives e = (λ j. trans_rule (seq hs (ep j)) (seq ks (eq j))) ∙ (λ j. if_so (both (is_sides s m j) (both (is_sides o r j) (same_yes m o e j))) (seq (union hs ks) (eq_tm s r)))

  pub trans_refuses : (m ≡ o → ⊥) → trans_rule (seq hs p) (seq ks q) ≡ None
  trans_refuses n = (λ j. trans_rule (seq hs (ep j)) (seq ks (eq j))) ∙ (λ j. if_so (both (is_sides s m j) (both (is_sides o r j) (same_no m o n j))) (seq (union hs ks) (eq_tm s r)))

  pub comb_gives : fits s o ≡ true → comb_rule (seq hs p) (seq ks q) ≡ Some (seq (union hs ks) (eq_tm (tm_comb s o) (tm_comb m r)))
  comb_gives e = (λ j. comb_rule (seq hs (ep j)) (seq ks (eq j))) ∙ (λ j. if_so (both (is_sides s m j) (both (is_sides o r j) (e j))) (seq (union hs ks) (eq_tm (tm_comb s o) (tm_comb m r))))

  pub comb_refuses : fits s o ≡ false → comb_rule (seq hs p) (seq ks q) ≡ None
  comb_refuses e = (λ j. comb_rule (seq hs (ep j)) (seq ks (eq j))) ∙ (λ j. if_so (both (is_sides s m j) (both (is_sides o r j) (e j))) (seq (union hs ks) (eq_tm (tm_comb s o) (tm_comb m r))))

pub abs_gives : (v : FreeVar) (hs : List Tm) (p s t : Tm) → p ≡ eq_tm s t → free_in_none v hs ≡ true → abs_rule v (seq hs p) ≡ Some (seq hs (eq_tm (lambda v s) (lambda v t)))
abs_gives v hs p s t e f = (λ j. abs_rule v (seq hs (e j))) ∙ (λ j. if_so (both (is_sides s t j) (f j)) (seq hs (eq_tm (lambda v s) (lambda v t))))

pub eq_mp_gives : (hs ks : List Tm) (p q s t : Tm) → p ≡ eq_tm s t → s ≡ q → eq_mp_rule (seq hs p) (seq ks q) ≡ Some (seq (union hs ks) t)
eq_mp_gives hs ks p q s t e f = (λ j. eq_mp_rule (seq hs (e j)) (seq ks q)) ∙ (λ j. if_so (both (is_sides s t j) (same_yes s q f j)) (seq (union hs ks) t))

pub eq_mp_refuses : (hs ks : List Tm) (p q s t : Tm) → p ≡ eq_tm s t → (s ≡ q → ⊥) → eq_mp_rule (seq hs p) (seq ks q) ≡ None
eq_mp_refuses hs ks p q s t e n = (λ j. eq_mp_rule (seq hs (e j)) (seq ks q)) ∙ (λ j. if_so (both (is_sides s t j) (same_no s q n j)) (seq (union hs ks) t))

pub inst_type_gives : (s : TySubst) (a : Sequent) → some_pair s ≡ true → are_distinct_types s ≡ true → inst_type_rule s a ≡ Some (seq (union (map (tm_ty_subst s) a.hyps) []) (tm_ty_subst s a.concl))
inst_type_gives s a e f = λ j. if_so (both (e j) (f j)) (seq (union (map (tm_ty_subst s) a.hyps) []) (tm_ty_subst s a.concl))

pub inst_gives : (s : VarSubst) (a : Sequent) → some_pair s ≡ true → are_distinct_vars s ≡ true → keeps_types s ≡ true → inst_rule s a ≡ Some (seq (union (map (tm_inst s) a.hyps) []) (tm_inst s a.concl))
inst_gives s a e f k = λ j. if_so (both (e j) (both (f j) (k j))) (seq (union (map (tm_inst s) a.hyps) []) (tm_inst s a.concl))

-- whether a function takes an argument, by a reading of the function's type
pub fits_not : (t : PlainTables) (f x : Tm) (y a : TypeId) (r : Option TypeId) (b : Bool) → IsRange t (type_of t y) (type_of t a) r → type_of t y ≡ tm_type f → type_of t a ≡ tm_type x → is_some r ≡ not b → b ≡ true → fits f x ≡ false
fits_not t f x y a None w h e k i n = same_ty_no (tm_type f) (fun_ty (tm_type x) (range_ty (tm_type f))) (λ i. h (range_ty (tm_type f)) (e ∙ i ∙ ap (λ d. fun_ty d (range_ty (tm_type f))) (sym k)))
fits_not t f x y a (Some b) w h e k i n = absurd (true≢false (i ∙ ap not n))

pub takes_so : (t : PlainTables) (f x : Tm) (y a : TypeId) (r : Option TypeId) (b : Bool) → IsRange t (type_of t y) (type_of t a) r → type_of t y ≡ tm_type f → type_of t a ≡ tm_type x → is_some r ≡ not b → b ≡ false → Takes f x
takes_so t f x y a None w h e k i n = absurd (true≢false (sym (i ∙ ap not n)))
takes_so t f x y a (Some b) w h e k i n =
    let typed : tm_type f ≡ fun_ty (tm_type x) (type_of t b) = sym e ∙ h.1 ∙ ap (λ d. fun_ty d (type_of t b)) k in
    typed ∙ ap (λ d. fun_ty (tm_type x) d) (sym (ap range_ty typed))

pub fits_so : (f x : Tm) → Takes f x → fits f x ≡ true
fits_so f x e = same_ty-from (tm_type f) (fun_ty (tm_type x) (range_ty (tm_type f))) e

-- an application of an abstraction to a variable
pub redex_openable : (t : PlainTables) (p : Tm) (r : Redex) → AreRedexParts t p r → IsWellTyped p → HasAt 0 (var_of (term_of t r.variable)).ty (term_of t r.body)
redex_openable t p r a w = IsOver-HasAt w.0 [] (var_of (term_of t r.variable)).ty (term_of t r.body) (over.0).1
  where
    tree : p ≡ tm_comb (tm_abs (var_of (term_of t r.variable)).ty (term_of t r.body)) (term_of t r.variable)
    tree = a.tree ∙ ap (λ f. tm_comb f (term_of t r.variable)) a.abstraction

    over : IsOver w.0 [] (tm_comb (tm_abs (var_of (term_of t r.variable)).ty (term_of t r.body)) (term_of t r.variable))
    over = subst (λ (x : Tm). IsOver w.0 [] x) tree w.1

pub redex_typed : (t : PlainTables) (p : Tm) (r : Redex) → AreRedexParts t p r → tm_type p ≡ tm_type (term_of t r.body)
redex_typed t p r a = ap tm_type a.tree ∙ ap (λ f. range_ty (tm_type f)) a.abstraction

pub numbered : (t : PlainTables) (r : TermId) → HasTerm t r → IsNumber t r (term_of t r)
numbered t r h = record { has = h; tree = refl }

-- both applications, added one after the other
pub others_take : (s u : PlainTables) (f g x y : TermId) → HasTerm s g → HasTerm s y → TablesGrow s u → Takes (term_of s f) (term_of s x) → tm_type (term_of s g) ≡ tm_type (term_of s f) → tm_type (term_of s y) ≡ tm_type (term_of s x)
    → Takes (term_of u g) (term_of u y)
others_take s u f g x y hg hy h k eg ey = takes_kept (term_of s f) (term_of s x) (term_of u g) (term_of u y) (ap tm_type (h.same_term g hg) ∙ eg) (ap tm_type (h.same_term y hy) ∙ ey) k

pub applied : (s u w : PlainTables) (f g x y l r : TermId) → HasTerm s g → HasTerm s y → IsTermAdded s u l (tm_comb (term_of s f) (term_of s x)) → IsTermAdded u w r (tm_comb (term_of u g) (term_of u y))
    → IsNumber w l (tm_comb (term_of s f) (term_of s x)) × IsNumber w r (tm_comb (term_of s g) (term_of s y))
applied s u w f g x y l r hg hy a b =
    let step = tables_grow_by_term s u l (tm_comb (term_of s f) (term_of s x)) a in (
      number_later u w l (tm_comb (term_of s f) (term_of s x)) (number_added s u l (tm_comb (term_of s f) (term_of s x)) a) (tables_grow_by_term u w r (tm_comb (term_of u g) (term_of u y)) b),
      number_moved w r (tm_comb (term_of u g) (term_of u y)) (tm_comb (term_of s g) (term_of s y)) (number_added u w r (tm_comb (term_of u g) (term_of u y)) b) (λ j. tm_comb (step.same_term g hg j) (step.same_term y hy j)),
    )

-- pairs that pass the tests
both_true : (a b : Bool) → both a b ≡ true → (a ≡ true) × (b ≡ true)
both_true true b e = (refl, e)
both_true false b e = absurd (true≢false (sym e))

pub typed_pairs : (t : PlainTables) (ps : List (TermId × TermId)) → HasVariablePairs t ps → keeps_types (term_pairs t ps) ≡ true → HasTermPairs t ps
typed_pairs t [] h e = tt
typed_pairs t (p ∷ ps) h e =
    let parts = both_true (same_ty (tm_type (term_of t p.1)) (var_of (term_of t p.0)).ty) (keeps_types (term_pairs t ps)) e in
    (h.0, h.1, same_ty_yes (tm_type (term_of t p.1)) (var_of (term_of t p.0)).ty parts.0, typed_pairs t ps h.2 parts.1)

pub some_terms : (t : PlainTables) (ps : List (TermId × TermId)) → (length ps == 0) ≡ false → some_pair (term_pairs t ps) ≡ true
some_terms t [] e = absurd (true≢false e)
some_terms t (p ∷ ps) e = refl

pub some_types : (t : PlainTables) (ps : List (NameId × TypeId)) → (length ps == 0) ≡ false → some_pair (type_pairs t ps) ≡ true
some_types t [] e = absurd (true≢false e)
some_types t (p ∷ ps) e = refl

-- a list that was made before, united with nothing
pub united_alone : (t u : PlainTables) (ms xs ns : List TermId) (hs : List Tm) → AreNumbers t ms hs → TablesGrow t u → xs ≡ ms → AreNumbers u ns (union (terms_of u xs) []) → AreNumbers u ns (union hs [])
united_alone t u ms xs ns hs m g e a = record { has = a.has; trees = a.trees ∙ ap (λ l. union l []) (ap (terms_of u) e ∙ terms_later t u ms g m.has ∙ m.trees) }

pub made_before : (t u : PlainTables) (ms xs : List TermId) (hs : List Tm) → AreNumbers t ms hs → TablesGrow t u → xs ≡ ms → HasTerms u xs
made_before t u ms xs hs m g e = subst (λ (l : List TermId). HasTerms u l) (sym e) (has_later t u ms g m.has)
