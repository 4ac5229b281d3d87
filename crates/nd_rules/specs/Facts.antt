-- What the rules keep: closed theorems over variables, in the order of proving.
use Rattle.std.specs.Prelude.{ℕ, List, [], ◌∷◌, codes, get_or}
use Rattle.hol_terms.specs.Tm.{Tm, tm_free}
use Rattle.hol_terms.specs.Notation.{◌⇒◌, ◌·◌, ix, lam}
use Rattle.hol_terms.specs.Definition.{bool_ty, alpha}
use Rattle.hol_terms.specs.Sequent.{Sequent, seq, eq_tm}
use Rattle.hol_terms.specs.Logic.{const_T, const_F, const_not, const_conj, const_disj, const_imp, const_all, const_ex}

abbrev p : Tm
p = tm_free (record { name = codes "p"; ty = bool_ty })

abbrev q : Tm
q = tm_free (record { name = codes "q"; ty = bool_ty })

abbrev r : Tm
r = tm_free (record { name = codes "r"; ty = bool_ty })

abbrev x : Tm
x = tm_free (record { name = codes "x"; ty = alpha })

abbrev y : Tm
y = tm_free (record { name = codes "y"; ty = alpha })

abbrev f : Tm
f = tm_free (record { name = codes "f"; ty = alpha ⇒ bool_ty })

-- `!x. f x ==> t`
abbrev each_implies : Tm → Tm
each_implies t = const_all alpha · lam alpha (const_imp · (f · ix 0 alpha) · t)

-- `|- T`
unfoldable pub truth_holds_fact : Sequent
truth_holds_fact = seq [] const_T

-- `|- (x = y) = (y = x)`
unfoldable pub symmetry_fact : Sequent
symmetry_fact = seq [] (eq_tm (eq_tm x y) (eq_tm y x))

-- `|- p = (p = T)`
unfoldable pub is_true_fact : Sequent
is_true_fact = seq [] (eq_tm p (eq_tm p const_T))

-- `|- (p = T) = p`
unfoldable pub true_is_fact : Sequent
true_is_fact = seq [] (eq_tm (eq_tm p const_T) p)

-- `|- (p /\ q) = ((\f. f p q) = (\f. f T T))`
unfoldable pub conj_means_fact : Sequent
conj_means_fact = seq [] (eq_tm (const_conj · p · q) (eq_tm (lam (bool_ty ⇒ bool_ty ⇒ bool_ty) (ix 0 (bool_ty ⇒ bool_ty ⇒ bool_ty) · p · q)) (lam (bool_ty ⇒ bool_ty ⇒ bool_ty) (ix 0 (bool_ty ⇒ bool_ty ⇒ bool_ty) · const_T · const_T))))

-- `p /\ q |- p`
unfoldable pub conj_first_fact : Sequent
conj_first_fact = seq ((const_conj · p · q) ∷ []) p

-- `p /\ q |- q`
unfoldable pub conj_second_fact : Sequent
conj_second_fact = seq ((const_conj · p · q) ∷ []) q

-- `p |- q = (p /\ q)`
unfoldable pub conj_with_fact : Sequent
conj_with_fact = seq (p ∷ []) (eq_tm q (const_conj · p · q))

-- `|- (p ==> q) = (p = (p /\ q))`
unfoldable pub imp_means_fact : Sequent
imp_means_fact = seq [] (eq_tm (const_imp · p · q) (eq_tm p (const_conj · p · q)))

-- `|- (p = (p /\ q)) = (p ==> q)`
unfoldable pub means_imp_fact : Sequent
means_imp_fact = seq [] (eq_tm (eq_tm p (const_conj · p · q)) (const_imp · p · q))

-- `p |- (p ==> q) = q`
unfoldable pub imp_applied_fact : Sequent
imp_applied_fact = seq (p ∷ []) (eq_tm (const_imp · p · q) q)

-- `|- (~ p) = (p ==> F)`
unfoldable pub not_means_fact : Sequent
not_means_fact = seq [] (eq_tm (const_not · p) (const_imp · p · const_F))

-- `|- (p ==> F) = (~ p)`
unfoldable pub means_not_fact : Sequent
means_not_fact = seq [] (eq_tm (const_imp · p · const_F) (const_not · p))

-- `|- (!) f = (f = (\x. T))`
unfoldable pub all_means_fact : Sequent
all_means_fact = seq [] (eq_tm (const_all alpha · f) (eq_tm f (lam alpha const_T)))

-- `|- (f = (\x. T)) = (!) f`
unfoldable pub all_fold_fact : Sequent
all_fold_fact = seq [] (eq_tm (eq_tm f (lam alpha const_T)) (const_all alpha · f))

-- `(!) f |- f x`
unfoldable pub all_applied_fact : Sequent
all_applied_fact = seq ((const_all alpha · f) ∷ []) (f · x)

-- `|- (p \/ q) = (!r. (p ==> r) ==> ((q ==> r) ==> r))`
unfoldable pub disj_means_fact : Sequent
disj_means_fact = seq [] (eq_tm (const_disj · p · q) (const_all bool_ty · lam bool_ty (const_imp · (const_imp · p · ix 0 bool_ty) · (const_imp · (const_imp · q · ix 0 bool_ty) · ix 0 bool_ty))))

-- `p |- p \/ q`
unfoldable pub disj_first_fact : Sequent
disj_first_fact = seq (p ∷ []) (const_disj · p · q)

-- `q |- p \/ q`
unfoldable pub disj_second_fact : Sequent
disj_second_fact = seq (q ∷ []) (const_disj · p · q)

-- `(p /\ r) \/ (q /\ r) |- r`
unfoldable pub cases_fact : Sequent
cases_fact = seq ((const_disj · (const_conj · p · r) · (const_conj · q · r)) ∷ []) r

-- `|- (?) f = (!q. (!x. f x ==> q) ==> q)`
unfoldable pub ex_means_fact : Sequent
ex_means_fact = seq [] (eq_tm (const_ex alpha · f) (const_all bool_ty · lam bool_ty (const_imp · each_implies (ix 1 bool_ty) · ix 0 bool_ty)))

-- `f x |- (?) f`
unfoldable pub ex_shown_fact : Sequent
ex_shown_fact = seq ((f · x) ∷ []) (const_ex alpha · f)

-- `(?) f |- (!x. f x ==> q) = q`
unfoldable pub ex_applied_fact : Sequent
ex_applied_fact = seq ((const_ex alpha · f) ∷ []) (eq_tm (each_implies q) q)

-- all of them
abbrev pub kept_facts : List Sequent
kept_facts =
    truth_holds_fact
    ∷ symmetry_fact
    ∷ is_true_fact
    ∷ true_is_fact
    ∷ conj_means_fact
    ∷ conj_first_fact
    ∷ conj_second_fact
    ∷ conj_with_fact
    ∷ imp_means_fact
    ∷ means_imp_fact
    ∷ imp_applied_fact
    ∷ not_means_fact
    ∷ means_not_fact
    ∷ all_means_fact
    ∷ all_fold_fact
    ∷ all_applied_fact
    ∷ disj_means_fact
    ∷ disj_first_fact
    ∷ disj_second_fact
    ∷ cases_fact
    ∷ ex_means_fact
    ∷ ex_shown_fact
    ∷ ex_applied_fact
    ∷ []

abbrev pub fact_at : ℕ → Sequent
fact_at place = get_or kept_facts place truth_holds_fact
