-- A walk that collects a term's type variables passes by the terms of which all were seen.
use Rattle.std.proofs.Common.{◌≡◌, inl, inr, ℕ, Bool, true, false, ◌||◌, if◌then◌else◌, List, [], ◌∷◌, ◌++◌, nat_eq, refl, ap, sym, subst, ◌∙◌, true≢false}
use Rattle.std.specs.List.{list_any}
use Rattle.std.proofs.lemmas.Bool.{eqb-true}
use Rattle.hol_terms.specs.Ty.{Ty, tys}
use Rattle.hol_terms.specs.Tm.{Tm, tm_index, tm_free, tm_const, tm_comb, tm_abs}
use Rattle.hol_terms.specs.TyVars.{ty_vars, tys_vars, tm_ty_vars}
use Rattle.flat_terms.specs.declared.nodes.TermId.{TermId}
use Rattle.flat_terms.specs.Plain.{PlainTables, term_of}
use Rattle.flat_walks.specs.Lacks.{IsAdded}
use Rattle.flat_signatures.proofs.Walks.{Gains, vars_gain, all_vars_gain, seen_later, all_seen_later, seen_then, all_seen_then, seen_stay, all_seen_stay}
use Rattle.flat_rules.specs.WalkedTerms.{IsTermSeen, AllTermsWalked}

pub term_gains : (x : Tm) (s : List Ty) → Gains s (tm_ty_vars x s)
term_gains (tm_index i t) s v h = h
term_gains (tm_free w) s v h = vars_gain w.ty s v h
term_gains (tm_const c ts t) s v h = all_vars_gain (tys ts) s v h
term_gains (tm_comb f x) s v h = term_gains x (tm_ty_vars f s) v (term_gains f s v h)
term_gains (tm_abs t b) s v h = term_gains b (ty_vars t s) v (vars_gain t s v h)

pub term_seen_later : (x : Tm) (s u : List Ty) → Gains s u → IsTermSeen s x → IsTermSeen u x
term_seen_later (tm_index i t) s u g h = tt
term_seen_later (tm_free w) s u g h = seen_later w.ty s u g h
term_seen_later (tm_const c ts t) s u g h = all_seen_later (tys ts) s u g h
term_seen_later (tm_comb f x) s u g h = (term_seen_later f s u g h.0, term_seen_later x s u g h.1)
term_seen_later (tm_abs t b) s u g h = (seen_later t s u g h.0, term_seen_later b s u g h.1)

pub term_seen_then : (x : Tm) (s : List Ty) → IsTermSeen (tm_ty_vars x s) x
term_seen_then (tm_index i t) s = tt
term_seen_then (tm_free w) s = seen_then w.ty s
term_seen_then (tm_const c ts t) s = all_seen_then (tys ts) s
term_seen_then (tm_comb f x) s = (term_seen_later f (tm_ty_vars f s) (tm_ty_vars x (tm_ty_vars f s)) (term_gains x (tm_ty_vars f s)) (term_seen_then f s), term_seen_then x (tm_ty_vars f s))
term_seen_then (tm_abs t b) s = (seen_later t (ty_vars t s) (tm_ty_vars b (ty_vars t s)) (term_gains b (ty_vars t s)) (seen_then t s), term_seen_then b (ty_vars t s))

pub term_seen_stay : (x : Tm) (s : List Ty) → IsTermSeen s x → tm_ty_vars x s ≡ s
term_seen_stay (tm_index i t) s h = refl
term_seen_stay (tm_free w) s h = seen_stay w.ty s h
term_seen_stay (tm_const c ts t) s h = all_seen_stay (tys ts) s h
term_seen_stay (tm_comb f x) s h = ap (tm_ty_vars x) (term_seen_stay f s h.0) ∙ term_seen_stay x s h.1
term_seen_stay (tm_abs t b) s h = ap (tm_ty_vars b) (seen_stay t s h.0) ∙ term_seen_stay b s h.1

-- ---- the terms that were walked

pub terms_walked_later : (t : PlainTables) (s u : List Ty) (ns : List TermId) → Gains s u → AllTermsWalked t s ns → AllTermsWalked t u ns
terms_walked_later t s u [] g h = tt
terms_walked_later t s u (n ∷ ns) g h = (term_seen_later (term_of t n) s u g h.0, terms_walked_later t s u ns g h.1)

-- after the variables of a type, and of several
pub terms_walked_type : (t : PlainTables) (s u : List Ty) (x : Ty) (ns : List TermId) → u ≡ ty_vars x s → AllTermsWalked t s ns → AllTermsWalked t u ns
terms_walked_type t s u x ns e h = subst (λ (w : List Ty). AllTermsWalked t w ns) (sym e) (terms_walked_later t s (ty_vars x s) ns (vars_gain x s) h)

pub terms_walked_types : (t : PlainTables) (s u : List Ty) (xs : List Ty) (ns : List TermId) → u ≡ tys_vars (tys xs) s → AllTermsWalked t s ns → AllTermsWalked t u ns
terms_walked_types t s u xs ns e h = subst (λ (w : List Ty). AllTermsWalked t w ns) (sym e) (terms_walked_later t s (tys_vars (tys xs) s) ns (all_vars_gain (tys xs) s) h)

pub listed_term_seen : (t : PlainTables) (s : List Ty) (ns : List TermId) (n : TermId) → AllTermsWalked t s ns → list_any (λ m. nat_eq n.0 m.0) ns ≡ true → IsTermSeen s (term_of t n)
listed_term_seen t s [] n l e = absurd (true≢false (sym e))
listed_term_seen t s (m ∷ ns) n l e = at (nat_eq n.0 m.0) refl (listed_term_seen t s ns n l.1) e
  where
    at : (b : Bool) → nat_eq n.0 m.0 ≡ b → (list_any (λ k. nat_eq n.0 k.0) ns ≡ true → IsTermSeen s (term_of t n)) → (b || list_any (λ k. nat_eq n.0 k.0) ns) ≡ true → IsTermSeen s (term_of t n)
    at true same later h = subst (λ (k : ℕ). IsTermSeen s (term_of t (record { 0 = k }))) (sym (eqb-true n.0 m.0 same)) l.0
    at false same later h = later h

push_terms_walked : (t : PlainTables) (s : List Ty) (ns : List TermId) (n : TermId) → AllTermsWalked t s ns → IsTermSeen s (term_of t n) → AllTermsWalked t s (ns ++ n ∷ [])
push_terms_walked t s [] n l e = (e, tt)
push_terms_walked t s (m ∷ ns) n l e = (l.0, push_terms_walked t s ns n l.1 e)

pub added_term_walked : (t : PlainTables) (s : List Ty) (old new : List TermId) (n : TermId) → AllTermsWalked t s old → IsTermSeen s (term_of t n) → IsAdded old new n → AllTermsWalked t s new
added_term_walked t s old new n l e (inl q) = subst (λ (ns : List TermId). AllTermsWalked t s ns) (sym q) l
added_term_walked t s old new n l e (inr q) = subst (λ (ns : List TermId). AllTermsWalked t s ns) (sym q) (at (list_any (λ m. nat_eq n.0 m.0) old))
  where
    at : (b : Bool) → AllTermsWalked t s (if b then old else old ++ n ∷ [])
    at true = l
    at false = push_terms_walked t s old n l e

-- a term whose parts were walked
walked_term_seen : (s u : List Ty) (x y : Tm) → x ≡ y → u ≡ tm_ty_vars y s → IsTermSeen u x
walked_term_seen s u x y e w = subst (λ (z : Tm). IsTermSeen u z) (sym e) (subst (λ (z : List Ty). IsTermSeen z y) (sym w) (term_seen_then y s))

pub walked_comb : (s u w : List Ty) (n f x : Tm) → n ≡ tm_comb f x → u ≡ tm_ty_vars f s → w ≡ tm_ty_vars x u → IsTermSeen w n
walked_comb s u w n f x e p q = walked_term_seen s w n (tm_comb f x) e (q ∙ ap (tm_ty_vars x) p)

pub walked_abs : (s u w : List Ty) (n : Tm) (t : Ty) (b : Tm) → n ≡ tm_abs t b → u ≡ ty_vars t s → w ≡ tm_ty_vars b u → IsTermSeen w n
walked_abs s u w n t b e p q = walked_term_seen s w n (tm_abs t b) e (q ∙ ap (tm_ty_vars b) p)
