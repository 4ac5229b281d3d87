-- Terms that are known to lack a free variable.
use Rattle.std.proofs.Common.{◌≡◌, inl, inr, ℕ, Bool, true, false, ◌||◌, if◌then◌else◌, List, [], ◌∷◌, ◌++◌, nat_eq, refl, ap, sym, subst, ◌∙◌, true≢false}
use Rattle.std.specs.List.{list_any}
use Rattle.std.proofs.lemmas.Bool.{eqb-true}
use Rattle.hol_terms.specs.Tm.{Tm, FreeVar, tm_free, tm_comb, tm_abs}
use Rattle.hol_terms.specs.Ty.{Ty}
use Rattle.hol_terms.specs.Binding.{has_free, var_eq}
use Rattle.hol_terms.proofs.Order.{var_eq-same}
use Rattle.hol_terms.proofs.Opened.{var_self}
use Rattle.flat_terms.specs.declared.nodes.TermId.{TermId}
use Rattle.flat_terms.specs.Plain.{PlainTables, term_of}
use Rattle.flat_walks.specs.Walk.{var_of, IsVariable}
use Rattle.flat_walks.specs.Lacks.{LackAll, IsAdded}

-- a listed term lacks the variable
pub listed_lacks : (t : PlainTables) (v : TermId) (ns : List TermId) (n : TermId) → LackAll t v ns → list_any (λ m. nat_eq n.0 m.0) ns ≡ true → has_free (var_of (term_of t v)) (term_of t n) ≡ false
listed_lacks t v [] n l e = absurd (true≢false (sym e))
listed_lacks t v (m ∷ ns) n l e = at (nat_eq n.0 m.0) refl (listed_lacks t v ns n l.1) e
  where
    at : (b : Bool) → nat_eq n.0 m.0 ≡ b → (list_any (λ k. nat_eq n.0 k.0) ns ≡ true → has_free (var_of (term_of t v)) (term_of t n) ≡ false) → (b || list_any (λ k. nat_eq n.0 k.0) ns) ≡ true → has_free (var_of (term_of t v)) (term_of t n) ≡ false
    at true s later h =
        let same : n.0 ≡ m.0 = eqb-true n.0 m.0 s in
        subst (λ (k : ℕ). has_free (var_of (term_of t v)) (term_of t (record { 0 = k })) ≡ false) (sym same) l.0
    at false s later h = later h

push_lacks : (t : PlainTables) (v : TermId) (ns : List TermId) (n : TermId) → LackAll t v ns → has_free (var_of (term_of t v)) (term_of t n) ≡ false → LackAll t v (ns ++ n ∷ [])
push_lacks t v [] n l e = (e, tt)
push_lacks t v (m ∷ ns) n l e = (l.0, push_lacks t v ns n l.1 e)

pub added_lacks : (t : PlainTables) (v : TermId) (old new : List TermId) (n : TermId) → LackAll t v old → has_free (var_of (term_of t v)) (term_of t n) ≡ false → IsAdded old new n → LackAll t v new
added_lacks t v old new n l e (inl s) = subst (λ (ns : List TermId). LackAll t v ns) (sym s) l
added_lacks t v old new n l e (inr s) = subst (λ (ns : List TermId). LackAll t v ns) (sym s) (at (list_any (λ m. nat_eq n.0 m.0) old))
  where
    at : (b : Bool) → LackAll t v (if b then old else old ++ n ∷ [])
    at true = l
    at false = push_lacks t v old n l e

pub comb_lacks : (v : FreeVar) (n f x : Tm) → n ≡ tm_comb f x → false ≡ has_free v f → false ≡ has_free v x → has_free v n ≡ false
comb_lacks v n f x e p q = ap (has_free v) e ∙ (λ j. sym p j || sym q j)

pub abs_same : (v : FreeVar) (n : Tm) (a : Ty) (b : Tm) → n ≡ tm_abs a b → has_free v n ≡ has_free v b
abs_same v n a b e = ap (has_free v) e

-- a free variable occurs in itself alone
pub free_tells : (t : PlainTables) (v n : TermId) (x : FreeVar) (r : Bool) → IsVariable t v → term_of t n ≡ tm_free x → (r ≡ true → term_of t n ≡ term_of t v) → (term_of t n ≡ term_of t v → r ≡ true) → r ≡ has_free (var_of (term_of t v)) (term_of t n)
free_tells t v n x r i e there back = at r refl
  where
    var : FreeVar
    var = var_of (term_of t v)

    same : term_of t n ≡ term_of t v → has_free var (term_of t n) ≡ true
    same h = ap (has_free var) (h ∙ i.1) ∙ var_self var

    other : (b : Bool) → var_eq var x ≡ b → (term_of t n ≡ term_of t v → ⊥) → var_eq var x ≡ false
    other true q never = absurd (never (e ∙ ap tm_free (sym (var_eq-same var x q)) ∙ sym i.1))
    other false q never = q

    at : (b : Bool) → r ≡ b → r ≡ has_free var (term_of t n)
    at true s = s ∙ sym (same (there s))
    at false s = s ∙ sym (ap (has_free var) e ∙ other (var_eq var x) refl (λ h. true≢false (sym (back h) ∙ s)))
