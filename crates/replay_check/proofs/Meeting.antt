-- Walks over the parts of terms.
use Rattle.std.proofs.Common.{◌≡◌, inl, inr, ℕ, Bool, true, false, ◌||◌, if◌then◌else◌, List, [], ◌∷◌, ◌++◌, nat_eq, refl, ap, sym, subst, ◌∙◌, true≢false}
use Rattle.std.specs.List.{list_any}
use Rattle.std.proofs.lemmas.Bool.{eqb-true}
use Rattle.hol_terms.specs.Ty.{Ty}
use Rattle.hol_terms.specs.Tm.{Tm, tm_comb, tm_abs}
use Rattle.hol_terms.specs.Definition.{has_frees}
use Rattle.flat_terms.specs.declared.nodes.TermId.{TermId}
use Rattle.flat_terms.specs.Plain.{PlainTables, term_of}
use Rattle.flat_walks.specs.Lacks.{IsAdded}
use Rattle.replay_check.specs.Walks.{AllMeet}

-- a listed term meets it
pub listed_meets : (P : Tm → Type 0) (t : PlainTables) (ns : List TermId) (n : TermId) → AllMeet P t ns → list_any (λ m. nat_eq n.0 m.0) ns ≡ true → P (term_of t n)
listed_meets P t [] n l e = absurd (true≢false (sym e))
listed_meets P t (m ∷ ns) n l e = at (nat_eq n.0 m.0) refl (listed_meets P t ns n l.1) e
  where
    at : (b : Bool) → nat_eq n.0 m.0 ≡ b → (list_any (λ k. nat_eq n.0 k.0) ns ≡ true → P (term_of t n)) → (b || list_any (λ k. nat_eq n.0 k.0) ns) ≡ true → P (term_of t n)
    at true s later h = subst (λ (k : ℕ). P (term_of t (record { 0 = k }))) (sym (eqb-true n.0 m.0 s)) l.0
    at false s later h = later h

push_meets : (P : Tm → Type 0) (t : PlainTables) (ns : List TermId) (n : TermId) → AllMeet P t ns → P (term_of t n) → AllMeet P t (ns ++ n ∷ [])
push_meets P t [] n l e = (e, tt)
push_meets P t (m ∷ ns) n l e = (l.0, push_meets P t ns n l.1 e)

pub added_meets : (P : Tm → Type 0) (t : PlainTables) (old new : List TermId) (n : TermId) → AllMeet P t old → P (term_of t n) → IsAdded old new n → AllMeet P t new
added_meets P t old new n l e (inl s) = subst (λ (ns : List TermId). AllMeet P t ns) (sym s) l
added_meets P t old new n l e (inr s) = subst (λ (ns : List TermId). AllMeet P t ns) (sym s) (at (list_any (λ m. nat_eq n.0 m.0) old))
  where
    at : (b : Bool) → AllMeet P t (if b then old else old ++ n ∷ [])
    at true = l
    at false = push_meets P t old n l e

pub comb_closed : (n f x : Tm) → n ≡ tm_comb f x → false ≡ has_frees f → false ≡ has_frees x → has_frees n ≡ false
comb_closed n f x e p q = ap has_frees e ∙ (λ j. sym p j || sym q j)

pub abs_closed : (n : Tm) (a : Ty) (b : Tm) → n ≡ tm_abs a b → false ≡ has_frees b → has_frees n ≡ false
abs_closed n a b e p = ap has_frees e ∙ sym p
