-- A fresh variable in the places that are rewritten.
use Rattle.std.proofs.Common.{◌≡◌, ℕ, true, false, List, [], Some, refl, ap, sym, ◌∙◌, subst}
use Rattle.hol_terms.specs.Ty.{Ty}
use Rattle.hol_terms.specs.Tm.{Tm, tm_free, FreeVar}
use Rattle.hol_terms.specs.Typing.{tm_type}
use Rattle.hol_terms.specs.Binding.{has_free}
use Rattle.hol_terms.specs.Signature.{IsTyOver, IsOver}
use Rattle.hol_terms.specs.Definition.{signature_of}
use Rattle.hol_terms.specs.Sequent.{seq, eq_tm, left_of, argument}
use Rattle.hol_terms.specs.Rules.{refl_rule}
use Rattle.hol_terms.specs.Replacing.{replaced, has_subterm, subterm_at, replaced_at, FitsAt}
use Rattle.hol_terms.proofs.Typed.{IsOver-type}
use Rattle.hol_terms.proofs.InstLemmas.{IsOver-closed}
use Rattle.hol_kernel.specs.State.{State, Theorem}
use Rattle.hol_conv.specs.Fresh.{IsFresh}
use Rattle.hol_conv.specs.Rewriting.{Sides, filled, hyps_if, rewriting_hyps}
use Rattle.hol_conv.proofs.RuleLemmas.{given}
use Rattle.hol_conv.proofs.Filling.{filled_replaced, filled_replaced_at, replaced_self, replaced_none, replaced_at_self, IsOver-replaced, IsOver-replaced_at}

-- the variable for the left side of the equation
pub record Place (k : State) (t : Tm) (a : Theorem) (v : FreeVar) : Type 0 where
  pub over : IsOver (signature_of k.defs) [] (tm_free v)
  pub typed : v.ty ≡ tm_type (left_of a.sequent.concl)
  pub absent : has_free v t ≡ false

pub place : (k : State) (t : Tm) (a : Theorem) (v : FreeVar) (ty : Ty) → Sides k a → IsFresh t [] ty v → ty ≡ tm_type (left_of a.sequent.concl) → Place k t a v
place k t a v ty s f e =
    let typed : v.ty ≡ tm_type (left_of a.sequent.concl) = f.typed ∙ e in
    record { over = (f.named, subst (IsTyOver (signature_of k.defs)) (sym typed) (IsOver-type (signature_of k.defs) refl [] (left_of a.sequent.concl) s.left)); typed = typed; absent = f.absent }

-- everywhere
pub context_of_all : (k : State) (t c : Tm) (a : Theorem) (v : FreeVar) → Place k t a v → IsOver (signature_of k.defs) [] t → c ≡ replaced (left_of a.sequent.concl) (tm_free v) t → IsOver (signature_of k.defs) [] c
context_of_all k t c a v p h e =
    subst (IsOver (signature_of k.defs) []) (sym e) (IsOver-replaced (signature_of k.defs) [] (left_of a.sequent.concl) (tm_free v) t (sym p.typed) p.over h)

pub all_filled : (k : State) (t c : Tm) (a : Theorem) (v : FreeVar) → Place k t a v → Sides k a → IsOver (signature_of k.defs) [] t → c ≡ replaced (left_of a.sequent.concl) (tm_free v) t
    → eq_tm (filled v (left_of a.sequent.concl) c) (filled v (argument a.sequent.concl) c) ≡ eq_tm t (replaced (left_of a.sequent.concl) (argument a.sequent.concl) t)
all_filled k t c a v p s h e =
    let l = left_of a.sequent.concl in
    let r = argument a.sequent.concl in
    let sig = signature_of k.defs in
    let closed = IsOver-closed sig [] t h in
    let left : filled v l c ≡ t = ap (filled v l) e ∙ filled_replaced 0 v l l t p.absent closed (IsOver-closed sig [] l s.left) ∙ replaced_self l t in
    let right : filled v r c ≡ replaced l r t = ap (filled v r) e ∙ filled_replaced 0 v l r t p.absent closed (IsOver-closed sig [] r s.right) in
    λ i. eq_tm (left i) (right i)

pub hyps_kept : (t : Tm) (a : Theorem) → has_subterm (left_of a.sequent.concl) t ≡ true → a.sequent.hyps ≡ rewriting_hyps t a.sequent
hyps_kept t a e = ap (λ b. hyps_if b a.sequent.hyps) (sym e)

pub nothing_rewritten : (t : Tm) (a th : Theorem) → has_subterm (left_of a.sequent.concl) t ≡ false → refl_rule t ≡ Some th.sequent
    → th.sequent ≡ seq (rewriting_hyps t a.sequent) (eq_tm t (replaced (left_of a.sequent.concl) (argument a.sequent.concl) t))
nothing_rewritten t a th e d =
    given refl d ∙ (λ i. seq (hyps_if (sym e i) a.sequent.hyps) (eq_tm t (sym (replaced_none (left_of a.sequent.concl) (argument a.sequent.concl) t e) i)))

-- at a path
pub fits_at : (k : State) (path : List ℕ) (t : Tm) (a : Theorem) (v : FreeVar) → Place k t a v → subterm_at path t ≡ Some (left_of a.sequent.concl) → FitsAt path (tm_free v) t
fits_at k path t a v p e = record { there = left_of a.sequent.concl; is = e; typed = sym p.typed }

pub context_of_path : (k : State) (path : List ℕ) (t c : Tm) (a : Theorem) (v : FreeVar) → Place k t a v → subterm_at path t ≡ Some (left_of a.sequent.concl) → IsOver (signature_of k.defs) [] t
    → c ≡ replaced_at path (tm_free v) t → IsOver (signature_of k.defs) [] c
context_of_path k path t c a v p e h d = subst (IsOver (signature_of k.defs) []) (sym d) (IsOver-replaced_at path (signature_of k.defs) [] (tm_free v) t (fits_at k path t a v p e) p.over h)

pub path_filled : (k : State) (path : List ℕ) (t c : Tm) (a : Theorem) (v : FreeVar) → Place k t a v → Sides k a → IsOver (signature_of k.defs) [] t → subterm_at path t ≡ Some (left_of a.sequent.concl)
    → c ≡ replaced_at path (tm_free v) t → eq_tm (filled v (left_of a.sequent.concl) c) (filled v (argument a.sequent.concl) c) ≡ eq_tm t (replaced_at path (argument a.sequent.concl) t)
path_filled k path t c a v p s h d e =
    let l = left_of a.sequent.concl in
    let r = argument a.sequent.concl in
    let sig = signature_of k.defs in
    let closed = IsOver-closed sig [] t h in
    let left : filled v l c ≡ t = ap (filled v l) e ∙ filled_replaced_at path 0 v l t p.absent closed (IsOver-closed sig [] l s.left) ∙ replaced_at_self path l t d in
    let right : filled v r c ≡ replaced_at path r t = ap (filled v r) e ∙ filled_replaced_at path 0 v r t p.absent closed (IsOver-closed sig [] r s.right) in
    λ i. eq_tm (left i) (right i)
