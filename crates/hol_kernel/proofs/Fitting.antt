-- A constant or a type without a fault is conservative.
use Rattle.std.proofs.Common.{◌≡◌, Bool, true, false, not, ◌&&◌, List, [], ◌∷◌, length, arith, Option, Some, None, cond, refl, sym, ap, ◌∙◌, subst}
use Rattle.std.specs.Prelude.{◌==◌}
use Rattle.std.proofs.lemmas.Bool.Decides.{nat_tests}
use Rattle.hol_terms.specs.Name.{Name, dot_abs, dot_rep}
use Rattle.hol_terms.specs.Tm.{Tm, tm_index, tm_free, tm_const, tm_comb, tm_abs}
use Rattle.hol_terms.specs.Typing.{tm_type, domain_ty, fun_ty}
use Rattle.hol_terms.specs.Signature.{may_introduce, IsOver}
use Rattle.hol_terms.specs.Definition.{Definition, signature_of, has_frees, bool_ty}
use Rattle.hol_terms.specs.Sequent.{Sequent, seq, argument, IsFormula}
use Rattle.hol_terms.specs.Proves.{Proves, IsDerivable, IsConstDef, IsTypeDef}
use Rattle.hol_terms.specs.WellFormed.{IsTypeForm}
use Rattle.hol_terms.proofs.Tables.{and_left, and_right}
use Rattle.hol_terms.proofs.Weaken.{Proves-typed}
use Rattle.hol_kernel.proofs.Steps.{moved}
use Rattle.hol_kernel.specs.State.{State, Theorem, Has}
use Rattle.hol_kernel.specs.NewType.{IsShownAt}
use Rattle.hol_kernel.specs.Fault.{const_fault, function_of, is_application, shows_inhabited, predicate_of, type_fault}

-- a test that was passed, and what comes after it
passed : {A : Type 0} (b : Bool) (x : A) (r : Option A) → cond b (Some x) r ≡ None → (b ≡ false) × (r ≡ None)
passed true x r e = cc
passed false x r e = (refl, e)

not_false : (b : Bool) → not b ≡ false → b ≡ true
not_false true e = refl
not_false false e = cc

pub no_fault : (ds : List Definition) (c : Name) (t : Tm) → const_fault ds c t ≡ None → IsOver (signature_of ds) [] t → IsConstDef ds c t
no_fault ds c t e o =
    let named = passed _ _ _ e in
    let closed = passed _ _ _ named.1 in
    let covered = passed _ _ _ closed.1 in
    record { named = not_false _ named.0; closed = closed.0; covered = not_false _ covered.0; typed = o }

-- and what is conservative has no fault
pub fault_free : (ds : List Definition) (c : Name) (t : Tm) → IsConstDef ds c t → const_fault ds c t ≡ None
fault_free ds c t h = rw (h.named, h.closed, h.covered) refl

-- a theorem that shows a predicate inhabited
witness_is : (a : Sequent) → shows_inhabited a ≡ true → a ≡ seq [] (tm_comb (predicate_of a) (argument a.concl))
witness_is a e = at a.hyps a.concl e
  where
    at : (hs : List Tm) (p : Tm) → ((length hs == 0) && is_application p) ≡ true → seq hs p ≡ seq [] (tm_comb (function_of p) (argument p))
    at [] (tm_comb f x) e = refl
    at [] (tm_index i t) e = cc
    at [] (tm_free v) e = cc
    at [] (tm_const c ts t) e = cc
    at [] (tm_abs t b) e = cc
    at (h ∷ hs) p e = let f = and_left (length (h ∷ hs) == 0) (is_application p) e in absurd (grind (arith, nat_tests))

pub record IsFitType (ds : List Definition) (n : Name) (a : Sequent) : Type 0 where
  pub named : may_introduce (signature_of ds) n ≡ true
  pub named_abs : may_introduce (signature_of ds) (dot_abs n) ≡ true
  pub named_rep : may_introduce (signature_of ds) (dot_rep n) ≡ true
  pub shown : shows_inhabited a ≡ true
  pub witness : a ≡ seq [] (tm_comb (predicate_of a) (argument a.concl))
  pub closed : has_frees (predicate_of a) ≡ false

pub no_type_fault : (ds : List Definition) (n : Name) (a : Sequent) → type_fault ds n a ≡ None → IsFitType ds n a
no_type_fault ds n a e =
    let named = passed _ _ _ e in
    let shown = passed _ _ _ named.1 in
    let closed = passed _ _ _ shown.1 in
    let names = not_false _ named.0 in
    let two = and_left _ _ names in
    record {
      named = and_left _ _ two;
      named_abs = and_right _ _ two;
      named_rep = and_right _ _ names;
      shown = not_false _ shown.0;
      witness = witness_is a (not_false _ shown.0);
      closed = closed.0;
    }

-- the predicate of a theorem `|- P t` is well typed, and a function into bool
pub fit_type : (ds : List Definition) (n : Name) (a : Sequent) → type_fault ds n a ≡ None → Proves ds a → IsTypeDef ds n (predicate_of a)
fit_type ds n a e h =
    let f = no_type_fault ds n a e in
    let p = predicate_of a in
    let t = argument a.concl in
    let shown : Proves ds (seq [] (tm_comb p t)) = subst (Proves ds) f.witness h in
    let typed : IsFormula (signature_of ds) (tm_comb p t) = (Proves-typed shown).concl_is in
    let takes : tm_type p ≡ fun_ty (tm_type t) bool_ty = typed.0.2 ∙ ap (fun_ty (tm_type t)) typed.1 in
    record {
      named = f.named;
      named_abs = f.named_abs;
      named_rep = f.named_rep;
      closed = f.closed;
      typed = typed.0.0;
      predicate = takes ∙ ap (λ u. fun_ty u bool_ty) (sym (ap domain_ty takes));
      witness = t;
      inhabited = shown;
    }

pub type_form : {ds : List Definition} {n : Name} {p : Tm} → IsTypeDef ds n p → IsTypeForm ds n p
type_form h = record { named = h.named; named_abs = h.named_abs; named_rep = h.named_rep; closed = h.closed; typed = h.typed; predicate = h.predicate }

-- a theorem of the kernel without a fault defines a type
pub theorem_fits : (k : State) (n : Name) (a : Theorem) → Has k a → type_fault k.defs n a.sequent ≡ None → IsDerivable a.defs a.sequent → IsTypeDef k.defs n (predicate_of a.sequent)
theorem_fits k n a h e d = fit_type k.defs n a.sequent e (moved k a h d.proof)

pub theorem_shows : (k : State) (n : Name) (a : Theorem) → Has k a → type_fault k.defs n a.sequent ≡ None → IsShownAt k.steps a.step (predicate_of a.sequent)
theorem_shows k n a h e = record { witness = argument a.sequent.concl; shown = h.at ∙ ap Some (no_type_fault k.defs n a.sequent e).witness }

-- and a type that meets what it has to, with such a theorem, has no fault
pub type_fault_free : (ds : List Definition) (n : Name) (p t : Tm) → IsTypeForm ds n p → type_fault ds n (seq [] (tm_comb p t)) ≡ None
type_fault_free ds n p t h = rw (h.named, h.named_abs, h.named_rep, h.closed) refl
