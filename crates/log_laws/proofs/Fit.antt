-- A definition that is not unfit is conservative.
use Rattle.std.proofs.Common.{◌≡◌, true, false, not, ◌&&◌, ◌||◌, List, [], ◌∷◌, length, arith, refl, sym, ap, ◌∙◌, subst}
use Rattle.std.specs.Prelude.{◌==◌}
use Rattle.std.proofs.lemmas.Bool.{and_parts, or_parts, not-false}
use Rattle.std.proofs.lemmas.Bool.Decides.{nat_tests}
use Rattle.hol_terms.specs.Name.{Name, dot_abs, dot_rep}
use Rattle.hol_terms.specs.Tm.{Tm, tm_index, tm_free, tm_const, tm_comb, tm_abs}
use Rattle.hol_terms.specs.Typing.{tm_type, domain_ty, fun_ty}
use Rattle.hol_terms.specs.TyVars.{tm_within}
use Rattle.hol_terms.specs.Signature.{may_introduce, IsOver}
use Rattle.hol_terms.specs.TypeNames.{may_introduce_type}
use Rattle.hol_terms.specs.Definition.{Definition, signature_of, has_frees, bool_ty}
use Rattle.hol_terms.specs.Sequent.{Sequent, seq, argument, IsFormula}
use Rattle.hol_terms.specs.Rules.{same, function}
use Rattle.hol_terms.specs.Proves.{Proves, IsConstDef, IsTypeDef}
use Rattle.hol_terms.proofs.Same.{same-is}
use Rattle.hol_terms.proofs.Weaken.{Proves-typed}
use Rattle.hol_logs.specs.Position.{predicate_of, is_application, is_unfit_const, is_unfit_type, states}

pub const_fits : (ds : List Definition) (c : Name) (t : Tm) → is_unfit_const ds c t ≡ false → IsOver (signature_of ds) [] t → IsConstDef ds c t
const_fits ds c t e o =
    let p = or_parts (not (may_introduce (signature_of ds) c) || has_frees t) (not (tm_within t (tm_type t))) e in
    let q = or_parts (not (may_introduce (signature_of ds) c)) (has_frees t) p.0 in
    record { named = not-false _ q.0; closed = q.1; covered = not-false _ p.1; typed = o }

-- a sequent without hypotheses
bare : (a : Sequent) → (length a.hyps == 0) ≡ true → a ≡ seq [] a.concl
bare a e = at a.hyps e
  where
    at : (hs : List Tm) → (length hs == 0) ≡ true → seq hs a.concl ≡ seq [] a.concl
    at [] e = refl
    at (h ∷ hs) e = absurd (grind (arith, nat_tests))

applied : (p : Tm) → is_application p ≡ true → p ≡ tm_comb (function p) (argument p)
applied (tm_comb f x) e = refl
applied (tm_index i t) e = cc
applied (tm_free v) e = cc
applied (tm_const c ts t) e = cc
applied (tm_abs t b) e = cc

pub type_fits : (ds : List Definition) (c : Name) (a : Sequent) → is_unfit_type ds c a ≡ false → Proves ds a → IsTypeDef ds c (predicate_of a)
type_fits ds c a e h =
    let p = or_parts (not (may_introduce_type (signature_of ds) c) || not (length a.hyps == 0) || not (is_application a.concl)) (has_frees (predicate_of a)) e in
    let q = or_parts (not (may_introduce_type (signature_of ds) c) || not (length a.hyps == 0)) (not (is_application a.concl)) p.0 in
    let r = or_parts (not (may_introduce_type (signature_of ds) c)) (not (length a.hyps == 0)) q.0 in
    let names = and_parts (may_introduce (signature_of ds) c && may_introduce (signature_of ds) (dot_abs c)) (may_introduce (signature_of ds) (dot_rep c)) (not-false _ r.0) in
    let two = and_parts (may_introduce (signature_of ds) c) (may_introduce (signature_of ds) (dot_abs c)) names.0 in
    let pred = predicate_of a in
    let t = argument a.concl in
    let says : a ≡ seq [] (tm_comb pred t) = bare a (not-false _ r.1) ∙ ap (λ u. seq [] u) (applied a.concl (not-false _ q.1)) in
    let shown : Proves ds (seq [] (tm_comb pred t)) = subst (Proves ds) says h in
    let typed : IsFormula (signature_of ds) (tm_comb pred t) = (Proves-typed shown).concl_is in
    let takes : tm_type pred ≡ fun_ty (tm_type t) bool_ty = typed.0.2 ∙ ap (fun_ty (tm_type t)) typed.1 in
    record {
      named = two.0;
      named_abs = two.1;
      named_rep = names.1;
      closed = p.1;
      typed = typed.0.0;
      predicate = takes ∙ ap (λ u. fun_ty u bool_ty) (sym (ap domain_ty takes));
      witness = t;
      inhabited = shown;
    }

-- the theorem that is named
pub stated : (a : Sequent) (t : Tm) → states a t ≡ true → a ≡ seq [] t
stated a t e = let p = and_parts (length a.hyps == 0) (same a.concl t) e in bare a p.0 ∙ ap (λ u. seq [] u) (same-is a.concl t p.1)
