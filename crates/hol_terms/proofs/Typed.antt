-- The type of a well typed term is well formed, where `fun` takes two arguments; well typed equations.
use Rattle.std.proofs.Common.{◌≡◌, Some, List, [], ◌∷◌, arith, refl, ap, subst, codes}
use Rattle.hol_terms.specs.Ty.{Ty}
use Rattle.hol_terms.specs.Tm.{Tm, tm_index, tm_free, tm_const, tm_comb, tm_abs}
use Rattle.hol_terms.specs.Typing.{tm_type, range_ty, domain_ty, fun_ty, fun_name}
use Rattle.hol_terms.specs.Signature.{Signature, arity_of, IsTyOver, IsConstOver, IsOver}
use Rattle.hol_terms.specs.Definition.{Definition, signature_of, alpha, eq_ty}
use Rattle.hol_terms.specs.Sequent.{seq, eq_tm, IsFormula, IsTyped}

pub IsOver-type : (s : Signature) → arity_of s fun_name ≡ Some 2 → (bound : List Ty) (t : Tm) → IsOver s bound t → IsTyOver s (tm_type t)
IsOver-type s k bound (tm_index i t) h = h.1
IsOver-type s k bound (tm_free v) h = h.1
IsOver-type s k bound (tm_const c ts t) h = h.ty_over
IsOver-type s k bound (tm_comb f x) h =
    let e : IsTyOver s (fun_ty (tm_type x) (range_ty (tm_type f))) = subst (IsTyOver s) h.2 (IsOver-type s k bound f h.0) in
    e.1.1.0
IsOver-type s k bound (tm_abs t b) h = (k, (h.0, (IsOver-type s k (t ∷ bound) b h.1, tt)))

pub eq_over : (ds : List Definition) (bound : List Ty) (s t : Tm) → IsOver (signature_of ds) bound s → IsOver (signature_of ds) bound t → tm_type s ≡ tm_type t → IsOver (signature_of ds) bound (eq_tm s t)
eq_over ds bound s t h g e =
    let a : IsTyOver (signature_of ds) (tm_type s) = IsOver-type (signature_of ds) refl bound s h in
    let known : IsConstOver (signature_of ds) (codes "eq") (tm_type s ∷ []) (eq_ty (tm_type s)) =
    record { generic = eq_ty alpha; known = refl; as_many = refl; instance = refl; over = (a, tt); ty_over = (refl, (a, ((refl, (a, ((refl, tt), tt))), tt))) } in
    ((known, h, refl), g, ap (λ u. fun_ty u (range_ty (range_ty (eq_ty (tm_type s))))) e)

pub eq_sides : {sig : Signature} (bound : List Ty) (s t : Tm) → IsOver sig bound (eq_tm s t) → IsOver sig bound s × IsOver sig bound t × (tm_type s ≡ tm_type t)
eq_sides bound s t h = (h.0.1, h.1, ap domain_ty h.2)

pub no_hyps : (s : Signature) (p : Tm) → IsFormula s p → IsTyped s (seq [] p)
no_hyps s p h = record { hyps_are = λ k d l. absurd (omega arith); concl_is = h }
