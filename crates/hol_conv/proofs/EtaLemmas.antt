-- Functions between two types, and eta redexes.
use Rattle.std.proofs.Common.{◌≡◌, ℕ, ◌+◌, ◌<◌, refl, sym, ◌∙◌, ap, arith, subst, Bool, true, false, cond, nat_eq, List, [], ◌∷◌, codes, Option, Some}
use Rattle.std.proofs.lemmas.Bool.Decides.{nat_tests}
use Rattle.hol_terms.specs.Name.{is_name}
use Rattle.hol_terms.specs.Ty.{Ty}
use Rattle.hol_terms.specs.Tm.{Tm, tm_index, tm_free, tm_const, tm_comb, tm_abs, FreeVar}
use Rattle.hol_terms.specs.Typing.{tm_type, fun_ty, domain_ty, range_ty}
use Rattle.hol_terms.specs.Subst.{TySubst}
use Rattle.hol_terms.specs.Binding.{VarSubst, tm_inst, tm_open}
use Rattle.hol_terms.specs.Loose.{IsClosedAt}
use Rattle.hol_terms.specs.Signature.{IsTyOver, IsOver}
use Rattle.hol_terms.specs.Definition.{Definition, signature_of, alpha}
use Rattle.hol_terms.specs.Notation.{beta}
use Rattle.hol_terms.specs.Sequent.{Sequent, seq, eq_tm}
use Rattle.hol_terms.specs.Proves.{AreOver}
use Rattle.hol_terms.specs.Rules.{inst_type_rule}
use Rattle.hol_terms.proofs.AsciiNames.{is_segment_from_ascii, is_name_from_ascii}
use Rattle.hol_terms.proofs.Typed.{IsOver-type}
use Rattle.hol_terms.proofs.Bound.{IsOver-open}
use Rattle.hol_terms.proofs.Opened.{var_self}
use Rattle.hol_conv.specs.Eta.{expanded, applied_in, IsEtaRedex, function_between, eta_fact}
use Rattle.hol_conv.proofs.RuleLemmas.{given}

pub function_over : (ds : List Definition) (a b : Ty) → IsTyOver (signature_of ds) a → IsTyOver (signature_of ds) b → IsOver (signature_of ds) [] (tm_free (function_between a b))
function_over ds a b h g = (is_name_from_ascii (codes "f") refl, (refl, (h, (g, tt))))

pub alpha_over : (ds : List Definition) → IsTyOver (signature_of ds) alpha
alpha_over ds = is_segment_from_ascii (codes "a") refl

pub beta_over : (ds : List Definition) → IsTyOver (signature_of ds) beta
beta_over ds = is_segment_from_ascii (codes "b") refl

pub some_is : {A : Type 0} {x y : A} → Some x ≡ Some y → x ≡ y
some_is {A} {x} {y} e = cc

-- opening changes no term without loose indices
open_index : (k i : ℕ) (t : Ty) (v : FreeVar) → i < k → tm_open k v (tm_index i t) ≡ tm_index i t
open_index k i t v l = at (nat_eq i k) refl
  where
    at : (b : Bool) → nat_eq i k ≡ b → cond b (tm_free v) (tm_index i t) ≡ tm_index i t
    at true p = absurd (grind (arith, nat_tests))
    at false p = refl

pub open_closed : (k : ℕ) (v : FreeVar) (t : Tm) → IsClosedAt k t → tm_open k v t ≡ t
open_closed k v (tm_index i t) h = open_index k i t v h
open_closed k v (tm_free w) h = refl
open_closed k v (tm_const c ts t) h = refl
open_closed k v (tm_comb f x) h = λ i. tm_comb (open_closed k v f h.0 i) (open_closed k v x h.1 i)
open_closed k v (tm_abs t b) h = ap (tm_abs t) (open_closed (k + 1) v b h)

-- the general equation at two types
pub types_gives : (s : TySubst) (a b : Ty) (c d : Sequent) → s ≡ (codes "a", a) ∷ (codes "b", b) ∷ [] → c ≡ eta_fact alpha beta → inst_type_rule s c ≡ Some d → d ≡ eta_fact a b
unfolding eta_fact
types_gives s a b c d e f g = given ((λ i. inst_type_rule (e i) (f i)) ∙ refl) g

redex_over : (ds : List Definition) (t : Tm) → IsOver (signature_of ds) [] t → IsEtaRedex t → IsOver (signature_of ds) [] (expanded (applied_in t))
redex_over ds t o r = subst (IsOver (signature_of ds) []) r.shape o

pub range_over : (ds : List Definition) (t : Tm) → IsOver (signature_of ds) [] t → IsEtaRedex t → IsTyOver (signature_of ds) (range_ty (tm_type (applied_in t)))
range_over ds t o r = (IsOver-type (signature_of ds) refl [] (expanded (applied_in t)) (redex_over ds t o r)).1.1.0

pub function_typed : (ds : List Definition) (t : Tm) → IsOver (signature_of ds) [] t → IsEtaRedex t
    → tm_type (applied_in t) ≡ fun_ty (domain_ty (tm_type (applied_in t))) (range_ty (tm_type (applied_in t)))
function_typed ds t o r = (redex_over ds t o r).1.2

pub function_is_over : (ds : List Definition) (t : Tm) → IsOver (signature_of ds) [] t → IsEtaRedex t → IsOver (signature_of ds) [] (applied_in t)
function_is_over ds t o r =
    let f = applied_in t in
    let a = domain_ty (tm_type f) in
    let v : FreeVar = record { name = codes "f"; ty = a } in
    let h = redex_over ds t o r in
    subst (IsOver (signature_of ds) []) (open_closed 0 v f r.closed) (IsOver-open (signature_of ds) [] v f (is_name_from_ascii (codes "f") refl, h.0) h.1.0)

pub expanded_gives : (v : FreeVar) (f : Tm) → tm_type f ≡ v.ty → tm_inst ((v, f) ∷ []) (eq_tm (expanded (tm_free v)) (tm_free v)) ≡ eq_tm (expanded f) f
expanded_gives v f h = rw (var_self v, h) refl

pub domain_over : (ds : List Definition) (t : Tm) → IsOver (signature_of ds) [] t → IsEtaRedex t → IsTyOver (signature_of ds) (domain_ty (tm_type (applied_in t)))
domain_over ds t o r = (redex_over ds t o r).0

-- the function for the variable, over the definitions after a call
pub pairs_over : (ds es : List Definition) (s : VarSubst) (v : FreeVar) (f : Tm) → es ≡ ds → s ≡ (v, f) ∷ [] → v ≡ function_between (domain_ty (tm_type f)) (range_ty (tm_type f))
    → IsTyOver (signature_of ds) (domain_ty (tm_type f)) → IsTyOver (signature_of ds) (range_ty (tm_type f)) → IsOver (signature_of ds) [] f → AreOver (signature_of es) s
pairs_over ds es s v f g e d a b o =
    let a_variable : IsOver (signature_of ds) [] (tm_free v) =
    subst (λ (w : FreeVar). IsOver (signature_of ds) [] (tm_free w)) (sym d) (function_over ds (domain_ty (tm_type f)) (range_ty (tm_type f)) a b) in
    let one : AreOver (signature_of ds) ((v, f) ∷ []) = (a_variable, o, tt) in
    subst (λ (fs : List Definition). AreOver (signature_of fs) s) (sym g) (subst (AreOver (signature_of ds)) (sym e) one)

pub stated : (v : FreeVar) (a b : Ty) (c : Sequent) → v ≡ function_between a b → c ≡ eta_fact a b → c ≡ seq [] (eq_tm (expanded (tm_free v)) (tm_free v))
unfolding eta_fact
stated v a b c d e = e ∙ ap (λ (w : FreeVar). seq [] (eq_tm (expanded (tm_free w)) (tm_free w))) (sym d)

pub typed_as : (v : FreeVar) (f : Tm) → v ≡ function_between (domain_ty (tm_type f)) (range_ty (tm_type f)) → tm_type f ≡ fun_ty (domain_ty (tm_type f)) (range_ty (tm_type f)) → tm_type f ≡ v.ty
typed_as v f d h = h ∙ ap (λ (w : FreeVar). w.ty) (sym d)
