-- The terms that lines make are well formed over the kernel's definitions.
use Rattle.std.proofs.Common.{◌≡◌, refl, sym, subst, List, [], ◌∷◌, ◌++◌, codes, true, Option, Some, None, slice_get}
use Rattle.hol_terms.specs.Name.{Name, is_name}
use Rattle.hol_terms.specs.Ty.{Ty}
use Rattle.hol_terms.specs.Tm.{Tm, tm_free, tm_comb, FreeVar}
use Rattle.hol_terms.specs.Typing.{tm_type, fun_ty, range_ty}
use Rattle.hol_terms.specs.Signature.{Signature, IsTyOver, IsOver}
use Rattle.hol_terms.specs.Definition.{Definition, signature_of, bool_ty, alpha}
use Rattle.hol_terms.specs.Sequent.{IsEq, left_of, argument}
use Rattle.hol_terms.specs.Logic.{base_1, base_2, base_3, base_4, base_5, base_6, base_7, base_8, base_9, base_10}
use Rattle.hol_terms.specs.Base.{base, base_definitions}
use Rattle.hol_terms.specs.Proves.{IsDerivable, AreOver, AreTypesOver}
use Rattle.hol_terms.specs.Subst.{TySubst}
use Rattle.hol_terms.specs.Binding.{VarSubst}
use Rattle.hol_terms.specs.Rules.{lambda}
use Rattle.hol_terms.proofs.AsciiNames.{is_segment_from_ascii, is_name_from_ascii}
use Rattle.hol_terms.proofs.Typed.{IsOver-type, eq_sides}
use Rattle.hol_terms.proofs.Bound.{IsOver-bind}
use Rattle.hol_kernel.specs.State.{State, Theorem, Has}
use Rattle.hol_kernel.proofs.Steps.{moved}
use Rattle.hol_terms.proofs.Weaken.{Proves-typed}
use Rattle.kernel_lines.specs.Names.{connective, generic_at, letter_name}
use Rattle.kernel_lines.specs.Bases.{HasBase}
use Rattle.kernel_lines.specs.Lines.{shape_made, on}
use Rattle.kernel_lines.specs.Ready.{AllOver}
use Rattle.kernel_lines.specs.declared.line.Connective.{Connective}
use Rattle.kernel_lines.specs.declared.line.Connective.TheVariants.{Truth, Falsity, Not, Conj, Disj, Imp}
use Rattle.kernel_lines.specs.declared.line.Generic.{Generic}
use Rattle.kernel_lines.specs.declared.line.Generic.TheVariants.{Equality, All, Ex}
use Rattle.kernel_lines.specs.declared.line.Letter.{Letter}
use Rattle.kernel_lines.specs.declared.line.Letter.TheVariants.{F, H, P, Q, R, X, Y}
use Rattle.kernel_lines.specs.declared.line.Shape.{Shape}
use Rattle.kernel_lines.specs.declared.line.Shape.TheVariants.{Boolean, Alpha, Of, Fun}
use Rattle.kernel_lines.proofs.Had.{over_at}

bool_over : (ds : List Definition) → IsTyOver (signature_of ds) bool_ty
bool_over ds = (refl, tt)

fun_over : (ds : List Definition) (a b : Ty) → IsTyOver (signature_of ds) a → IsTyOver (signature_of ds) b → IsTyOver (signature_of ds) (fun_ty a b)
fun_over ds a b h g = (refl, (h, (g, tt)))

abbrev binary_ty : Ty
binary_ty = fun_ty bool_ty (fun_ty bool_ty bool_ty)

unary_over : (ds : List Definition) → IsTyOver (signature_of ds) (fun_ty bool_ty bool_ty)
unary_over ds = fun_over ds bool_ty bool_ty (bool_over ds) (bool_over ds)

binary_over : (ds : List Definition) → IsTyOver (signature_of ds) binary_ty
binary_over ds = fun_over ds bool_ty (fun_ty bool_ty bool_ty) (bool_over ds) (unary_over ds)

-- after the base definitions
after : (more : List Definition) (c : Connective) → IsOver (signature_of (base 10 ++ more)) [] (connective c)
unfolding base_definitions base_1 base_2 base_3 base_4 base_5 base_6 base_7 base_8 base_9 base_10
after more Truth = record { generic = bool_ty; known = refl; as_many = refl; instance = refl; over = tt; ty_over = bool_over (base 10 ++ more) }
after more Falsity = record { generic = bool_ty; known = refl; as_many = refl; instance = refl; over = tt; ty_over = bool_over (base 10 ++ more) }
after more Not = record { generic = fun_ty bool_ty bool_ty; known = refl; as_many = refl; instance = refl; over = tt; ty_over = unary_over (base 10 ++ more) }
after more Conj = record { generic = binary_ty; known = refl; as_many = refl; instance = refl; over = tt; ty_over = binary_over (base 10 ++ more) }
after more Disj = record { generic = binary_ty; known = refl; as_many = refl; instance = refl; over = tt; ty_over = binary_over (base 10 ++ more) }
after more Imp = record { generic = binary_ty; known = refl; as_many = refl; instance = refl; over = tt; ty_over = binary_over (base 10 ++ more) }

pub connective_over : (ds : List Definition) (c : Connective) (t : Tm) → HasBase ds → t ≡ connective c → IsOver (signature_of ds) [] t
connective_over ds c t h e = subst (IsOver (signature_of ds) []) (sym e) (subst (λ (es : List Definition). IsOver (signature_of es) [] (connective c)) (sym h.is.1) (after h.is.0 c))

generic_after : (more : List Definition) (g : Generic) (a : Ty) → IsTyOver (signature_of (base 10 ++ more)) a → IsOver (signature_of (base 10 ++ more)) [] (generic_at g a)
unfolding base_definitions base_1 base_2 base_3 base_4 base_5 base_6 base_7 base_8 base_9 base_10
generic_after more Equality a h =
    let ds = base 10 ++ more in
    record { generic = fun_ty alpha (fun_ty alpha bool_ty); known = refl; as_many = refl; instance = refl; over = (h, tt); ty_over = fun_over ds a (fun_ty a bool_ty) h (fun_over ds a bool_ty h (bool_over ds)) }
generic_after more All a h =
    let ds = base 10 ++ more in
    record { generic = fun_ty (fun_ty alpha bool_ty) bool_ty; known = refl; as_many = refl; instance = refl; over = (h, tt); ty_over = fun_over ds (fun_ty a bool_ty) bool_ty (fun_over ds a bool_ty h (bool_over ds)) (bool_over ds) }
generic_after more Ex a h =
    let ds = base 10 ++ more in
    record { generic = fun_ty (fun_ty alpha bool_ty) bool_ty; known = refl; as_many = refl; instance = refl; over = (h, tt); ty_over = fun_over ds (fun_ty a bool_ty) bool_ty (fun_over ds a bool_ty h (bool_over ds)) (bool_over ds) }

pub type_over : (ds : List Definition) (t : Tm) → IsOver (signature_of ds) [] t → IsTyOver (signature_of ds) (tm_type t)
type_over ds t h = IsOver-type (signature_of ds) refl [] t h

pub generic_over : (ds : List Definition) (g : Generic) (s t : Tm) → HasBase ds → IsOver (signature_of ds) [] s → t ≡ generic_at g (tm_type s) → IsOver (signature_of ds) [] t
generic_over ds g s t h o e =
    let after_base = λ (es : List Definition) (d : es ≡ base 10 ++ h.is.0) (p : IsTyOver (signature_of es) (tm_type s)).
    subst (λ (fs : List Definition). IsOver (signature_of fs) [] (generic_at g (tm_type s))) (sym d)
    (generic_after h.is.0 g (tm_type s) (subst (λ (fs : List Definition). IsTyOver (signature_of fs) (tm_type s)) d p)) in
    subst (IsOver (signature_of ds) []) (sym e) (after_base ds h.is.1 (type_over ds s o))

letter_is_name : (l : Letter) → is_name (letter_name l) ≡ true
letter_is_name F = is_name_from_ascii (codes "f") refl
letter_is_name H = is_name_from_ascii (codes "h") refl
letter_is_name P = is_name_from_ascii (codes "p") refl
letter_is_name Q = is_name_from_ascii (codes "q") refl
letter_is_name R = is_name_from_ascii (codes "r") refl
letter_is_name X = is_name_from_ascii (codes "x") refl
letter_is_name Y = is_name_from_ascii (codes "y") refl

on_some : {A B : Type 0} (o : Option A) (k : A → Option B) (b : B) (goal : Type 0) → ((a : A) → o ≡ Some a → k a ≡ Some b → goal) → on o k ≡ Some b → goal
on_some None k b goal f e = cc
on_some (Some a) k b goal f e = f a refl e

some_is : {A : Type 0} (x y : A) → Some x ≡ Some y → x ≡ y
some_is x y e = cc

alpha_over : (ds : List Definition) → IsTyOver (signature_of ds) alpha
alpha_over ds = is_segment_from_ascii (codes "a") refl

pub shape_over : (ds : List Definition) (ts : List Tm) (s : Shape) (a : Ty) → AllOver ds ts → shape_made ts s ≡ Some a → IsTyOver (signature_of ds) a
shape_over ds ts Boolean a h e = subst (IsTyOver (signature_of ds)) (some_is bool_ty a e) (bool_over ds)
shape_over ds ts Alpha a h e = subst (IsTyOver (signature_of ds)) (some_is alpha a e) (alpha_over ds)
shape_over ds ts (Of i) a h e =
    on_some (slice_get ts i) (λ t. Some (tm_type t)) a (IsTyOver (signature_of ds) a)
    (λ t p q. subst (IsTyOver (signature_of ds)) (some_is (tm_type t) a q) (type_over ds t (over_at ds ts i t h p))) e
shape_over ds ts (Fun i j) a h e =
    let goal = IsTyOver (signature_of ds) a in
    on_some (slice_get ts i) (λ s. on (slice_get ts j) (λ t. Some (fun_ty (tm_type s) (tm_type t)))) a goal
    (λ s p q. on_some (slice_get ts j) (λ t. Some (fun_ty (tm_type s) (tm_type t))) a goal
    (λ t r u. subst (IsTyOver (signature_of ds)) (some_is (fun_ty (tm_type s) (tm_type t)) a u)
    (fun_over ds (tm_type s) (tm_type t) (type_over ds s (over_at ds ts i s h p)) (type_over ds t (over_at ds ts j t h r)))) q) e

pub var_over : (ds : List Definition) (ts : List Tm) (s : Shape) (l : Letter) (a : Ty) (t : Tm) → AllOver ds ts → shape_made ts s ≡ Some a → t ≡ tm_free (record { name = letter_name l; ty = a })
    → IsOver (signature_of ds) [] t
var_over ds ts s l a t h e d = subst (IsOver (signature_of ds) []) (sym d) (letter_is_name l, shape_over ds ts s a h e)

pub apply_over : (ds : List Definition) (f x t : Tm) → IsOver (signature_of ds) [] f → IsOver (signature_of ds) [] x → tm_type f ≡ fun_ty (tm_type x) (range_ty (tm_type f)) → t ≡ tm_comb f x
    → IsOver (signature_of ds) [] t
apply_over ds f x t h g e d = subst (IsOver (signature_of ds) []) (sym d) (h, g, e)

pub lambda_over : (ds : List Definition) (v : FreeVar) (b t : Tm) → IsOver (signature_of ds) [] (tm_free v) → IsOver (signature_of ds) [] b → t ≡ lambda v b → IsOver (signature_of ds) [] t
lambda_over ds v b t h g e = subst (IsOver (signature_of ds) []) (sym e) (h.1, IsOver-bind (signature_of ds) [] v b g)

-- a theorem's conclusion is a formula over the kernel's definitions
pub concl_over : (k : State) (a : Theorem) → Has k a → IsDerivable a.defs a.sequent → IsOver (signature_of k.defs) [] a.sequent.concl
concl_over k a h d = (Proves-typed (moved k a h d.proof)).concl_is.0

pub sides_over : (k : State) (a : Theorem) → Has k a → IsDerivable a.defs a.sequent → IsEq a.sequent.concl
    → IsOver (signature_of k.defs) [] (left_of a.sequent.concl) × IsOver (signature_of k.defs) [] (argument a.sequent.concl)
sides_over k a h d e =
    let s = eq_sides [] (left_of a.sequent.concl) (argument a.sequent.concl) (subst (IsOver (signature_of k.defs) []) e (concl_over k a h d)) in
    (s.0, s.1)

-- pairs put behind others
pub types_push : (s : Signature) (ps : TySubst) (n : Name) (a : Ty) → AreTypesOver s ps → IsTyOver s a → AreTypesOver s (ps ++ (n, a) ∷ [])
types_push s [] n a h o = (o, tt)
types_push s (p ∷ ps) n a h o = (h.0, types_push s ps n a h.1 o)

pub terms_push : (s : Signature) (ps : VarSubst) (v : FreeVar) (t : Tm) → AreOver s ps → IsOver s [] (tm_free v) → IsOver s [] t → AreOver s (ps ++ (v, t) ∷ [])
terms_push s [] v t h o g = (o, g, tt)
terms_push s (p ∷ ps) v t h o g = (h.0, h.1, terms_push s ps v t h.2 o g)
