-- Well typed terms over one signature are told apart by their plain trees.
use Rattle.std.proofs.Common.{◌≡◌, List, ◌∷◌, Some, ap, sym, ◌∙◌, subst}
use Rattle.std.specs.Prelude.{slice_get}
use Rattle.hol_terms.specs.Name.{Name}
use Rattle.hol_terms.specs.Ty.{Ty}
use Rattle.hol_terms.specs.Tm.{Tm, tm_index, tm_free, tm_const, tm_comb, tm_abs}
use Rattle.hol_terms.specs.TyVars.{instance_at}
use Rattle.hol_terms.specs.Signature.{Signature, IsConstOver, IsOver}
use Rattle.hol_terms.specs.Plain.{plain}

some_is : {A : Type 0} (x y : A) → Some x ≡ Some y → x ≡ y
some_is x y e = cc

const_type : (s : Signature) (c : Name) (ts : List Ty) (t u : Ty) → IsConstOver s c ts t → IsConstOver s c ts u → t ≡ u
const_type s c ts t u a b =
    let g : a.generic ≡ b.generic = some_is a.generic b.generic (sym a.known ∙ b.known) in
    a.instance ∙ ap (λ g. instance_at g ts) g ∙ sym b.instance

-- constants of one name and the same arguments have one type
const_same : (s : Signature) (c d : Name) (ts us : List Ty) (t u : Ty) → c ≡ d → ts ≡ us → IsConstOver s c ts t → IsConstOver s d us u
    → tm_const c ts t ≡ tm_const d us u
const_same s c d ts us t u e f a b =
    let b' : IsConstOver s c ts u = subst (λ n. IsConstOver s n ts u) (sym e) (subst (λ vs. IsConstOver s d vs u) (sym f) b) in
    let g = const_type s c ts t u a b' in
    λ i. tm_const (e i) (f i) (g i)

pub plain-same : (s : Signature) (bound : List Ty) (t u : Tm) → IsOver s bound t → IsOver s bound u → plain t ≡ plain u → t ≡ u
plain-same s bound (tm_index i t) (tm_index j u) a b e =
    let n : i ≡ j = cc in
    let g : t ≡ u = some_is t u (sym a.0 ∙ ap (slice_get bound) n ∙ b.0) in
    λ k. tm_index (n k) (g k)
plain-same s bound (tm_index i t) _ a b e = cc
plain-same s bound (tm_free v) (tm_free w) a b e = cc
plain-same s bound (tm_free v) _ a b e = cc
plain-same s bound (tm_const c ts t) (tm_const d us u) a b e = const_same s c d ts us t u (cc) (cc) a b
plain-same s bound (tm_const c ts t) _ a b e = cc
plain-same s bound (tm_comb f x) (tm_comb g y) a b e =
    let p : f ≡ g = plain-same s bound f g a.0 b.0 (cc) in
    let q : x ≡ y = plain-same s bound x y a.1 b.1 (cc) in
    λ i. tm_comb (p i) (q i)
plain-same s bound (tm_comb f x) _ a b e = cc
plain-same s bound (tm_abs t b) (tm_abs u d) o p e =
    let g : t ≡ u = cc in
    let q : b ≡ d = plain-same s (t ∷ bound) b d o.1 (subst (λ v. IsOver s (v ∷ bound) d) (sym g) p.1) (cc) in
    λ i. tm_abs (g i) (q i)
plain-same s bound (tm_abs t b) _ o p e = cc
