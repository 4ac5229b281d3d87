-- The orders of types and terms are total, and only equal ones tie.
use Rattle.std.proofs.Common.{◌≡◌, ℕ, arith, refl, ap, sym, ◌∙◌, subst}
use Rattle.std.specs.Ordering.{ordering_then, ordering_reverse, nat_cmp}
use Rattle.std.specs.declared.cmp.Ordering.{Ordering}
use Rattle.std.specs.declared.cmp.Ordering.TheVariants.{Less, Equal, Greater}
use Rattle.std.specs.Cmp.{IsTotalOrder, nat_cmp_total}
use Rattle.std.specs.Cmp.Lexicographic.{slice_cmp, nat_list_cmp_total, lists_total}
use Rattle.std.specs.FinMap.{IsAntisymmetric, nat_cmp-IsAntisymmetric, slice_cmp-IsAntisymmetric}
use Rattle.hol_terms.specs.Name.{Name}
use Rattle.hol_terms.specs.Ty.{Ty, ty_var, ty_app, Tys, no_tys, more_tys}
use Rattle.hol_terms.specs.Tm.{Tm, tm_index, tm_free, tm_const, tm_comb, tm_abs, FreeVar}
use Rattle.hol_terms.specs.Subst.{name_cmp, ty_cmp, tys_cmp}
use Rattle.hol_terms.specs.Binding.{var_cmp, tm_cmp}
use Rattle.hol_terms.proofs.Order.{both_tie, name_cmp-same, ty_cmp-same}

-- the answers at x and y, at y and z, and at x and z
record Fits (p q r : Ordering) : Type 0 where
  less : p ≡ Less → q ≡ Less → r ≡ Less
  left : p ≡ Equal → r ≡ q
  right : q ≡ Equal → r ≡ p

then_fits : (p q r s t u : Ordering) → Fits p q r → Fits s t u → Fits (ordering_then p s) (ordering_then q t) (ordering_then r u)
then_fits Less Less r s t u a b = let e = ap (λ o. ordering_then o u) (a.less refl refl) in record { less = λ h g. e; left = λ h. cc; right = λ h. cc }
then_fits Less Equal r s t u a b = let e = ap (λ o. ordering_then o u) (a.right refl) in record { less = λ h g. e; left = λ h. cc; right = λ h. e }
then_fits Less Greater r s t u a b = record { less = λ h g. cc; left = λ h. cc; right = λ h. cc }
then_fits Equal Less r s t u a b = let e = ap (λ o. ordering_then o u) (a.left refl) in record { less = λ h g. e; left = λ h. e; right = λ h. cc }
then_fits Equal Equal r s t u a b = subst (λ o. Fits s t (ordering_then o u)) (sym (a.left refl)) b
then_fits Equal Greater r s t u a b = let e = ap (λ o. ordering_then o u) (a.left refl) in record { less = λ h g. cc; left = λ h. e; right = λ h. cc }
then_fits Greater Less r s t u a b = record { less = λ h g. cc; left = λ h. cc; right = λ h. cc }
then_fits Greater Equal r s t u a b = let e = ap (λ o. ordering_then o u) (a.right refl) in record { less = λ h g. cc; left = λ h. cc; right = λ h. e }
then_fits Greater Greater r s t u a b = record { less = λ h g. cc; left = λ h. cc; right = λ h. cc }

-- where a kind decides
below_right : (p : Ordering) → Fits p Less Less
below_right p = record { less = λ h g. refl; left = λ h. refl; right = λ h. cc }

below_left : (q : Ordering) → Fits Less q Less
below_left q = record { less = λ h g. refl; left = λ h. cc; right = λ h. refl }

above_left : (q : Ordering) → Fits Greater q Greater
above_left q = record { less = λ h g. cc; left = λ h. cc; right = λ h. refl }

above_right : (p : Ordering) → Fits p Greater Greater
above_right p = record { less = λ h g. cc; left = λ h. refl; right = λ h. cc }

hill : (r : Ordering) → Fits Less Greater r
hill r = record { less = λ h g. cc; left = λ h. cc; right = λ h. cc }

valley : (r : Ordering) → Fits Greater Less r
valley r = record { less = λ h g. cc; left = λ h. cc; right = λ h. cc }

fits_from : {K : Type 0} (R : K → K → Ordering) → IsTotalOrder R → IsAntisymmetric R → (x y z : K) → Fits (R x y) (R y z) (R x z)
fits_from R total same x y z =
    record { less = total.trans x y z; left = total.congr x y z; right = λ h. ap (λ t. R x t) (sym (same y z h)) }

total_from : {K : Type 0} (R : K → K → Ordering) → ((x y : K) → R x y ≡ ordering_reverse (R y x)) → ((x y z : K) → Fits (R x y) (R y z) (R x z)) → IsTotalOrder R
total_from R turn fits = record { antisymm = turn; trans = λ x y z. (fits x y z).less; congr = λ x y z. (fits x y z).left }

then_turn : (p q : Ordering) → ordering_reverse (ordering_then p q) ≡ ordering_then (ordering_reverse p) (ordering_reverse q)
then_turn Less q = refl
then_turn Equal q = refl
then_turn Greater q = refl

then_turned : (p q s t : Ordering) → p ≡ ordering_reverse q → s ≡ ordering_reverse t → ordering_then p s ≡ ordering_reverse (ordering_then q t)
then_turned p q s t e f = (λ i. ordering_then (e i) (f i)) ∙ sym (then_turn q t)

mutual
  ty_turn : (x y : Ty) → ty_cmp x y ≡ ordering_reverse (ty_cmp y x)
  ty_turn (ty_var a) (ty_var b) = nat_list_cmp_total.antisymm a b
  ty_turn (ty_var a) (ty_app b us) = refl
  ty_turn (ty_app a ts) (ty_var b) = refl
  ty_turn (ty_app a ts) (ty_app b us) = then_turned _ _ _ _ (nat_list_cmp_total.antisymm a b) (tys_turn ts us)

  tys_turn : (x y : Tys) → tys_cmp x y ≡ ordering_reverse (tys_cmp y x)
  tys_turn no_tys no_tys = refl
  tys_turn no_tys (more_tys u us) = refl
  tys_turn (more_tys t ts) no_tys = refl
  tys_turn (more_tys t ts) (more_tys u us) = then_turned _ _ _ _ (ty_turn t u) (tys_turn ts us)

mutual
  ty_fits : (x y z : Ty) → Fits (ty_cmp x y) (ty_cmp y z) (ty_cmp x z)
  ty_fits (ty_var a) (ty_var b) (ty_var c) = fits_from name_cmp nat_list_cmp_total name_cmp-same a b c
  ty_fits (ty_app a ts) (ty_app b us) (ty_app c vs) =
      then_fits (name_cmp a b) (name_cmp b c) (name_cmp a c) _ _ _ (fits_from name_cmp nat_list_cmp_total name_cmp-same a b c) (tys_fits ts us vs)
  ty_fits (ty_var a) (ty_var b) (ty_app c vs) = below_right _
  ty_fits (ty_var a) (ty_app b us) (ty_var c) = hill _
  ty_fits (ty_var a) (ty_app b us) (ty_app c vs) = below_left _
  ty_fits (ty_app a ts) (ty_var b) (ty_var c) = above_left _
  ty_fits (ty_app a ts) (ty_var b) (ty_app c vs) = valley _
  ty_fits (ty_app a ts) (ty_app b us) (ty_var c) = above_right _

  tys_fits : (x y z : Tys) → Fits (tys_cmp x y) (tys_cmp y z) (tys_cmp x z)
  tys_fits (more_tys t ts) (more_tys u us) (more_tys v vs) =
      then_fits (ty_cmp t u) (ty_cmp u v) (ty_cmp t v) _ _ _ (ty_fits t u v) (tys_fits ts us vs)
  tys_fits no_tys no_tys no_tys = record { less = λ h g. cc; left = λ h. refl; right = λ h. refl }
  tys_fits no_tys no_tys (more_tys v vs) = below_right _
  tys_fits no_tys (more_tys u us) no_tys = hill _
  tys_fits no_tys (more_tys u us) (more_tys v vs) = below_left _
  tys_fits (more_tys t ts) no_tys no_tys = above_left _
  tys_fits (more_tys t ts) no_tys (more_tys v vs) = valley _
  tys_fits (more_tys t ts) (more_tys u us) no_tys = above_right _

pub ty_cmp_total : IsTotalOrder ty_cmp
ty_cmp_total = total_from ty_cmp ty_turn ty_fits

var_cmp-same : (v w : FreeVar) → var_cmp v w ≡ Equal → v ≡ w
var_cmp-same v w e =
    let p = both_tie (name_cmp v.name w.name) (ty_cmp v.ty w.ty) e in
    λ i. record { name = name_cmp-same v.name w.name p.0 i; ty = ty_cmp-same v.ty w.ty p.1 i }

pub tm_cmp-same : (s t : Tm) → tm_cmp s t ≡ Equal → s ≡ t
tm_cmp-same (tm_index i t) (tm_index j u) e =
    let p = both_tie (nat_cmp i j) (ty_cmp t u) e in λ k. tm_index (nat_cmp-IsAntisymmetric i j p.0 k) (ty_cmp-same t u p.1 k)
tm_cmp-same (tm_free v) (tm_free w) e = ap tm_free (var_cmp-same v w e)
tm_cmp-same (tm_const c ts t) (tm_const d us u) e =
    let p = both_tie (name_cmp c d) (ordering_then (slice_cmp ty_cmp ts us) (ty_cmp t u)) e in
    let q = both_tie (slice_cmp ty_cmp ts us) (ty_cmp t u) p.1 in
    λ k. tm_const (name_cmp-same c d p.0 k) (slice_cmp-IsAntisymmetric ty_cmp-same ts us q.0 k) (ty_cmp-same t u q.1 k)
tm_cmp-same (tm_comb f x) (tm_comb g y) e =
    let p = both_tie (tm_cmp f g) (tm_cmp x y) e in λ k. tm_comb (tm_cmp-same f g p.0 k) (tm_cmp-same x y p.1 k)
tm_cmp-same (tm_abs t b) (tm_abs u d) e =
    let p = both_tie (ty_cmp t u) (tm_cmp b d) e in λ k. tm_abs (ty_cmp-same t u p.0 k) (tm_cmp-same b d p.1 k)
tm_cmp-same _ _ e = cc

tm_turn : (s t : Tm) → tm_cmp s t ≡ ordering_reverse (tm_cmp t s)
tm_turn (tm_index i t) (tm_index j u) = then_turned _ _ _ _ (nat_cmp_total.antisymm i j) (ty_turn t u)
tm_turn (tm_free v) (tm_free w) = then_turned _ _ _ _ (nat_list_cmp_total.antisymm v.name w.name) (ty_turn v.ty w.ty)
tm_turn (tm_const c ts t) (tm_const d us u) =
    then_turned _ _ _ _ (nat_list_cmp_total.antisymm c d) (then_turned _ _ _ _ ((lists_total ty_cmp_total).antisymm ts us) (ty_turn t u))
tm_turn (tm_comb f x) (tm_comb g y) = then_turned _ _ _ _ (tm_turn f g) (tm_turn x y)
tm_turn (tm_abs t b) (tm_abs u d) = then_turned _ _ _ _ (ty_turn t u) (tm_turn b d)
tm_turn _ _ = refl

name_fits : (a b c : Name) → Fits (name_cmp a b) (name_cmp b c) (name_cmp a c)
name_fits = fits_from name_cmp nat_list_cmp_total name_cmp-same

kind : Tm → ℕ
kind (tm_index i t) = 0
kind (tm_free v) = 1
kind (tm_const c ts t) = 2
kind (tm_comb f x) = 3
kind (tm_abs t b) = 4

by_kind : (s t : Tm) → tm_cmp s t ≡ ordering_then (nat_cmp (kind s) (kind t)) (tm_cmp s t)
unfolding kind
by_kind (tm_index i t) (tm_index j u) = refl
by_kind (tm_free v) (tm_free w) = refl
by_kind (tm_const c ts t) (tm_const d us u) = refl
by_kind (tm_comb f x) (tm_comb g y) = refl
by_kind (tm_abs t b) (tm_abs u d) = refl
by_kind _ _ = refl

-- as `then_fits`, where the second answers count only if the first are ties
then_fits_tied : (p q r s t u : Ordering) → Fits p q r → (p ≡ Equal → q ≡ Equal → Fits s t u) → Fits (ordering_then p s) (ordering_then q t) (ordering_then r u)
then_fits_tied Less Less r s t u a b = let e = ap (λ o. ordering_then o u) (a.less refl refl) in record { less = λ h g. e; left = λ h. cc; right = λ h. cc }
then_fits_tied Less Equal r s t u a b = let e = ap (λ o. ordering_then o u) (a.right refl) in record { less = λ h g. e; left = λ h. cc; right = λ h. e }
then_fits_tied Less Greater r s t u a b = hill _
then_fits_tied Equal Less r s t u a b = let e = ap (λ o. ordering_then o u) (a.left refl) in record { less = λ h g. e; left = λ h. e; right = λ h. cc }
then_fits_tied Equal Equal r s t u a b = subst (λ o. Fits s t (ordering_then o u)) (sym (a.left refl)) (b refl refl)
then_fits_tied Equal Greater r s t u a b = let e = ap (λ o. ordering_then o u) (a.left refl) in record { less = λ h g. cc; left = λ h. e; right = λ h. cc }
then_fits_tied Greater Less r s t u a b = valley _
then_fits_tied Greater Equal r s t u a b = let e = ap (λ o. ordering_then o u) (a.right refl) in record { less = λ h g. cc; left = λ h. cc; right = λ h. e }
then_fits_tied Greater Greater r s t u a b = record { less = λ h g. cc; left = λ h. cc; right = λ h. cc }

any_kinds : (s t u : Tm) → (kind s ≡ kind t → kind t ≡ kind u → Fits (tm_cmp s t) (tm_cmp t u) (tm_cmp s u)) → Fits (tm_cmp s t) (tm_cmp t u) (tm_cmp s u)
any_kinds s t u h =
    let f : Fits (ordering_then (nat_cmp (kind s) (kind t)) (tm_cmp s t)) (ordering_then (nat_cmp (kind t) (kind u)) (tm_cmp t u)) (ordering_then (nat_cmp (kind s) (kind u)) (tm_cmp s u)) =
    then_fits_tied (nat_cmp (kind s) (kind t)) (nat_cmp (kind t) (kind u)) (nat_cmp (kind s) (kind u)) _ _ _
    (fits_from nat_cmp nat_cmp_total nat_cmp-IsAntisymmetric (kind s) (kind t) (kind u))
    (λ e g. h (nat_cmp-IsAntisymmetric (kind s) (kind t) e) (nat_cmp-IsAntisymmetric (kind t) (kind u) g)) in
    subst (λ o. Fits o (tm_cmp t u) (tm_cmp s u)) (sym (by_kind s t))
    (subst (λ o. Fits (ordering_then (nat_cmp (kind s) (kind t)) (tm_cmp s t)) o (tm_cmp s u)) (sym (by_kind t u))
    (subst (λ o. Fits (ordering_then (nat_cmp (kind s) (kind t)) (tm_cmp s t)) (ordering_then (nat_cmp (kind t) (kind u)) (tm_cmp t u)) o) (sym (by_kind s u)) f))

tm_fits_same : (s t u : Tm) → kind s ≡ kind t → kind t ≡ kind u → Fits (tm_cmp s t) (tm_cmp t u) (tm_cmp s u)
unfolding kind
tm_fits_same (tm_index i a) (tm_index j b) (tm_index k c) l r =
    then_fits (nat_cmp i j) (nat_cmp j k) (nat_cmp i k) _ _ _ (fits_from nat_cmp nat_cmp_total nat_cmp-IsAntisymmetric i j k) (ty_fits a b c)
tm_fits_same (tm_free v) (tm_free w) (tm_free x) l r =
    then_fits (name_cmp v.name w.name) (name_cmp w.name x.name) (name_cmp v.name x.name) _ _ _ (name_fits v.name w.name x.name) (ty_fits v.ty w.ty x.ty)
tm_fits_same (tm_const c ts a) (tm_const d us b) (tm_const e vs f) l r =
    then_fits (name_cmp c d) (name_cmp d e) (name_cmp c e) _ _ _ (name_fits c d e)
    (then_fits (slice_cmp ty_cmp ts us) (slice_cmp ty_cmp us vs) (slice_cmp ty_cmp ts vs) _ _ _
    (fits_from (slice_cmp ty_cmp) (lists_total ty_cmp_total) (slice_cmp-IsAntisymmetric ty_cmp-same) ts us vs) (ty_fits a b f))
tm_fits_same (tm_comb f x) (tm_comb g y) (tm_comb h z) l r =
    then_fits (tm_cmp f g) (tm_cmp g h) (tm_cmp f h) _ _ _ (any_kinds f g h (tm_fits_same f g h)) (any_kinds x y z (tm_fits_same x y z))
tm_fits_same (tm_abs t b) (tm_abs u d) (tm_abs v e) l r =
    then_fits (ty_cmp t u) (ty_cmp u v) (ty_cmp t v) _ _ _ (ty_fits t u v) (any_kinds b d e (tm_fits_same b d e))
tm_fits_same _ _ _ l r = absurd (omega arith)

tm_fits : (s t u : Tm) → Fits (tm_cmp s t) (tm_cmp t u) (tm_cmp s u)
tm_fits s t u = any_kinds s t u (tm_fits_same s t u)

pub tm_cmp_total : IsTotalOrder tm_cmp
tm_cmp_total = total_from tm_cmp tm_turn tm_fits
