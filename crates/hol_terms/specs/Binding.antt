-- Binding, opening, instances and the order of terms.
use Rattle.std.specs.Prelude.{ℕ, ◌+◌, List, [], ◌∷◌, map, Bool, false, ◌||◌, nat_eq, if◌then◌else◌}
use Rattle.std.specs.Ordering.{nat_cmp, ordering_then, is_eq}
use Rattle.std.specs.Cmp.Lexicographic.{slice_cmp}
use Rattle.std.specs.declared.cmp.Ordering.{Ordering}
use Rattle.std.specs.declared.cmp.Ordering.TheVariants.{Less, Greater}
use Rattle.hol_terms.specs.Tm.{Tm, tm_index, tm_free, tm_const, tm_comb, tm_abs, FreeVar}
use Rattle.hol_terms.specs.Subst.{name_cmp, ty_cmp, TySubst, ty_subst}

abbrev pub var_cmp : FreeVar → FreeVar → Ordering
var_cmp v w = ordering_then (name_cmp v.name w.name) (ty_cmp v.ty w.ty)

abbrev pub var_eq : FreeVar → FreeVar → Bool
var_eq v w = is_eq (var_cmp v w)

-- the variable v becomes the index that k binders lie before
abbrev pub tm_bind : ℕ → FreeVar → Tm → Tm
tm_bind k v (tm_index i t) = tm_index i t
tm_bind k v (tm_free w) = if var_eq v w then tm_index k w.ty else tm_free w
tm_bind k v (tm_const c ts t) = tm_const c ts t
tm_bind k v (tm_comb f x) = tm_comb (tm_bind k v f) (tm_bind k v x)
tm_bind k v (tm_abs t b) = tm_abs t (tm_bind (k + 1) v b)

abbrev pub tm_open : ℕ → FreeVar → Tm → Tm
tm_open k v (tm_index i t) = if nat_eq i k then tm_free v else tm_index i t
tm_open k v (tm_free w) = tm_free w
tm_open k v (tm_const c ts t) = tm_const c ts t
tm_open k v (tm_comb f x) = tm_comb (tm_open k v f) (tm_open k v x)
tm_open k v (tm_abs t b) = tm_abs t (tm_open (k + 1) v b)

abbrev pub VarSubst : Type 0
VarSubst = List (FreeVar × Tm)

abbrev pub var_lookup : VarSubst → FreeVar → Tm
var_lookup [] w = tm_free w
var_lookup (p ∷ s) w = if var_eq p.0 w then p.1 else var_lookup s w

abbrev pub tm_inst : VarSubst → Tm → Tm
tm_inst s (tm_index i t) = tm_index i t
tm_inst s (tm_free w) = var_lookup s w
tm_inst s (tm_const c ts t) = tm_const c ts t
tm_inst s (tm_comb f x) = tm_comb (tm_inst s f) (tm_inst s x)
tm_inst s (tm_abs t b) = tm_abs t (tm_inst s b)

abbrev pub has_free : FreeVar → Tm → Bool
has_free v (tm_index i t) = false
has_free v (tm_free w) = var_eq v w
has_free v (tm_const c ts t) = false
has_free v (tm_comb f x) = has_free v f || has_free v x
has_free v (tm_abs t b) = has_free v b

-- The order of terms. Between well typed terms with no loose index the types of indices and constants never decide.
abbrev pub tm_cmp : Tm → Tm → Ordering
tm_cmp (tm_index i t) (tm_index j u) = ordering_then (nat_cmp i j) (ty_cmp t u)
tm_cmp (tm_index i t) _ = Less
tm_cmp (tm_free v) (tm_index j u) = Greater
tm_cmp (tm_free v) (tm_free w) = var_cmp v w
tm_cmp (tm_free v) _ = Less
tm_cmp (tm_const c ts t) (tm_index j u) = Greater
tm_cmp (tm_const c ts t) (tm_free w) = Greater
tm_cmp (tm_const c ts t) (tm_const d us u) = ordering_then (name_cmp c d) (ordering_then (slice_cmp ty_cmp ts us) (ty_cmp t u))
tm_cmp (tm_const c ts t) _ = Less
tm_cmp (tm_comb f x) (tm_comb g y) = ordering_then (tm_cmp f g) (tm_cmp x y)
tm_cmp (tm_comb f x) (tm_abs t b) = Less
tm_cmp (tm_comb f x) _ = Greater
tm_cmp (tm_abs t b) (tm_abs u d) = ordering_then (ty_cmp t u) (tm_cmp b d)
tm_cmp (tm_abs t b) _ = Greater

-- types put for type variables in a term, all at once
abbrev pub tm_ty_subst : TySubst → Tm → Tm
tm_ty_subst s (tm_index i t) = tm_index i (ty_subst s t)
tm_ty_subst s (tm_free v) = tm_free (record { name = v.name; ty = ty_subst s v.ty })
tm_ty_subst s (tm_const c ts t) = tm_const c (map (ty_subst s) ts) (ty_subst s t)
tm_ty_subst s (tm_comb f x) = tm_comb (tm_ty_subst s f) (tm_ty_subst s x)
tm_ty_subst s (tm_abs t b) = tm_abs (ty_subst s t) (tm_ty_subst s b)
