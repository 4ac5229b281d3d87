-- Substitution in an instance of a generic type is an instance at the substituted arguments.
use Rattle.std.proofs.Common.{◌≡◌, List, [], ◌∷◌, ◌++◌, length, map, refl, ap, ◌∙◌, arith, Bool, true, false, cond, ◌||◌, bytes_eq}
use Rattle.std.specs.List.{list_any}
use Rattle.std.specs.Ordering.{is_eq}
use Rattle.std.proofs.lemmas.Bool.{or_left, or_right}
use Rattle.hol_terms.specs.Name.{Name}
use Rattle.hol_terms.specs.Ty.{Ty, ty_var, ty_app, Tys, no_tys, more_tys}
use Rattle.hol_terms.specs.Subst.{TySubst, ty_lookup, ty_subst, tys_subst, ty_cmp}
use Rattle.hol_terms.specs.TyVars.{with_var, ty_vars, tys_vars, pairs_of, var_name, instance_at}
use Rattle.hol_terms.proofs.Order.{ty_cmp-same, is_eq-same}
use Rattle.hol_terms.proofs.Tables.{same_bytes}

-- a variable of this name is in the list
abbrev has_name : List Ty → Name → Bool
has_name [] n = false
has_name (v ∷ vs) n = bytes_eq (var_name v) n || has_name vs n

abbrev mutual
  Covers : List Ty → Ty → Type 0
  Covers vs (ty_var n) = has_name vs n ≡ true
  Covers vs (ty_app n ts) = CoverAll vs ts

  CoverAll : List Ty → Tys → Type 0
  CoverAll vs no_tys = Unit {0}
  CoverAll vs (more_tys t ts) = Covers vs t × CoverAll vs ts

or_more : (a b c : Bool) → (b ≡ true → c ≡ true) → (a || b) ≡ true → (a || c) ≡ true
or_more true b c f e = refl
or_more false b c f e = f e

has_name-push : (vs : List Ty) (v : Ty) (n : Name) → has_name vs n ≡ true → has_name (vs ++ v ∷ []) n ≡ true
has_name-push [] v n e = cc
has_name-push (u ∷ vs) v n e = or_more (bytes_eq (var_name u) n) (has_name vs n) (has_name (vs ++ v ∷ []) n) (has_name-push vs v n) e

has_name-last : (vs : List Ty) (n : Name) → bytes_eq n n ≡ true → has_name (vs ++ ty_var n ∷ []) n ≡ true
has_name-last [] n e = or_left (bytes_eq n n) false e
has_name-last (u ∷ vs) n e = or_right (bytes_eq (var_name u) n) _ (has_name-last vs n e)

has_name-any : (vs : List Ty) (n : Name) → bytes_eq n n ≡ true → list_any (λ u. is_eq (ty_cmp u (ty_var n))) vs ≡ true → has_name vs n ≡ true
has_name-any [] n s e = cc
has_name-any (u ∷ vs) n s e = at (has_name-any vs n s) (is_eq (ty_cmp u (ty_var n))) refl e
  where
    at : (list_any (λ u. is_eq (ty_cmp u (ty_var n))) vs ≡ true → has_name vs n ≡ true) → (b : Bool) → is_eq (ty_cmp u (ty_var n)) ≡ b
        → (b || list_any (λ u. is_eq (ty_cmp u (ty_var n))) vs) ≡ true → (bytes_eq (var_name u) n || has_name vs n) ≡ true
    at f true g h = or_left _ _ (ap (λ v. bytes_eq (var_name v) n) (ty_cmp-same u (ty_var n) (is_eq-same _ g)) ∙ s)
    at f false g h = or_right (bytes_eq (var_name u) n) _ (f h)

-- each type's variables are in its list, and the list only grows
with_var-covers : (n : Name) (vs : List Ty) → has_name (with_var (ty_var n) vs) n ≡ true
with_var-covers n vs = at (list_any (λ u. is_eq (ty_cmp u (ty_var n))) vs) refl
  where
    at : (b : Bool) → list_any (λ u. is_eq (ty_cmp u (ty_var n))) vs ≡ b → has_name (cond b vs (vs ++ ty_var n ∷ [])) n ≡ true
    at true e = has_name-any vs n (same_bytes n) e
    at false e = has_name-last vs n (same_bytes n)

with_var-keeps : (m n : Name) (vs : List Ty) → has_name vs n ≡ true → has_name (with_var (ty_var m) vs) n ≡ true
with_var-keeps m n vs h = at (list_any (λ u. is_eq (ty_cmp u (ty_var m))) vs)
  where
    at : (b : Bool) → has_name (cond b vs (vs ++ ty_var m ∷ [])) n ≡ true
    at true = h
    at false = has_name-push vs (ty_var m) n h

mutual
  vars_keep : (t : Ty) (n : Name) (vs : List Ty) → has_name vs n ≡ true → has_name (ty_vars t vs) n ≡ true
  vars_keep (ty_var m) n vs h = with_var-keeps m n vs h
  vars_keep (ty_app m ts) n vs h = all_vars_keep ts n vs h

  all_vars_keep : (ts : Tys) (n : Name) (vs : List Ty) → has_name vs n ≡ true → has_name (tys_vars ts vs) n ≡ true
  all_vars_keep no_tys n vs h = h
  all_vars_keep (more_tys t ts) n vs h = all_vars_keep ts n (ty_vars t vs) (vars_keep t n vs h)

mutual
  covers_more : (u : Ty) (ts : Tys) (vs : List Ty) → Covers vs u → Covers (tys_vars ts vs) u
  covers_more (ty_var n) ts vs h = all_vars_keep ts n vs h
  covers_more (ty_app n us) ts vs h = cover_all_more us ts vs h

  cover_all_more : (us : Tys) (ts : Tys) (vs : List Ty) → CoverAll vs us → CoverAll (tys_vars ts vs) us
  cover_all_more no_tys ts vs h = tt
  cover_all_more (more_tys u us) ts vs h = (covers_more u ts vs h.0, cover_all_more us ts vs h.1)

mutual
  vars_cover : (t : Ty) (vs : List Ty) → Covers (ty_vars t vs) t
  vars_cover (ty_var n) vs = with_var-covers n vs
  vars_cover (ty_app n ts) vs = all_vars_cover ts vs

  all_vars_cover : (ts : Tys) (vs : List Ty) → CoverAll (tys_vars ts vs) ts
  all_vars_cover no_tys vs = tt
  all_vars_cover (more_tys t ts) vs = (covers_more t ts (ty_vars t vs) (vars_cover t vs), all_vars_cover ts (ty_vars t vs))

lookup_map : (s : TySubst) (vs ts : List Ty) (n : Name) → length ts ≡ length vs → has_name vs n ≡ true
    → ty_subst s (ty_lookup (pairs_of vs ts) n) ≡ ty_lookup (pairs_of vs (map (ty_subst s) ts)) n
lookup_map s [] ts n l h = cc
lookup_map s (v ∷ vs) [] n l h = absurd (omega arith)
lookup_map s (v ∷ vs) (t ∷ ts) n l h = at (λ k. lookup_map s vs ts n (omega arith) k) (bytes_eq (var_name v) n) h
  where
    at : (has_name vs n ≡ true → ty_subst s (ty_lookup (pairs_of vs ts) n) ≡ ty_lookup (pairs_of vs (map (ty_subst s) ts)) n) → (b : Bool) → (b || has_name vs n) ≡ true
        → ty_subst s (cond b t (ty_lookup (pairs_of vs ts) n)) ≡ cond b (ty_subst s t) (ty_lookup (pairs_of vs (map (ty_subst s) ts)) n)
    at f true k = refl
    at f false k = f k

mutual
  subst_map : (s : TySubst) (vs ts : List Ty) (t : Ty) → length ts ≡ length vs → Covers vs t
      → ty_subst s (ty_subst (pairs_of vs ts) t) ≡ ty_subst (pairs_of vs (map (ty_subst s) ts)) t
  subst_map s vs ts (ty_var n) l h = lookup_map s vs ts n l h
  subst_map s vs ts (ty_app n us) l h = ap (λ ws. ty_app n ws) (substs_map s vs ts us l h)

  substs_map : (s : TySubst) (vs ts : List Ty) (us : Tys) → length ts ≡ length vs → CoverAll vs us
      → tys_subst s (tys_subst (pairs_of vs ts) us) ≡ tys_subst (pairs_of vs (map (ty_subst s) ts)) us
  substs_map s vs ts no_tys l h = refl
  substs_map s vs ts (more_tys u us) l h = λ i. more_tys (subst_map s vs ts u l h.0 i) (substs_map s vs ts us l h.1 i)

pub instance_subst : (s : TySubst) (g : Ty) (ts : List Ty) → length ts ≡ length (ty_vars g []) → ty_subst s (instance_at g ts) ≡ instance_at g (map (ty_subst s) ts)
instance_subst s g ts l = subst_map s (ty_vars g []) ts g l (vars_cover g [])
