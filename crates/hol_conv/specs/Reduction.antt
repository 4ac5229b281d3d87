-- Beta reduction, on terms whose bound variables are indices.
use Rattle.std.specs.Prelude.{ℕ, zero, suc, ◌+◌, ◌-◌, Option, Some, None, nat_eq, nat_lt, if◌then◌else◌}
use Rattle.hol_terms.specs.Ty.{Ty}
use Rattle.hol_terms.specs.Tm.{Tm, tm_index, tm_free, tm_const, tm_comb, tm_abs}
use Rattle.hol_terms.specs.Rules.{is_abstraction}

-- the term below n more binders: each index that points outside goes up by n; those below c point inside
abbrev pub shift : ℕ → ℕ → Tm → Tm
shift n c (tm_index i t) = if nat_lt i c then tm_index i t else tm_index (i + n) t
shift n c (tm_free v) = tm_free v
shift n c (tm_const d ts t) = tm_const d ts t
shift n c (tm_comb f x) = tm_comb (shift n c f) (shift n c x)
shift n c (tm_abs t b) = tm_abs t (shift n (c + 1) b)

-- u for the index that k binders lie before, and one binder less for the indices above it
abbrev pub put : ℕ → Tm → Tm → Tm
put k u (tm_index i t) = if nat_eq i k then shift k 0 u else (if nat_lt i k then tm_index i t else tm_index (i - 1) t)
put k u (tm_free v) = tm_free v
put k u (tm_const d ts t) = tm_const d ts t
put k u (tm_comb f x) = tm_comb (put k u f) (put k u x)
put k u (tm_abs t b) = tm_abs t (put (k + 1) u b)

-- the body of an abstraction with the argument in place of the bound variable
abbrev pub reduct : Tm → Tm → Tm
reduct (tm_abs t b) x = put 0 x b
reduct f x = tm_comb f x

abbrev pub in_either : Tm → Tm → Option Tm → Option Tm → Option Tm
in_either f x (Some g) r = Some (tm_comb g x)
in_either f x None (Some y) = Some (tm_comb f y)
in_either f x None None = None

abbrev pub in_body : Ty → Option Tm → Option Tm
in_body t None = None
in_body t (Some b) = Some (tm_abs t b)

-- the term with its leftmost outermost redex contracted, or none where it has no redex
abbrev pub contracted : Tm → Option Tm
contracted (tm_index i t) = None
contracted (tm_free v) = None
contracted (tm_const c ts t) = None
contracted (tm_comb f x) = if is_abstraction f then Some (reduct f x) else in_either f x (contracted f) (contracted x)
contracted (tm_abs t b) = in_body t (contracted b)

abbrev pub go_on : Tm → Option Tm → (Tm → Tm) → Tm
go_on t None f = t
go_on t (Some u) f = f u

-- the term after so many contractions, or as many as there are redexes to contract
abbrev pub beta_steps : ℕ → Tm → Tm
beta_steps zero t = t
beta_steps (suc n) t = go_on t (contracted t) (beta_steps n)
