-- What the terms of the tests are made with.
use Rattle.std.proofs.Common.{ℕ, ◌+◌, Bool, true, false, cond, arith}
use Rattle.hol_terms.specs.Tm.{Tm, tm_index, tm_free, tm_const, tm_comb, tm_abs, FreeVar}
use Rattle.hol_terms.specs.Binding.{tm_bind, var_eq}
use Rattle.hol_terms.specs.Loose.{IsClosedAt}
use Rattle.hol_terms.proofs.KeptTypes.{tm_type-bind}
use Rattle.hol_terms.proofs.LooseLemmas.{HasAt-bound}

IsClosedAt-bind : (k : ℕ) (v : FreeVar) (t : Tm) → IsClosedAt k t → IsClosedAt (k + 1) (tm_bind k v t)
IsClosedAt-bind k v (tm_index i t) h = omega arith
IsClosedAt-bind k v (tm_free w) h = at (var_eq v w)
  where
    at : (b : Bool) → IsClosedAt (k + 1) (cond b (tm_index k w.ty) (tm_free w))
    at true = omega arith
    at false = tt
IsClosedAt-bind k v (tm_const c ts t) h = tt
IsClosedAt-bind k v (tm_comb f x) h = (IsClosedAt-bind k v f h.0, IsClosedAt-bind k v x h.1)
IsClosedAt-bind k v (tm_abs t b) h = IsClosedAt-bind (k + 1) v b h

-- the body of a binder, once its variable is bound
pub IsClosedAt-bound : (v : FreeVar) (t : Tm) → IsClosedAt 0 t → IsClosedAt 1 (tm_bind 0 v t)
IsClosedAt-bound v t h = IsClosedAt-bind 0 v t h

pub ruleset quantified_lemmas = (tm_type-bind, HasAt-bound, IsClosedAt-bound)
