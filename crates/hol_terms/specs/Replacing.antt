-- A closed term in place of the topmost subterms that are equal to another, or in place of the subterm at a path.
use Rattle.std.specs.Prelude.{◌≡◌, ℕ, zero, suc, Bool, true, false, ◌||◌, List, [], ◌∷◌, Option, Some, None}
use Rattle.hol_terms.specs.Typing.{tm_type}
use Rattle.hol_terms.specs.Tm.{Tm, tm_index, tm_free, tm_const, tm_comb, tm_abs}
use Rattle.hol_terms.specs.Rules.{same}

-- the term, where it is from; else what stands there
abbrev pub either : Bool → Tm → Tm → Tm
either true to t = to
either false to t = t

-- each topmost subterm that is `from` becomes `to`
abbrev pub replaced : Tm → Tm → Tm → Tm
replaced from to (tm_index i t) = either (same (tm_index i t) from) to (tm_index i t)
replaced from to (tm_free v) = either (same (tm_free v) from) to (tm_free v)
replaced from to (tm_const c ts t) = either (same (tm_const c ts t) from) to (tm_const c ts t)
replaced from to (tm_comb f x) = either (same (tm_comb f x) from) to (tm_comb (replaced from to f) (replaced from to x))
replaced from to (tm_abs t b) = either (same (tm_abs t b) from) to (tm_abs t (replaced from to b))

-- the term is a subterm, or the whole
abbrev pub has_subterm : Tm → Tm → Bool
has_subterm from (tm_index i t) = same (tm_index i t) from
has_subterm from (tm_free v) = same (tm_free v) from
has_subterm from (tm_const c ts t) = same (tm_const c ts t) from
has_subterm from (tm_comb f x) = same (tm_comb f x) from || (has_subterm from f || has_subterm from x)
has_subterm from (tm_abs t b) = same (tm_abs t b) from || has_subterm from b

-- The subterm at a path. A step is 0 for the function of an application or the body of an abstraction, 1 for the argument.
abbrev pub subterm_at : List ℕ → Tm → Option Tm
subterm_at [] t = Some t
subterm_at (n ∷ path) (tm_index i t) = None
subterm_at (n ∷ path) (tm_free v) = None
subterm_at (n ∷ path) (tm_const c ts t) = None
subterm_at (zero ∷ path) (tm_comb f x) = subterm_at path f
subterm_at (suc zero ∷ path) (tm_comb f x) = subterm_at path x
subterm_at (suc (suc n) ∷ path) (tm_comb f x) = None
subterm_at (zero ∷ path) (tm_abs t b) = subterm_at path b
subterm_at (suc n ∷ path) (tm_abs t b) = None

-- the subterm at the path becomes `to`
abbrev pub replaced_at : List ℕ → Tm → Tm → Tm
replaced_at [] to t = to
replaced_at (n ∷ path) to (tm_index i t) = tm_index i t
replaced_at (n ∷ path) to (tm_free v) = tm_free v
replaced_at (n ∷ path) to (tm_const c ts t) = tm_const c ts t
replaced_at (zero ∷ path) to (tm_comb f x) = tm_comb (replaced_at path to f) x
replaced_at (suc n ∷ path) to (tm_comb f x) = tm_comb f (replaced_at path to x)
replaced_at (n ∷ path) to (tm_abs t b) = tm_abs t (replaced_at path to b)

-- there is a subterm at the path, and the term has its type
pub record FitsAt (path : List ℕ) (to t : Tm) : Type 0 where
  pub there : Tm
  pub is : subterm_at path t ≡ Some there
  pub typed : tm_type there ≡ tm_type to
