-- Terms without the types beside indices and constants.
use Rattle.std.specs.Prelude.{ℕ, List}
use Rattle.hol_terms.specs.Name.{Name}
use Rattle.hol_terms.specs.Ty.{Ty}
use Rattle.hol_terms.specs.Tm.{Tm, tm_index, tm_free, tm_const, tm_comb, tm_abs, FreeVar}

pub data Plain : Type 0 where
  plain_index : ℕ → Plain
  plain_free : FreeVar → Plain
  plain_const : Name → List Ty → Plain
  plain_comb : Plain → Plain → Plain
  plain_abs : Ty → Plain → Plain

abbrev pub plain : Tm → Plain
plain (tm_index i t) = plain_index i
plain (tm_free v) = plain_free v
plain (tm_const c ts t) = plain_const c ts
plain (tm_comb f x) = plain_comb (plain f) (plain x)
plain (tm_abs t b) = plain_abs t (plain b)
