-- A function and an argument of its domain.
use Rattle.std.specs.Prelude.{◌≡◌}
use Rattle.hol_terms.specs.Tm.{Tm}
use Rattle.hol_terms.specs.Typing.{tm_type, range_ty, fun_ty}

abbrev pub Takes : Tm → Tm → Type 0
Takes f x = tm_type f ≡ fun_ty (tm_type x) (range_ty (tm_type f))
