-- Lists of terms that ascend in the term order.
use Rattle.std.specs.Prelude.{◌≡◌, List, [], ◌∷◌}
use Rattle.std.specs.declared.cmp.Ordering.TheVariants.{Less}
use Rattle.hol_terms.specs.Tm.{Tm}
use Rattle.hol_terms.specs.Binding.{tm_cmp}

-- the term is less than the first of them
abbrev pub IsBefore : Tm → List Tm → Type 0
IsBefore t [] = Unit {0}
IsBefore t (u ∷ us) = tm_cmp t u ≡ Less

-- each term is less than the next, so that none stands twice
abbrev pub Ascends : List Tm → Type 0
Ascends [] = Unit {0}
Ascends (t ∷ ts) = IsBefore t ts × Ascends ts
