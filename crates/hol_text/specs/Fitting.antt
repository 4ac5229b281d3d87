-- What the reader asks of types, and what holds of the terms that it makes.
use Rattle.std.specs.Prelude.{Bool, false, List, [], ◌∷◌}
use Rattle.std.specs.Ordering.{is_eq}
use Rattle.hol_terms.specs.Ty.{Ty}
use Rattle.hol_terms.specs.Tm.{Tm}
use Rattle.hol_terms.specs.Subst.{ty_cmp}
use Rattle.hol_terms.specs.Loose.{IsClosedAt}
use Rattle.hol_terms.specs.Meaning.{Meaning, means, fault}

-- there are two types, the first of which is d
abbrev pub first_of_two : List Ty → Ty → Bool
first_of_two (a ∷ b ∷ []) d = is_eq (ty_cmp a d)
first_of_two ts d = false

-- a term has no loose index
abbrev pub IsClosedMeaning : Meaning Tm → Type 0
IsClosedMeaning (means t) = IsClosedAt 0 t
IsClosedMeaning (fault e) = Unit {0}
