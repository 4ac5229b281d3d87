-- Types that are read after others.
use Rattle.std.specs.Prelude.{ℕ, Bool, not, ◌&&◌, ◌==◌, nat_lt, bytes_eq, List, [], ◌∷◌, Option, Some, None}
use Rattle.hol_terms.specs.Name.{Name}
use Rattle.hol_terms.specs.Ty.{Ty, Tys, more_tys}
use Rattle.hol_terms.specs.Typing.{fun_name}
use Rattle.hol_terms.specs.Signature.{Signature}
use Rattle.hol_terms.specs.Text.{Text}
use Rattle.strict_reading.specs.Types.{has_arity}

-- several types stand in parentheses before a name, but for the two of a function type
abbrev pub may_stand_behind : Name → ℕ → Bool
may_stand_behind c k = nat_lt 1 k && not ((k == 2) && bytes_eq c fun_name)

-- the name of a type stands behind the types in parentheses
abbrev pub stands_behind : Signature → Name → ℕ → Bool
stands_behind s c k = may_stand_behind c k && has_arity s c k

abbrev pub in_front : List Ty → Tys → Tys
in_front [] us = us
in_front (t ∷ ts) us = more_tys t (in_front ts us)

-- what was read behind other types, and these before it
abbrev pub with_front : List Ty → Option (Tys × Text) → Option (Tys × Text)
with_front ts None = None
with_front ts (Some p) = Some (in_front ts p.0, p.1)
