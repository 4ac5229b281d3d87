-- The names that a new type introduces.
use Rattle.std.specs.Prelude.{Bool, ◌&&◌}
use Rattle.hol_terms.specs.Name.{Name, dot_abs, dot_rep}
use Rattle.hol_terms.specs.Signature.{Signature, may_introduce}

-- a type may be introduced by a name if that name and those of its two functions may be; `0` may not, since `0.abs` is no name
abbrev pub may_introduce_type : Signature → Name → Bool
may_introduce_type s n = may_introduce s n && may_introduce s (dot_abs n) && may_introduce s (dot_rep n)
