use Rattle.std.proofs.Common.{◌≡◌, map, take, string_bytes}
use Rattle.hol_terms.specs.Ty.{ty_var}
use Rattle.decl_core.proofs.declarations.type_variables.Given as goal

abbrev pub invariant-loop-name : goal.invariant-loop-name
invariant-loop-name l = l.vars.items ≡ map ty_var (map string_bytes (take l.name-index l.names))
