use Rattle.std.proofs.Common.{◌≡◌, map, take}
use Rattle.hol_terms.specs.Typing.{tm_type}
use Rattle.decl_facts.proofs.terms.types_of.Given as goal

abbrev pub invariant-loop-term : goal.invariant-loop-term
invariant-loop-term l = l.types.items ≡ map tm_type (take l.term-index l.terms)
