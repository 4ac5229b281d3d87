-- The characteristic list of a datatype or codatatype command: all the facts that it gives, in their order.
use Rattle.std.specs.Prelude.{Bool, if◌then◌else◌, List, [], ◌++◌, flat_map}
use Rattle.std.specs.List.{list_any}
use Rattle.decl_core.specs.Declaration.{Decl}
use Rattle.decl_core.specs.Statements.{Fact}
use Rattle.decl_core.specs.FreeConstructors.{free_constructor_facts}
use Rattle.decl_core.specs.Functors.{Lives, lives_of}
use Rattle.decl_core.specs.FunctorFacts.{functor_facts}
use Rattle.decl_core.specs.Induction.{induct_facts, coinduct_facts}
use Rattle.decl_core.specs.Recursion.{rec_facts, corec_facts}

abbrev pub has_live : Lives → Decl → Bool
has_live ls d = list_any (λ l. l) (lives_of ls d.name)

-- where ls tells the live parameters of the types of the group as well
abbrev pub shared_facts : Lives → List Decl → List Fact
shared_facts ls ds = flat_map free_constructor_facts ds ++ flat_map (λ d. if has_live ls d then functor_facts ls d else []) ds

abbrev pub datatype_facts : Lives → List Decl → List Fact
datatype_facts ls ds = shared_facts ls ds ++ induct_facts ls ds ++ rec_facts ls ds

abbrev pub codatatype_facts : Lives → List Decl → List Fact
codatatype_facts ls ds = shared_facts ls ds ++ coinduct_facts ls ds ++ corec_facts ls ds
