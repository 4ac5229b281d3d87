-- What the statements of one constructor share.
use Rattle.std.specs.Prelude.{◌≡◌}
use Rattle.hol_terms.specs.Name.{Name}
use Rattle.decl_core.specs.Declaration.{Ctor, Decl, arg_types}
use Rattle.decl_core.specs.Statements.{variables, frees}
use Rattle.decl_core.specs.FreeConstructors.{value}
use Rattle.decl_facts.specs.declared.parts.Applied.{Applied}

-- the constructor applied to variables of a letter
pub record IsApplied (d : Decl) (c : Ctor) (letter : Name) (a : Applied) : Type 0 where
  pub vars : a.vars.items ≡ variables letter (arg_types c)
  pub args : a.args.items ≡ frees (variables letter (arg_types c))
  pub value : a.value ≡ value d c (frees (variables letter (arg_types c)))
