-- Signatures whose constants have types of the signature.
use Rattle.std.specs.Prelude.{◌≡◌, Some}
use Rattle.hol_terms.specs.Name.{Name}
use Rattle.hol_terms.specs.Ty.{Ty}
use Rattle.hol_terms.specs.Typing.{fun_name}
use Rattle.hol_terms.specs.Signature.{Signature, arity_of, generic_of, IsTyOver}

-- `fun` takes two arguments, and the generic type of each constant is well formed
pub record GivesTypes (s : Signature) : Type 0 where
  pub fun_takes_two : arity_of s fun_name ≡ Some 2
  pub generics : (c : Name) (g : Ty) → generic_of s c ≡ Some g → IsTyOver s g
