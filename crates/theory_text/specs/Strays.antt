-- Where a definition is not conservative.
use Rattle.std.specs.Prelude.{◌≡◌, false, Contains}
use Rattle.hol_terms.specs.Typing.{tm_type}
use Rattle.hol_terms.specs.TyVars.{occurs}
use Rattle.hol_terms.specs.Text.{Text}
use Rattle.hol_terms.specs.Tokens.{a_variable, token, tokens}
use Rattle.theory_text.specs.Command.{Define}

-- at its place in the text stands a type variable that the type of the definition has not
pub record HasStray (t : Text) (d : Define) : Type 0 where
  pub there : Contains (tokens t) (token a_variable d.stray d.stray_place)
  pub lacking : occurs d.stray (tm_type d.body) ≡ false
