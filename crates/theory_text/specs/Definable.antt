-- What holds of a definition that a text states.
use Rattle.std.specs.Prelude.{◌≡◌, ◌⊎◌, true, false, [], bytes_eq, codes}
use Rattle.hol_terms.specs.Name.{is_segment}
use Rattle.hol_terms.specs.Signature.{Signature, IsOver, may_introduce}
use Rattle.hol_terms.specs.Definition.{has_frees}
use Rattle.theory_text.specs.Command.{Define}

-- its name may be introduced and isn't `0`, and its term is well typed over the signature and has no free variables; what stands as
-- a type variable in the text may be called so
pub record IsDefinable (s : Signature) (d : Define) : Type 0 where
  pub named : may_introduce s d.name ≡ true
  pub no_number : bytes_eq d.name (codes "0") ≡ false
  pub typed : IsOver s [] d.body
  pub closed : has_frees d.body ≡ false
  pub stray : (d.stray ≡ []) ⊎ (is_segment d.stray ≡ true)
