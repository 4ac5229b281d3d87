-- What a theorem of a new definition says of the definitions before it.
use Rattle.std.proofs.Common.{◌≡◌, List, [], ◌∷◌, ◌++◌, subst}
use Rattle.hol_terms.specs.Definition.{Definition}
use Rattle.hol_terms.specs.Sequent.{Sequent}
use Rattle.hol_terms.specs.Proves.{AreConservativeAfter, AreConservative, IsDerivable}

front : (before ds es : List Definition) → AreConservativeAfter before (ds ++ es) → AreConservativeAfter before ds
front before [] es h = tt
front before (d ∷ ds) es h = (h.0, front (before ++ d ∷ []) ds es h.1)

-- a sequent is derivable over definitions that are conservative, and so are those before the last one
pub conservative_before : (ds es : List Definition) (d : Definition) (a : Sequent) → IsDerivable es a → es ≡ ds ++ d ∷ [] → AreConservative ds
conservative_before ds es d a h e = front [] ds (d ∷ []) (subst AreConservative e h.conservative)
