-- Lists of formulas, made one at a time.
use Rattle.std.proofs.Common.{List, [], ◌∷◌, ◌++◌}
use Rattle.hol_terms.specs.Tm.{Tm}
use Rattle.hol_terms.specs.Loose.{IsClosedAt}
use Rattle.stmt_core.specs.Formulas.{IsBoolean, AreBoolean, HaveNoLoose}

pub AreBoolean-more : (ts : List Tm) (t : Tm) → AreBoolean ts → IsBoolean t → AreBoolean (ts ++ t ∷ [])
AreBoolean-more [] t h k = (k, tt)
AreBoolean-more (s ∷ ss) t h k = (h.0, AreBoolean-more ss t h.1 k)

pub HaveNoLoose-more : (ts : List Tm) (t : Tm) → HaveNoLoose ts → IsClosedAt 0 t → HaveNoLoose (ts ++ t ∷ [])
HaveNoLoose-more [] t h k = (k, tt)
HaveNoLoose-more (s ∷ ss) t h k = (h.0, HaveNoLoose-more ss t h.1 k)

pub ruleset formulas_lemmas = (AreBoolean-more, HaveNoLoose-more)
