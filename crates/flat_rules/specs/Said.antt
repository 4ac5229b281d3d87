-- What a definition says, over the tables.
use Rattle.std.specs.Prelude.{◌≡◌, List, [], ◌∷◌, map}
use Rattle.hol_terms.specs.Definition.{Definition}
use Rattle.hol_terms.specs.Proves.{sequents_of}
use Rattle.flat_terms.specs.Plain.{PlainTables}
use Rattle.flat_rules.specs.declared.sequent.FlatSequent.{FlatSequent}
use Rattle.flat_rules.specs.Sequents.{sequent_of, HasSequent}

abbrev pub HasSequents : PlainTables → List FlatSequent → Type 0
HasSequents t [] = Unit {0}
HasSequents t (q ∷ qs) = HasSequent t q × HasSequents t qs

-- the sequents stand for those that the definition says
pub record AreSaid (t : PlainTables) (d : Definition) (qs : List FlatSequent) : Type 0 where
  pub has : HasSequents t qs
  pub said : map (sequent_of t) qs ≡ sequents_of d
