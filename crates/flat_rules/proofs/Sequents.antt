-- Sequents in tables that grew.
use Rattle.std.proofs.Common.{◌≡◌, List, [], ◌∷◌, map, refl}
use Rattle.hol_terms.specs.Sequent.{seq}
use Rattle.flat_terms.specs.Plain.{PlainTables}
use Rattle.flat_instances.specs.TablesGrow.{TablesGrow}
use Rattle.flat_rules.specs.declared.sequent.FlatSequent.{FlatSequent}
use Rattle.flat_rules.specs.Sequents.{sequent_of, HasSequent}
use Rattle.flat_rules.specs.Said.{HasSequents}
use Rattle.flat_rules.proofs.Numbers.{has_later, terms_later}

pub sequent_has_later : (s t : PlainTables) (q : FlatSequent) → TablesGrow s t → HasSequent s q → HasSequent t q
sequent_has_later s t q g h = record { hyps = has_later s t q.hyps.items g h.hyps; concl = g.has_term q.concl h.concl }

pub sequent_later : (s t : PlainTables) (q : FlatSequent) → TablesGrow s t → HasSequent s q → sequent_of t q ≡ sequent_of s q
sequent_later s t q g h = λ j. seq (terms_later s t q.hyps.items g h.hyps j) (g.same_term q.concl h.concl j)

pub sequents_have_later : (s t : PlainTables) (qs : List FlatSequent) → TablesGrow s t → HasSequents s qs → HasSequents t qs
sequents_have_later s t [] g h = tt
sequents_have_later s t (q ∷ qs) g h = (sequent_has_later s t q g h.0, sequents_have_later s t qs g h.1)

pub sequents_later : (s t : PlainTables) (qs : List FlatSequent) → TablesGrow s t → HasSequents s qs → map (sequent_of t) qs ≡ map (sequent_of s) qs
sequents_later s t [] g h = refl
sequents_later s t (q ∷ qs) g h = λ j. sequent_later s t q g h.0 j ∷ sequents_later s t qs g h.1 j
