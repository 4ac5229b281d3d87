-- What tables that grew still have.
use Rattle.std.proofs.Common.{◌≡◌, List, [], ◌∷◌, ◌++◌, refl, sym, ap, ◌∙◌}
use Rattle.hol_terms.specs.Tm.{Tm, tm_free}
use Rattle.flat_terms.specs.declared.nodes.NameId.{NameId}
use Rattle.flat_terms.specs.declared.nodes.TypeId.{TypeId}
use Rattle.flat_terms.specs.declared.nodes.TermId.{TermId}
use Rattle.flat_terms.specs.Plain.{PlainTables, HasName, HasType, HasTerm, name_of, type_of, term_of}
use Rattle.flat_walks.specs.Walk.{var_of, IsVariable}
use Rattle.flat_instances.specs.Types.{HasTypePairs, type_pairs}
use Rattle.flat_instances.specs.Terms.{term_pairs}
use Rattle.flat_instances.specs.TablesGrow.{TablesGrow}
use Rattle.flat_lines.specs.Operands.{HasPairs}

pub variable_there : (t u : PlainTables) (v : TermId) → TablesGrow t u → IsVariable t v → IsVariable u v
variable_there t u v g h = let e = g.same_term v h.0 in (g.has_term v h.0, e ∙ h.1 ∙ ap (λ (x : Tm). tm_free (var_of x)) (sym e))

pub same_variable : (t u : PlainTables) (v : TermId) → TablesGrow t u → IsVariable t v → var_of (term_of u v) ≡ var_of (term_of t v)
same_variable t u v g h = ap var_of (g.same_term v h.0)

pub type_pairs_there : (t u : PlainTables) (ps : List (NameId × TypeId)) → TablesGrow t u → HasTypePairs t ps → HasTypePairs u ps
type_pairs_there t u [] g h = tt
type_pairs_there t u (p ∷ ps) g h = (g.has_name p.0 h.0, g.has_type p.1 h.1, type_pairs_there t u ps g h.2)

pub same_type_pairs : (t u : PlainTables) (ps : List (NameId × TypeId)) → TablesGrow t u → HasTypePairs t ps → type_pairs u ps ≡ type_pairs t ps
same_type_pairs t u [] g h = refl
same_type_pairs t u (p ∷ ps) g h = λ i. (g.same_name p.0 h.0 i, g.same_type p.1 h.1 i) ∷ same_type_pairs t u ps g h.2 i

pub pairs_there : (t u : PlainTables) (ps : List (TermId × TermId)) → TablesGrow t u → HasPairs t ps → HasPairs u ps
pairs_there t u [] g h = tt
pairs_there t u (p ∷ ps) g h = (variable_there t u p.0 g h.0, g.has_term p.1 h.1, pairs_there t u ps g h.2)

pub same_pairs : (t u : PlainTables) (ps : List (TermId × TermId)) → TablesGrow t u → HasPairs t ps → term_pairs u ps ≡ term_pairs t ps
same_pairs t u [] g h = refl
same_pairs t u (p ∷ ps) g h = λ i. (same_variable t u p.0 g h.0 i, g.same_term p.1 h.1 i) ∷ same_pairs t u ps g h.2 i

-- ---- one more pair

pub more_type_pairs : (t : PlainTables) (ps : List (NameId × TypeId)) (p : NameId × TypeId) → HasTypePairs t ps → HasName t p.0 → HasType t p.1 → HasTypePairs t (ps ++ p ∷ [])
more_type_pairs t [] p h n y = (n, y, tt)
more_type_pairs t (q ∷ ps) p h n y = (h.0, h.1, more_type_pairs t ps p h.2 n y)

pub type_pairs_append : (t : PlainTables) (ps : List (NameId × TypeId)) (p : NameId × TypeId) → type_pairs t (ps ++ p ∷ []) ≡ type_pairs t ps ++ (name_of t p.0, type_of t p.1) ∷ []
type_pairs_append t [] p = refl
type_pairs_append t (q ∷ ps) p = ap (λ x. (name_of t q.0, type_of t q.1) ∷ x) (type_pairs_append t ps p)

pub more_pairs : (t : PlainTables) (ps : List (TermId × TermId)) (p : TermId × TermId) → HasPairs t ps → IsVariable t p.0 → HasTerm t p.1 → HasPairs t (ps ++ p ∷ [])
more_pairs t [] p h n y = (n, y, tt)
more_pairs t (q ∷ ps) p h n y = (h.0, h.1, more_pairs t ps p h.2 n y)

pub pairs_append : (t : PlainTables) (ps : List (TermId × TermId)) (p : TermId × TermId) → term_pairs t (ps ++ p ∷ []) ≡ term_pairs t ps ++ (var_of (term_of t p.0), term_of t p.1) ∷ []
pairs_append t [] p = refl
pairs_append t (q ∷ ps) p = ap (λ x. (var_of (term_of t q.0), term_of t q.1) ∷ x) (pairs_append t ps p)
