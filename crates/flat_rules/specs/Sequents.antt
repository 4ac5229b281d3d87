-- Sequents over the tables: the numbers of their terms, and the plain sequents that they stand for.
use Rattle.std.specs.Prelude.{◌≡◌, List, [], ◌∷◌, map, Option, Some, None}
use Rattle.hol_terms.specs.Tm.{Tm}
use Rattle.hol_terms.specs.Signature.{Signature, IsOver}
use Rattle.hol_terms.specs.Sequent.{Sequent, seq}
use Rattle.flat_terms.specs.declared.nodes.TermId.{TermId}
use Rattle.flat_terms.specs.Plain.{PlainTables, HasTerm, term_of}
use Rattle.flat_walks.specs.Walk.{IsVariable}
use Rattle.flat_rules.specs.declared.sequent.FlatSequent.{FlatSequent}

-- lists of terms by their numbers
abbrev pub HasTerms : PlainTables → List TermId → Type 0
HasTerms t [] = Unit {0}
HasTerms t (n ∷ ns) = HasTerm t n × HasTerms t ns

abbrev pub terms_of : PlainTables → List TermId → List Tm
terms_of t = map (term_of t)

-- ns are the numbers of the trees xs
pub record AreNumbers (t : PlainTables) (ns : List TermId) (xs : List Tm) : Type 0 where
  pub has : HasTerms t ns
  pub trees : terms_of t ns ≡ xs

-- the sequent that numbers stand for
abbrev pub sequent_of : PlainTables → FlatSequent → Sequent
sequent_of t q = seq (terms_of t q.hyps.items) (term_of t q.concl)

-- the numbers of a sequent are in the tables
pub record HasSequent (t : PlainTables) (q : FlatSequent) : Type 0 where
  pub hyps : HasTerms t q.hyps.items
  pub concl : HasTerm t q.concl

-- what is answered stands for what a rule gives, and None is answered where it gives nothing
abbrev pub IsAnswer : PlainTables → Option Sequent → Option FlatSequent → Type 0
IsAnswer t given None = given ≡ None
IsAnswer t given (Some q) = HasSequent t q × (given ≡ Some (sequent_of t q))

-- pairs of a variable and a term
abbrev pub HasVariablePairs : PlainTables → List (TermId × TermId) → Type 0
HasVariablePairs t [] = Unit {0}
HasVariablePairs t (p ∷ ps) = IsVariable t p.0 × HasTerm t p.1 × HasVariablePairs t ps

-- the term is well typed over some signature, with no loose index
abbrev pub IsWellTyped : Tm → Type 0
IsWellTyped t = (s : Signature) × IsOver s [] t
