-- What the readings of terms and types in the crates below gave.
use Rattle.std.proofs.Common.{◌≡◌, subst, Option, Some, None}
use Rattle.hol_terms.specs.Ty.{Ty}
use Rattle.hol_terms.specs.Tm.{Tm, FreeVar}
use Rattle.hol_terms.specs.Text.{Text}
use Rattle.flat_terms.specs.Plain.{PlainTables, HasType, HasTerm, type_of, term_of}
use Rattle.flat_walks.specs.Walk.{var_of, IsVariable}
use Rattle.flat_signatures.specs.declared.types.TypeRead.{TypeRead}
use Rattle.flat_signatures.specs.Reads.{IsTypeRead}
use Rattle.flat_reading.specs.declared.atoms.TermRead.{TermRead}
use Rattle.flat_reading.specs.Reads.{IsTermRead, IsFreeRead}

pub no_term : (t : PlainTables) (o : Option TermRead) (p : Option (Tm × Text)) → IsTermRead t o p → o ≡ None → p ≡ None
no_term t o p h e = subst (λ v. IsTermRead t v p) e h

pub a_term : (t : PlainTables) (o : Option TermRead) (p : Option (Tm × Text)) (r : TermRead) → IsTermRead t o p → o ≡ Some r → HasTerm t r.term × (p ≡ Some (term_of t r.term, r.rest.now))
a_term t o p r h e = subst (λ v. IsTermRead t v p) e h

pub no_free : (t : PlainTables) (o : Option TermRead) (p : Option (FreeVar × Text)) → IsFreeRead t o p → o ≡ None → p ≡ None
no_free t o p h e = subst (λ v. IsFreeRead t v p) e h

pub a_free : (t : PlainTables) (o : Option TermRead) (p : Option (FreeVar × Text)) (r : TermRead) → IsFreeRead t o p → o ≡ Some r → IsVariable t r.term × (p ≡ Some (var_of (term_of t r.term), r.rest.now))
a_free t o p r h e = subst (λ v. IsFreeRead t v p) e h

pub no_type : (t : PlainTables) (o : Option TypeRead) (p : Option (Ty × Text)) → IsTypeRead t o p → o ≡ None → p ≡ None
no_type t o p h e = subst (λ v. IsTypeRead t v p) e h

pub a_type : (t : PlainTables) (o : Option TypeRead) (p : Option (Ty × Text)) (r : TypeRead) → IsTypeRead t o p → o ≡ Some r → HasType t r.ty × (p ≡ Some (type_of t r.ty, r.rest.now))
a_type t o p r h e = subst (λ v. IsTypeRead t v p) e h
