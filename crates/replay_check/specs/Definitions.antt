-- Definitions and sequents over the tables, and what they stand for.
use Rattle.std.specs.Prelude.{◌≡◌, ℕ, Bool, true, false, not, ◌||◌, ◌==◌, length, List, [], ◌∷◌, map, Option, Some, None, slice_get}
use Rattle.std.specs.Borrow.{Bor}
use Rattle.hol_terms.specs.Name.{Name}
use Rattle.hol_terms.specs.Ty.{Ty, ty_var, ty_app}
use Rattle.hol_terms.specs.Tm.{Tm}
use Rattle.hol_terms.specs.Typing.{tm_type, domain_ty, fun_ty}
use Rattle.hol_terms.specs.TyVars.{tm_within}
use Rattle.hol_terms.specs.Signature.{Signature, IsOver, may_introduce, tys_count}
use Rattle.hol_terms.specs.TypeNames.{may_introduce_type}
use Rattle.hol_terms.specs.Definition.{Definition, const_def, type_def, bool_ty, has_frees}
use Rattle.hol_terms.specs.Sequent.{Sequent}
use Rattle.hol_terms.specs.Logic.{axioms}
use Rattle.hol_terms.specs.Text.{Text, tm_text}
use Rattle.hol_logs.specs.Step.{axiom_of}
use Rattle.hol_logs.specs.Position.{is_application, predicate_of}
use Rattle.flat_lines.specs.declared.numbers.Number.{Number}
use Rattle.flat_lines.specs.Numbers.{IsNumber}
use Rattle.flat_terms.specs.Plain.{PlainTables, HasName, HasTerm, name_of, term_of}
use Rattle.flat_terms.specs.declared.nodes.TermId.{TermId}
use Rattle.flat_rules.specs.declared.sequent.FlatSequent.{FlatSequent}
use Rattle.flat_rules.specs.Sequents.{sequent_of, HasSequent}
use Rattle.replay_check.specs.declared.definitions.FlatDefinition.{FlatDefinition}
use Rattle.replay_check.specs.declared.definitions.FlatDefinition.TheVariants.{Constant, NewType}

abbrev pub definition_of : PlainTables → FlatDefinition → Definition
definition_of t (Constant c n) = const_def (name_of t c) (term_of t n)
definition_of t (NewType c n) = type_def (name_of t c) (term_of t n)

abbrev pub HasDefinition : PlainTables → FlatDefinition → Type 0
HasDefinition t (Constant c n) = HasName t c × HasTerm t n
HasDefinition t (NewType c n) = HasName t c × HasTerm t n

abbrev pub definitions_of : PlainTables → List FlatDefinition → List Definition
definitions_of t = map (definition_of t)

abbrev pub HasDefinitions : PlainTables → List FlatDefinition → Type 0
HasDefinitions t [] = Unit {0}
HasDefinitions t (d ∷ ds) = HasDefinition t d × HasDefinitions t ds

-- the definition, where there is one
abbrev pub IsPut : PlainTables → Option FlatDefinition → Option Definition → Type 0
IsPut t None o = o ≡ None
IsPut t (Some d) o = HasDefinition t d × (o ≡ Some (definition_of t d))

-- a predicate is a function into bool
abbrev pub IsPredicateType : Tm → Type 0
IsPredicateType p = tm_type p ≡ fun_ty (domain_ty (tm_type p)) bool_ty

-- the tests of unfit definitions, over the signature of the definitions before them
abbrev pub is_unfit_const_over : Signature → Name → Tm → Bool
is_unfit_const_over s c t = not (may_introduce s c) || has_frees t || not (tm_within t (tm_type t))

abbrev pub is_unfit_type_over : Signature → Name → Sequent → Bool
is_unfit_type_over s c a = not (may_introduce_type s c) || not (length a.hyps == 0) || not (is_application a.concl) || has_frees (predicate_of a)

-- the predicate of a theorem by which the type may be defined, or None where it may not
abbrev pub IsPredicate : PlainTables → Signature → Name → Sequent → Option TermId → Type 0
IsPredicate t s c a None = is_unfit_type_over s c a ≡ true
IsPredicate t s c a (Some n) = HasTerm t n × (term_of t n ≡ predicate_of a) × (is_unfit_type_over s c a ≡ false) × IsPredicateType (term_of t n)

-- and the predicate of a type definition is one
abbrev pub IsTypedDefinition : Definition → Type 0
IsTypedDefinition (const_def c t) = Unit {0}
IsTypedDefinition (type_def n p) = IsPredicateType p

-- the names may be introduced, and the predicate of a type is one
abbrev pub MayDefine : Signature → Definition → Type 0
MayDefine s (const_def c t) = may_introduce s c ≡ true
MayDefine s (type_def n p) = (may_introduce_type s n ≡ true) × IsPredicateType p

-- how many arguments a type has
abbrev pub count_of : Ty → ℕ
count_of (ty_var n) = 0
count_of (ty_app c ts) = tys_count ts

-- ---- sequents

-- the sequents have numbers of the tables, and conclude boolean terms
abbrev pub AreSequents : PlainTables → List FlatSequent → Type 0
AreSequents t [] = Unit {0}
AreSequents t (q ∷ qs) = HasSequent t q × (tm_type (sequent_of t q).concl ≡ bool_ty) × AreSequents t qs

abbrev pub sequents_of : PlainTables → List FlatSequent → List Sequent
sequents_of t = map (sequent_of t)

-- what a step gives concludes a boolean term
abbrev pub IsBooleanAnswer : PlainTables → Option FlatSequent → Type 0
IsBooleanAnswer t None = Unit {0}
IsBooleanAnswer t (Some q) = tm_type (sequent_of t q).concl ≡ bool_ty

-- the text of the axiom of the number, where there is one
abbrev pub IsAxiomText : Number → Option (Bor Text) → Type 0
IsAxiomText i None = (n : ℕ) → IsNumber i n → axiom_of n ≡ None
IsAxiomText i (Some x) = (k : ℕ) × (a : Sequent) × (slice_get axioms k ≡ Some a) × (x.now ≡ tm_text a.concl) × ((n : ℕ) → IsNumber i n → axiom_of n ≡ Some a)

-- the text is that of a closed term over the signature
abbrev pub IsTermText : Signature → Text → Type 0
IsTermText s x = (t : Tm) × (x ≡ tm_text t) × IsOver s [] t

-- and n is the number of each such term
abbrev pub IsTermOfText : PlainTables → Signature → Text → TermId → Type 0
IsTermOfText t s x n = HasTerm t n × ((u : Tm) → x ≡ tm_text u → IsOver s [] u → term_of t n ≡ u)
