-- How an application is written, by the nodes at its top.
use Rattle.std.specs.Prelude.{◌≡◌, ◌<◌, Option, Some, None}
use Rattle.hol_terms.specs.Tm.{Tm, tm_comb, tm_abs}
use Rattle.hol_terms.specs.Text.{Text, Sugar, between, before, binding, none, sugar}
use Rattle.flat_terms.specs.declared.nodes.TermId.{TermId}
use Rattle.flat_terms.specs.Plain.{PlainTables, HasType, HasTerm, type_of, term_of}
use Rattle.flat_printing.specs.declared.forms.Form.{Form}
use Rattle.flat_printing.specs.declared.forms.Form.TheVariants.{Infix, Negation, Binder, Plain}

-- the operator of an application
abbrev pub operator : Tm → Tm
operator (tm_comb f x) = f
operator t = t

-- how a constant with this sign, or without one, stands between its arguments
abbrev pub infix_sugar : Option Text → Sugar
infix_sugar (Some sign) = between sign
infix_sugar None = none

-- how a constant with this sign, or without one, binds the variable of an abstraction
abbrev pub binder_sugar : Option Text → Sugar
binder_sugar (Some sign) = binding sign
binder_sugar None = none

-- l is the number of the left side of the application f
pub record IsLeft (t : PlainTables) (f l : TermId) : Type 0 where
  pub has : HasTerm t l
  pub tree : term_of t f ≡ tm_comb (operator (term_of t f)) (term_of t l)

-- the form of `f x`, with the numbers of the parts that are written
abbrev pub IsForm : PlainTables → TermId → TermId → Form → Type 0
IsForm t f x (Infix sign left) = (sugar (term_of t f) (term_of t x) ≡ between sign.now) × (left.0 < f.0) × IsLeft t f left
IsForm t f x Negation = sugar (term_of t f) (term_of t x) ≡ before
IsForm t f x (Binder sign a b) = (sugar (term_of t f) (term_of t x) ≡ binding sign.now) × HasType t a × (b.0 < x.0) × HasTerm t b × (term_of t x ≡ tm_abs (type_of t a) (term_of t b))
IsForm t f x Plain = sugar (term_of t f) (term_of t x) ≡ none
