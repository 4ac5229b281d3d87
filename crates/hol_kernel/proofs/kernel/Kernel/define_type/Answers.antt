use Rattle.std.proofs.Common.{ℕ, ◌∙◌, ap, sym, subst, subst₂}
use Rattle.hol_terms.specs.Name.{Name}
use Rattle.hol_terms.specs.Tm.{Tm}
use Rattle.hol_terms.specs.Table.{IsPredicate}
use Rattle.hol_terms.specs.WellFormed.{IsTypeForm}
use Rattle.hol_kernel.specs.NewType.{IsNewType, IsShownAt}
use Rattle.hol_kernel.proofs.Fitting.{no_type_fault, theorem_fits, theorem_shows, type_form}
use Rattle.hol_kernel.proofs.kernel.Kernel.define_type.Goals as goal

pub predicate-pred-requires : goal.predicate-pred-requires
predicate-pred-requires c = (no_type_fault c.args.self.now.defs c.args.name.now c.args.a.now.sequent c.requires.fit).shown

pub abs_of_rep-requires : goal.abs_of_rep-requires
abs_of_rep-requires c =
    subst IsPredicate (sym c.predicate-pred.ensures.value) (theorem_fits c.args.self.now c.args.name.now c.args.a.now c.requires.has_a c.requires.fit c.predicate-pred.ensures.derivable).predicate

pub rep_of_abs-requires : goal.rep_of_abs-requires
rep_of_abs-requires c =
    subst IsPredicate (sym c.predicate-pred.ensures.value) (theorem_fits c.args.self.now c.args.name.now c.args.a.now c.requires.has_a c.requires.fit c.predicate-pred.ensures.derivable).predicate

pub add_type-requires-clause-fit : goal.add_type-requires-clause-fit
add_type-requires-clause-fit c =
    subst₂ (λ (n : Name) (p : Tm). IsTypeForm c.args.self.now.defs n p) (sym c.in_ok-name.ensures.ok) (sym (c.in_ok-pred.ensures ∙ c.predicate-pred.ensures.value))
    (type_form (theorem_fits c.args.self.now c.args.name.now c.args.a.now c.requires.has_a c.requires.fit c.predicate-pred.ensures.derivable))

pub add_type-requires-clause-shown : goal.add_type-requires-clause-shown
add_type-requires-clause-shown c =
    subst₂ (λ (i : ℕ) (p : Tm). IsShownAt c.args.self.now.steps i p) (sym (ap (λ t. t.step) c.a.view_is)) (sym (c.in_ok-pred.ensures ∙ c.predicate-pred.ensures.value))
    (theorem_shows c.args.self.now c.args.name.now c.args.a.now c.requires.has_a c.requires.fit)

pub add_type-requires-clause-abs : goal.add_type-requires-clause-abs
add_type-requires-clause-abs c = rw (c.in_ok-name.ensures.ok, c.in_ok-pred.ensures) c.in_ok-abs.ensures

pub add_type-requires-clause-rep : goal.add_type-requires-clause-rep
add_type-requires-clause-rep c = rw (c.in_ok-name.ensures.ok, c.in_ok-pred.ensures) c.in_ok-rep.ensures

pub returns-clause-ok : goal.returns-clause-ok
returns-clause-ok c =
    subst₂ (λ (n : Name) (p : Tm). IsNewType c.args.self.now n p c.add_type.new.self c.in_ok-both.both.0 c.in_ok-both.both.1) c.in_ok-name.ensures.ok (c.in_ok-pred.ensures ∙ c.predicate-pred.ensures.value) c.in_ok-both.ensures.ok
