use Rattle.std.proofs.Common.{◌≡◌, ◌+◌, ◌-◌, ◌*◌}
use Rattle.hol_text.specs.MeaningViews.{operand_of}
use Rattle.hol_terms.specs.Reading.{atom_at, atoms_at, term_at}
use Rattle.hol_text.specs.ScopeViews.{scope_of}
use Rattle.hol_text.specs.TokenViews.{tokens_of}
use Rattle.hol_text.proofs.terms.+terms.Given as goal

abbrev pub decreases-term_at : goal.decreases-term_at
decreases-term_at l = 5 * l.fuel

abbrev pub decreases-atom_at : goal.decreases-atom_at
decreases-atom_at l = 5 * l.fuel + 1

abbrev pub decreases-body_at : goal.decreases-body_at
decreases-body_at l = 5 * l.fuel + 1

abbrev pub decreases-atoms_at : goal.decreases-atoms_at
decreases-atoms_at l = 5 * l.fuel + 2

abbrev pub decreases-binder_at : goal.decreases-binder_at
decreases-binder_at l = 5 * l.fuel + 2

abbrev pub decreases-application_at : goal.decreases-application_at
decreases-application_at l = 5 * l.fuel + 3

abbrev pub decreases-infix : goal.decreases-infix
decreases-infix l = 5 * l.fuel + 4

abbrev pub invariant-atoms_at-loop : goal.invariant-atoms_at-loop
invariant-atoms_at-loop l =
    atoms_at (atom_at l.sig (term_at l.sig l.fuel) l.fuel (scope_of l.scope)) (l.fuel - l.counter) (operand_of l.whole) (tokens_of l.rest)
    ≡ atoms_at (atom_at l.sig (term_at l.sig l.fuel) l.fuel (scope_of l.scope)) l.fuel (operand_of l.fn.head) (tokens_of l.tokens)
