use Rattle.std.proofs.Common.{sym, ◌∙◌}
use Rattle.flat_terms.specs.Plain.{term_of}
use Rattle.replay_check.specs.Walks.{IsClosed}
use Rattle.replay_check.proofs.Meeting.{listed_meets, added_meets, comb_closed, abs_closed}
use Rattle.replay_check.proofs.walks.+has_frees_at.Goals as goal

pub returns-then-contains-clause-ok : goal.returns-then-contains-clause-ok
returns-then-contains-clause-ok t c = sym (listed_meets IsClosed c.args.tables.now c.args.closed.now.keys c.args.term c.requires.closed (sym c.contains.ensures ∙ c.if-contains.true))

pub returns-else-branch-2-clause-closed : goal.returns-else-branch-2-clause-closed
returns-else-branch-2-clause-closed t c =
    added_meets IsClosed c.args.tables.now _ _ c.args.term c.in_ok-has_frees_at-in-Comb-2.ensures.closed
    (comb_closed (term_of c.args.tables.now c.args.term) (term_of c.args.tables.now c.in-Comb.f) (term_of c.args.tables.now c.in-Comb.x) c.in-Comb.ensures.3
    (sym c.if-branch.false ∙ c.in_ok-has_frees_at-in-Comb.ensures.ok) (sym c.if-branch-2.false ∙ c.in_ok-has_frees_at-in-Comb-2.ensures.ok))
    c.note.ensures.added

pub returns-else-branch-3-clause-closed : goal.returns-else-branch-3-clause-closed
returns-else-branch-3-clause-closed t c =
    added_meets IsClosed c.args.tables.now _ _ c.args.term c.in_ok-has_frees_at-in-Abs.ensures.closed
    (abs_closed (term_of c.args.tables.now c.args.term) _ (term_of c.args.tables.now c.in-Abs.body) c.in-Abs.ensures.2 (sym c.if-branch-3.false ∙ c.in_ok-has_frees_at-in-Abs.ensures.ok))
    c.note-in-Abs.ensures.added
