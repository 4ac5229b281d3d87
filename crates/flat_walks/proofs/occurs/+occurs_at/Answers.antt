use Rattle.std.proofs.Common.{sym, ◌∙◌}
use Rattle.flat_terms.specs.Plain.{term_of}
use Rattle.flat_walks.specs.Walk.{var_of}
use Rattle.flat_walks.proofs.Lacking.{listed_lacks, added_lacks, comb_lacks, abs_same, free_tells}
use Rattle.flat_walks.proofs.occurs.+occurs_at.Goals as goal

pub returns-then-contains-clause-ok : goal.returns-then-contains-clause-ok
returns-then-contains-clause-ok t c = sym (listed_lacks c.args.tables.now c.args.variable c.args.lacking.now.keys c.args.term c.requires.lacking (sym c.contains.ensures ∙ c.if-contains.true))

pub returns-else-branch-2-clause-lacking : goal.returns-else-branch-2-clause-lacking
returns-else-branch-2-clause-lacking t c =
    added_lacks c.args.tables.now c.args.variable _ _ c.args.term c.in_ok-occurs_at-in-Comb-2.ensures.lacking
    (comb_lacks (var_of (term_of c.args.tables.now c.args.variable)) (term_of c.args.tables.now c.args.term) (term_of c.args.tables.now c.in-Comb.f) (term_of c.args.tables.now c.in-Comb.x) c.in-Comb.ensures.3
    (sym c.if-branch.false ∙ c.in_ok-occurs_at-in-Comb.ensures.ok) (sym c.if-branch-2.false ∙ c.in_ok-occurs_at-in-Comb-2.ensures.ok))
    c.lacks.ensures.added

pub returns-else-branch-3-clause-lacking : goal.returns-else-branch-3-clause-lacking
returns-else-branch-3-clause-lacking t c =
    added_lacks c.args.tables.now c.args.variable _ _ c.args.term c.in_ok-occurs_at-in-Abs.ensures.lacking
    (abs_same (var_of (term_of c.args.tables.now c.args.variable)) (term_of c.args.tables.now c.args.term) _ (term_of c.args.tables.now c.in-Abs.body) c.in-Abs.ensures.2 ∙ sym c.in_ok-occurs_at-in-Abs.ensures.ok ∙ c.if-branch-3.false)
    c.lacks-in-Abs.ensures.added

pub returns-in-Free-clause-ok : goal.returns-in-Free-clause-ok
returns-in-Free-clause-ok t c = free_tells c.args.tables.now c.args.variable c.args.term _ c.same_term.result c.requires.variable c.in-Free.ensures.2 c.same_term.ensures.0 c.same_term.ensures.1
