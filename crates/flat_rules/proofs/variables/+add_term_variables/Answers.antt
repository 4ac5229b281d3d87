use Rattle.std.proofs.Common.{sym, ◌∙◌, arith}
use Rattle.std.proofs.lemmas.Result.{on_ok_weaker}
use Rattle.flat_terms.specs.Plain.{type_of, types_of, term_of}
use Rattle.flat_signatures.proofs.Walks.{on_ok_always}
use Rattle.flat_rules.proofs.TermWalks.{term_seen_stay, listed_term_seen, added_term_walked, walked_comb, walked_abs, terms_walked_type, terms_walked_types}
use Rattle.flat_rules.proofs.variables.+add_term_variables.Goals as goal

pub returns-then-contains-clause-ok : goal.returns-then-contains-clause-ok
returns-then-contains-clause-ok t c =
    sym (term_seen_stay (term_of c.args.tables.now c.args.term) _ (listed_term_seen c.args.tables.now _ c.args.terms.now.keys c.args.term c.requires.terms (sym c.contains.ensures ∙ c.if-contains.true)))

pub add_term_variables-requires-in-Abs : goal.add_term_variables-requires-in-Abs
add_term_variables-requires-in-Abs t c =
    let e = c.in_ok-add_variables-in-Abs.ensures in
    (omega (arith, c.decreases, c.in-Abs.ensures.1), (omega (arith, c.requires.term, c.in-Abs.ensures.1), (e.seen, (e.walked, terms_walked_type c.args.tables.now _ _ (type_of c.args.tables.now c.in-Abs.bound) c.args.terms.now.keys e.ok c.requires.terms))))

pub returns-in_ok-add_term_variables-in-Comb-2-clause-terms : goal.returns-in_ok-add_term_variables-in-Comb-2-clause-terms
returns-in_ok-add_term_variables-in-Comb-2-clause-terms t c =
    let f = c.in_ok-add_term_variables-in-Comb.ensures in
    let x = c.in_ok-add_term_variables-in-Comb-2.ensures in
    on_ok_always c.note_walked.result _ (added_term_walked c.args.tables.now _ _ _ c.args.term x.terms
    (walked_comb _ _ _ (term_of c.args.tables.now c.args.term) (term_of c.args.tables.now c.in-Comb.f) (term_of c.args.tables.now c.in-Comb.x) c.in-Comb.ensures.3 f.ok x.ok)
    c.note_walked.ensures)

pub returns-in_ok-add_term_variables-in-Abs-clause-terms : goal.returns-in_ok-add_term_variables-in-Abs-clause-terms
returns-in_ok-add_term_variables-in-Abs-clause-terms t c =
    let a = c.in_ok-add_variables-in-Abs.ensures in
    let b = c.in_ok-add_term_variables-in-Abs.ensures in
    on_ok_always c.note_walked-in-Abs.result _ (added_term_walked c.args.tables.now _ _ _ c.args.term b.terms
    (walked_abs _ _ _ (term_of c.args.tables.now c.args.term) (type_of c.args.tables.now c.in-Abs.bound) (term_of c.args.tables.now c.in-Abs.body) c.in-Abs.ensures.2 a.ok b.ok)
    c.note_walked-in-Abs.ensures)

pub returns-in-Const-clause-terms : goal.returns-in-Const-clause-terms
returns-in-Const-clause-terms t c =
    on_ok_weaker c.add_variables_of.result (λ e. terms_walked_types c.args.tables.now _ _ (types_of c.args.tables.now c.in-Const.args.now) c.args.terms.now.keys e c.requires.terms) c.add_variables_of.ensures.ok

pub returns-in-Free-clause-terms : goal.returns-in-Free-clause-terms
returns-in-Free-clause-terms t c =
    on_ok_weaker c.add_variables-in-Free.result (λ e. terms_walked_type c.args.tables.now _ _ (type_of c.args.tables.now c.in-Free.ty) c.args.terms.now.keys e c.requires.terms) c.add_variables-in-Free.ensures.ok
