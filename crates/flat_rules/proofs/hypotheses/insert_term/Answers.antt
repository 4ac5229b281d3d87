use Rattle.std.proofs.Common.{◌≡◌, List, sym, subst}
use Rattle.std.specs.List.{insert}
use Rattle.hol_terms.specs.Sequent.{insert_hyp}
use Rattle.flat_terms.specs.declared.nodes.TermId.{TermId}
use Rattle.flat_terms.specs.Plain.{term_of}
use Rattle.flat_rules.specs.Sequents.{terms_of, AreNumbers}
use Rattle.flat_rules.proofs.Placing.{inserted}
use Rattle.flat_rules.proofs.hypotheses.insert_term.Goals as goal

pub returns-in_ok-insert : goal.returns-in_ok-insert
returns-in_ok-insert c =
    let at : insert_hyp (term_of c.args.tables.now c.args.term) (terms_of c.args.tables.now c.args.hyps.now.items) ≡ insert (terms_of c.args.tables.now c.args.hyps.now.items) c.in-Some.at (term_of c.args.tables.now c.args.term) =
    subst (λ (l : List TermId). insert_hyp (term_of c.args.tables.now c.args.term) (terms_of c.args.tables.now l) ≡ insert (terms_of c.args.tables.now l) c.in-Some.at (term_of c.args.tables.now c.args.term)) c.deref.ensures.value c.in-Some.ensures.1 in
    subst (λ (l : List TermId). AreNumbers c.args.tables.now l (insert_hyp (term_of c.args.tables.now c.args.term) (terms_of c.args.tables.now c.args.hyps.now.items))) (sym c.in_ok-insert.ensures.items)
    (inserted c.args.tables.now c.args.term c.args.hyps.now.items c.in-Some.at c.requires.hyps c.requires.term at)
