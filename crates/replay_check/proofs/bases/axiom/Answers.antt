use Rattle.std.proofs.Common.{Some, sym, ap, ◌∙◌, subst}
use Rattle.hol_terms.specs.Typing.{tm_type}
use Rattle.hol_terms.specs.Sequent.{Sequent, seq}
use Rattle.flat_terms.specs.Plain.{term_of}
use Rattle.flat_rules.specs.Sequents.{HasTerms, terms_of}
use Rattle.replay_check.specs.Definitions.{definitions_of}
use Rattle.replay_check.proofs.BaseReads.{axiom_text_over, axiom_is, axiom_boolean, axiom_there}
use Rattle.replay_check.proofs.Later.{too_few, enough}
use Rattle.replay_check.proofs.bases.axiom.Goals as goal

pub returns-then-definitions-lt10-clause-ok : goal.returns-then-definitions-lt10-clause-ok
returns-then-definitions-lt10-clause-ok c = λ n i. too_few c.args.tables.now c.args.definitions.now _ c.if-definitions-lt10.true

pub put_term-requires-clause-text : goal.put_term-requires-clause-text
put_term-requires-clause-text c =
    axiom_text_over (definitions_of c.args.tables.now c.args.definitions.now) _ c.in-Some.ensures.0 c.in-Some.ensures.1 _ (enough c.args.tables.now c.args.definitions.now c.if-definitions-lt10.false c.requires.stands) c.requires.plain c.in-Some.ensures.2 c.in-Some.ensures.3

pub returns-clause-ok : goal.returns-clause-ok
returns-clause-ok c =
    let ten = enough c.args.tables.now c.args.definitions.now c.if-definitions-lt10.false c.requires.stands in
    let bare = axiom_is (definitions_of c.args.tables.now c.args.definitions.now) _ c.put_term.new.tables c.in-Some.ensures.0 c.in-Some.ensures.1 _ c.in_ok-concl.concl ten c.requires.plain c.in-Some.ensures.2 c.in-Some.ensures.3 c.in_ok-concl.ensures.ok in
    λ n i. (
      record { hyps = subst (λ l. HasTerms c.put_term.new.tables l) (sym c.new.ensures.items) tt; concl = c.in_ok-concl.ensures.ok.0 },
      axiom_there (definitions_of c.args.tables.now c.args.definitions.now) _ ten ∙ c.in-Some.ensures.4 n i ∙ ap Some (bare ∙ ap (λ l. seq (terms_of c.put_term.new.tables l) (term_of c.put_term.new.tables c.in_ok-concl.concl)) (sym c.new.ensures.items)),
    )

pub returns-clause-boolean : goal.returns-clause-boolean
returns-clause-boolean c =
    let ten = enough c.args.tables.now c.args.definitions.now c.if-definitions-lt10.false c.requires.stands in
    let bare = axiom_is (definitions_of c.args.tables.now c.args.definitions.now) _ c.put_term.new.tables c.in-Some.ensures.0 c.in-Some.ensures.1 _ c.in_ok-concl.concl ten c.requires.plain c.in-Some.ensures.2 c.in-Some.ensures.3 c.in_ok-concl.ensures.ok in
    ap (λ (a : Sequent). tm_type a.concl) (sym bare) ∙ axiom_boolean (definitions_of c.args.tables.now c.args.definitions.now) c.in-Some.ensures.0 c.in-Some.ensures.1 ten c.in-Some.ensures.2
