use Rattle.std.proofs.Common.{Some, ap, sym, ◌∙◌}
use Rattle.flat_terms.specs.Plain.{types_of}
use Rattle.flat_walks.proofs.Steps.{added_has, added_is}
use Rattle.flat_signatures.specs.FlatNames.{plain_signature}
use Rattle.flat_reading.proofs.Growing.{term_result_is}
use Rattle.flat_reading.proofs.AtomSteps.{atom_free, free_terms, no_atom, atom_bound, atom_constant}
use Rattle.flat_reading.proofs.atoms.read_atom.Goals as goal

pub returns-in-Some-clause-ok : goal.returns-in-Some-clause-ok
returns-in-Some-clause-ok c = term_result_is c.read_free_behind.new.tables c.read_free_behind.result _ _ (sym (atom_free (plain_signature c.args.tables.now c.args.signature.now) (types_of c.args.tables.now c.args.bound.now) c.args.text.now c.in-Some.inner.now c.in-Some.ensures.some)) (free_terms c.read_free_behind.new.tables c.read_free_behind.result _ c.read_free_behind.ensures.ok)

pub returns-then-not-begins_word-clause-ok : goal.returns-then-not-begins_word-clause-ok
returns-then-not-begins_word-clause-ok c = no_atom (plain_signature c.args.tables.now c.args.signature.now) (types_of c.args.tables.now c.args.bound.now) c.args.text.now c.in_default.ensures.none (sym c.begins_word.ensures ∙ c.if-not-begins_word.true)

pub returns-in-Some-find_binder-clause-ok : goal.returns-in-Some-find_binder-clause-ok
returns-in-Some-find_binder-clause-ok c = (added_has c.args.tables.now c.index.new.self c.in_ok-term.term _ c.in_ok-term.ensures.ok, atom_bound (plain_signature c.args.tables.now c.args.signature.now) (types_of c.args.tables.now c.args.bound.now) c.args.text.now c.split_word.result.0.now c.split_word.result.1.now _ c.in_default.ensures.none (sym c.begins_word.ensures ∙ c.if-not-begins_word.false) c.split_word.ensures.word c.split_word.ensures.rest c.in-Some-find_binder.ensures.1 ∙ ap (λ u. Some (u, c.split_word.result.1.now)) (sym (added_is c.args.tables.now c.index.new.self c.in_ok-term.term _ c.in_ok-term.ensures.ok)))

pub returns-clause-ok : goal.returns-clause-ok
returns-clause-ok c = term_result_is c.read_constant.new.tables c.read_constant.result _ _ (sym (atom_constant (plain_signature c.args.tables.now c.args.signature.now) (types_of c.args.tables.now c.args.bound.now) c.args.text.now c.split_word.result.0.now c.split_word.result.1.now c.in_default.ensures.none (sym c.begins_word.ensures ∙ c.if-not-begins_word.false) c.split_word.ensures.word c.split_word.ensures.rest c.in_default-find_binder.ensures)) c.read_constant.ensures.ok
