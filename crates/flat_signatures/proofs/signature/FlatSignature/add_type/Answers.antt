use Rattle.flat_signatures.proofs.Signatures.{has_text, type_added_in}
use Rattle.flat_signatures.proofs.signature.FlatSignature.add_type.Goals as goal

pub returns-clause-has : goal.returns-clause-has
returns-clause-has c =
    (type_added_in c.args.tables.now _ c.args.self.now _ c.args.name c.args.arity c.self.view_is c.entries_once.ensures.names c.requires.signature (has_text c.args.tables.now c.args.name _ c.requires.name c.name_text.ensures c.name_text.utf8) c.requires.new c.in_ok-insert.ensures.entries).has

pub returns-clause-ok : goal.returns-clause-ok
returns-clause-ok c =
    (type_added_in c.args.tables.now _ c.args.self.now _ c.args.name c.args.arity c.self.view_is c.entries_once.ensures.names c.requires.signature (has_text c.args.tables.now c.args.name _ c.requires.name c.name_text.ensures c.name_text.utf8) c.requires.new c.in_ok-insert.ensures.entries).is
