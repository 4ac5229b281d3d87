use Rattle.std.proofs.Common.{sym}
use Rattle.flat_signatures.specs.FlatNames.{plain_signature}
use Rattle.flat_reading.proofs.AtomSteps.{no_free, free_behind, free_result_is}
use Rattle.flat_reading.proofs.atoms.read_free.Goals as goal

pub returns-in_default-clause-ok : goal.returns-in_default-clause-ok
returns-in_default-clause-ok c = no_free (plain_signature c.args.tables.now c.args.signature.now) c.args.text.now c.in_default.ensures.none

pub returns-clause-ok : goal.returns-clause-ok
returns-clause-ok c = free_result_is c.read_free_behind.new.tables c.read_free_behind.result _ _ (sym (free_behind (plain_signature c.args.tables.now c.args.signature.now) c.args.text.now c.in-Some.inner.now c.in-Some.ensures.some)) c.read_free_behind.ensures.ok
