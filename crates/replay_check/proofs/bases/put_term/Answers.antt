use Rattle.std.proofs.Common.{[], Some, ap, sym, ◌∙◌, subst, arith}
use Rattle.strict_reading.specs.Terms.{reads_term}
use Rattle.flat_signatures.specs.FlatNames.{plain_signature}
use Rattle.flat_reading.specs.Reads.{IsTermRead}
use Rattle.replay_check.proofs.BaseReads.{reads_it, the_term}
use Rattle.replay_check.proofs.bases.put_term.Goals as goal

pub unreachable-requires : goal.unreachable-requires
unreachable-requires c =
    reads_it (plain_signature c.args.tables.now c.args.signature.now) c.args.text.now c.requires.reads_back (omega (arith, c.as_bytes.ensures.len)) c.requires.text
    (ap (reads_term (plain_signature c.args.tables.now c.args.signature.now) []) (sym c.as_bytes.ensures.value) ∙ subst (λ r. IsTermRead c.read_term.new.tables r (reads_term (plain_signature c.args.tables.now c.args.signature.now) [] c.as_bytes.result.now)) c.in-None.is c.in_ok-read.ensures.ok)

pub returns-clause-ok : goal.returns-clause-ok
returns-clause-ok c =
    let read : IsTermRead c.read_term.new.tables (Some c.in-Some.read) (reads_term (plain_signature c.args.tables.now c.args.signature.now) [] c.as_bytes.result.now) = subst (λ r. IsTermRead c.read_term.new.tables r (reads_term (plain_signature c.args.tables.now c.args.signature.now) [] c.as_bytes.result.now)) c.in-Some.is c.in_ok-read.ensures.ok in
    the_term c.read_term.new.tables (plain_signature c.args.tables.now c.args.signature.now) c.args.text.now c.as_bytes.result.now c.in-Some.read.«term» c.in-Some.read.rest.now c.requires.reads_back (omega (arith, c.as_bytes.ensures.len)) c.as_bytes.ensures.value read.0 read.1
