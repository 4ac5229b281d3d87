use Rattle.std.proofs.Common.{refl, sym, ◌∙◌}
use Rattle.std.specs.Prelude.{[]}
use Rattle.strict_reading.specs.Terms.{reads_term}
use Rattle.flat_terms.specs.Plain.{term_of}
use Rattle.flat_signatures.specs.FlatNames.{plain_signature}
use Rattle.flat_lines.proofs.Readings.{ended_none, ended_before, ended_at}
use Rattle.flat_lines.proofs.LowerReads.{no_term, a_term}
use Rattle.flat_lines.proofs.ends.read_last_term.Goals as goal

pub returns-in_default-clause-ok : goal.returns-in_default-clause-ok
returns-in_default-clause-ok c = ended_none _ _ (no_term c.read_term.new.tables c.in_ok-read.field-0 _ c.in_ok-read.ensures.ok c.in_default.is)

pub returns-then-not-is_empty-clause-ok : goal.returns-then-not-is_empty-clause-ok
returns-then-not-is_empty-clause-ok c =
    let k = a_term c.read_term.new.tables c.in_ok-read.field-0 _ c.in-Some.read c.in_ok-read.ensures.ok c.in-Some.is in
    ended_before (reads_term (plain_signature c.args.tables.now c.args.signature.now) [] c.args.text.now) (λ t. t) (term_of c.read_term.new.tables c.in-Some.read.term, c.in-Some.read.rest.now) c.in-Some.read.rest.now k.1 refl
    (sym c.if-not-is_empty.true ∙ c.is_empty.ensures)

pub returns-clause-ok : goal.returns-clause-ok
returns-clause-ok c =
    let k = a_term c.read_term.new.tables c.in_ok-read.field-0 _ c.in-Some.read c.in_ok-read.ensures.ok c.in-Some.is in (
      term_of c.read_term.new.tables c.in-Some.read.term,
      ended_at (reads_term (plain_signature c.args.tables.now c.args.signature.now) [] c.args.text.now) (λ t. t) (term_of c.read_term.new.tables c.in-Some.read.term, c.in-Some.read.rest.now) c.in-Some.read.rest.now k.1 refl
          (sym c.if-not-is_empty.false ∙ c.is_empty.ensures),
      (k.0, refl),
    )
