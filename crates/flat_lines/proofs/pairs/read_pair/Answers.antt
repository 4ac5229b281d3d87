use Rattle.std.proofs.Common.{refl, sym, ap, ◌∙◌, Option, Some, []}
use Rattle.std.specs.Prelude.{codes}
use Rattle.hol_terms.specs.Tm.{Tm, FreeVar}
use Rattle.hol_terms.specs.Text.{Text}
use Rattle.hol_terms.specs.Signature.{Signature}
use Rattle.strict_reading.specs.Steps.{◌>>=◌}
use Rattle.strict_reading.specs.Terms.{reads_free, reads_term}
use Rattle.strict_lines.specs.Operands.{reads_pair}
use Rattle.flat_terms.specs.Plain.{term_of}
use Rattle.flat_walks.specs.Walk.{var_of}
use Rattle.flat_instances.proofs.TablesGrow.{tables_grow_further}
use Rattle.flat_signatures.specs.FlatNames.{plain_signature}
use Rattle.flat_signatures.proofs.Signatures.{signature_there, signature_same}
use Rattle.flat_lines.proofs.Readings.{parted_none, parted_before, parted_at, bind_none, bind_on}
use Rattle.flat_lines.proofs.LowerReads.{no_term, a_term, no_free, a_free}
use Rattle.flat_lines.proofs.Grown.{variable_there, same_variable}
use Rattle.flat_lines.proofs.pairs.read_pair.Goals as goal

-- behind the sign
abbrev tail : Signature → FreeVar → Text → Option ((FreeVar × Tm) × Text)
tail s v y = reads_term s [] y >>= (λ p. Some ((v, p.0), p.1))

pub returns-in_default-clause-ok : goal.returns-in_default-clause-ok
unfolding reads_pair
returns-in_default-clause-ok c = parted_none _ _ _ (no_free c.read_free.new.tables c.in_ok-variable.field-0 _ c.in_ok-variable.ensures.ok c.in_default.is)

pub returns-in_default-behind-clause-ok : goal.returns-in_default-behind-clause-ok
unfolding reads_pair
returns-in_default-behind-clause-ok c =
    let s = plain_signature c.args.tables.now c.args.signature.now in
    let v = c.in-Some.variable in
    let t = c.read_free.new.tables in
    let k = a_free t c.in_ok-variable.field-0 _ v c.in_ok-variable.ensures.ok c.in-Some.is in
    parted_before (reads_free s c.args.text.now) (codes " := ") (tail s) (var_of (term_of t v.term), v.rest.now) v.rest.now k.1 refl c.in_default-behind.ensures.none

pub read_term-requires : goal.read_term-requires
read_term-requires c = signature_there c.args.tables.now c.read_free.new.tables c.args.signature.now c.in_ok-variable.ensures.grows c.requires

pub returns-in_err-read-clause-grows : goal.returns-in_err-read-clause-grows
returns-in_err-read-clause-grows c = tables_grow_further c.args.tables.now c.read_free.new.tables c.read_term.new.tables c.in_ok-variable.ensures.grows c.in_err-read.ensures.grows

pub returns-in_default-2-clause-grows : goal.returns-in_default-2-clause-grows
returns-in_default-2-clause-grows c = tables_grow_further c.args.tables.now c.read_free.new.tables c.read_term.new.tables c.in_ok-variable.ensures.grows c.in_ok-read.ensures.grows

pub returns-in_default-2-clause-ok : goal.returns-in_default-2-clause-ok
unfolding reads_pair
returns-in_default-2-clause-ok c =
    let s = plain_signature c.args.tables.now c.args.signature.now in
    let v = c.in-Some.variable in
    let t = c.read_free.new.tables in
    let y = c.in-Some-behind.rest.now in
    let k = a_free t c.in_ok-variable.field-0 _ v c.in_ok-variable.ensures.ok c.in-Some.is in
    let same = signature_same c.args.tables.now t c.args.signature.now c.in_ok-variable.ensures.grows c.requires in
    parted_at (reads_free s c.args.text.now) (codes " := ") (tail s) (var_of (term_of t v.term), v.rest.now) v.rest.now y k.1 refl c.in-Some-behind.ensures.some
    ∙ bind_none (reads_term s [] y) _ (ap (λ r. reads_term r [] y) (sym same) ∙ no_term c.read_term.new.tables c.in_ok-read.field-0 _ c.in_ok-read.ensures.ok c.in_default-2.is)

pub returns-clause-grows : goal.returns-clause-grows
returns-clause-grows c = tables_grow_further c.args.tables.now c.read_free.new.tables c.read_term.new.tables c.in_ok-variable.ensures.grows c.in_ok-read.ensures.grows

pub returns-clause-ok : goal.returns-clause-ok
unfolding reads_pair
returns-clause-ok c =
    let s = plain_signature c.args.tables.now c.args.signature.now in
    let v = c.in-Some.variable in
    let n = c.in-Some-2.read in
    let t = c.read_free.new.tables in
    let u = c.read_term.new.tables in
    let y = c.in-Some-behind.rest.now in
    let k = a_free t c.in_ok-variable.field-0 _ v c.in_ok-variable.ensures.ok c.in-Some.is in
    let l = a_term u c.in_ok-read.field-0 _ n c.in_ok-read.ensures.ok c.in-Some-2.is in
    let same = signature_same c.args.tables.now t c.args.signature.now c.in_ok-variable.ensures.grows c.requires in
    let g = c.in_ok-read.ensures.grows in (
      ((var_of (term_of u v.term), term_of u n.term), n.rest.now),
      parted_at (reads_free s c.args.text.now) (codes " := ") (tail s) (var_of (term_of t v.term), v.rest.now) v.rest.now y k.1 refl c.in-Some-behind.ensures.some
          ∙ bind_on (reads_term s [] y) _ (term_of u n.term, n.rest.now) (ap (λ r. reads_term r [] y) (sym same) ∙ l.1) ∙ ap (λ w. Some ((w, term_of u n.term), n.rest.now)) (sym (same_variable t u v.term g k.0)),
      (variable_there t u v.term g k.0, l.0, refl),
    )
