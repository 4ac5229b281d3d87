use Rattle.std.proofs.Common.{refl, sym, ap, ◌∙◌, Option, Some}
use Rattle.std.specs.Prelude.{codes}
use Rattle.hol_terms.specs.Name.{Name}
use Rattle.hol_terms.specs.Ty.{Ty}
use Rattle.hol_terms.specs.Text.{Text}
use Rattle.hol_terms.specs.Signature.{Signature}
use Rattle.strict_reading.specs.Steps.{◌>>=◌}
use Rattle.strict_reading.specs.Words.{behind}
use Rattle.strict_reading.specs.Types.{reads_type}
use Rattle.strict_lines.specs.Operands.{reads_segment, parted, reads_type_pair}
use Rattle.flat_terms.specs.Plain.{name_of, type_of}
use Rattle.flat_instances.proofs.TablesGrow.{tables_grow_further}
use Rattle.flat_signatures.specs.FlatNames.{plain_signature}
use Rattle.flat_signatures.proofs.Signatures.{signature_there, signature_same}
use Rattle.flat_lines.specs.Operands.{IsNameRead}
use Rattle.flat_lines.proofs.Readings.{parted_none, parted_before, parted_at, bind_none, bind_on, gave_none, gave_some}
use Rattle.flat_lines.proofs.LowerReads.{no_type, a_type}
use Rattle.flat_lines.proofs.pairs.read_type_pair.Goals as goal

-- behind the sign, and behind the quote
abbrev tail : Signature → Name → Text → Option ((Name × Ty) × Text)
tail s v z = reads_type s z >>= (λ p. Some ((v, p.0), p.1))

abbrev quoted : Signature → Text → Option ((Name × Ty) × Text)
quoted s y = parted (reads_segment y) (codes " := ") (tail s)

pub returns-in_default-clause-ok : goal.returns-in_default-clause-ok
unfolding reads_type_pair
returns-in_default-clause-ok c = bind_none (behind (codes "'") c.args.text.now) (quoted (plain_signature c.args.tables.now c.args.signature.now)) c.in_default.ensures.none

pub returns-in_default-2-clause-ok : goal.returns-in_default-2-clause-ok
unfolding reads_type_pair
returns-in_default-2-clause-ok c =
    bind_on (behind (codes "'") c.args.text.now) (quoted (plain_signature c.args.tables.now c.args.signature.now)) c.in-Some.quoted.now c.in-Some.ensures.some
    ∙ parted_none _ _ _ (gave_none (IsNameRead c.read_segment.new.tables) c.in_ok-variable.field-0 _ c.in_ok-variable.ensures.ok c.in_default-2.is)

pub returns-in_default-behind-clause-ok : goal.returns-in_default-behind-clause-ok
unfolding reads_type_pair
returns-in_default-behind-clause-ok c =
    let s = plain_signature c.args.tables.now c.args.signature.now in
    let x = c.in-Some.quoted.now in
    let k = gave_some (IsNameRead c.read_segment.new.tables) c.in_ok-variable.field-0 _ c.in-Some-2.variable c.in_ok-variable.ensures.ok c.in-Some-2.is in
    bind_on (behind (codes "'") c.args.text.now) (quoted s) x c.in-Some.ensures.some
    ∙ parted_before (reads_segment x) (codes " := ") (tail s) k.0 c.in-Some-2.variable.rest.now k.1 (sym (ap (λ p. p.1) k.2.1)) c.in_default-behind.ensures.none

pub read_type-requires : goal.read_type-requires
read_type-requires c = signature_there c.args.tables.now c.read_segment.new.tables c.args.signature.now c.in_ok-variable.ensures.grows c.requires

pub returns-in_err-read-clause-grows : goal.returns-in_err-read-clause-grows
returns-in_err-read-clause-grows c = tables_grow_further c.args.tables.now c.read_segment.new.tables c.read_type.new.tables c.in_ok-variable.ensures.grows c.in_err-read.ensures.grows

pub returns-in_default-3-clause-grows : goal.returns-in_default-3-clause-grows
returns-in_default-3-clause-grows c = tables_grow_further c.args.tables.now c.read_segment.new.tables c.read_type.new.tables c.in_ok-variable.ensures.grows c.in_ok-read.ensures.grows

pub returns-in_default-3-clause-ok : goal.returns-in_default-3-clause-ok
unfolding reads_type_pair
returns-in_default-3-clause-ok c =
    let s = plain_signature c.args.tables.now c.args.signature.now in
    let x = c.in-Some.quoted.now in
    let y = c.in-Some-behind.rest.now in
    let t = c.read_segment.new.tables in
    let k = gave_some (IsNameRead t) c.in_ok-variable.field-0 _ c.in-Some-2.variable c.in_ok-variable.ensures.ok c.in-Some-2.is in
    let same = signature_same c.args.tables.now t c.args.signature.now c.in_ok-variable.ensures.grows c.requires in
    bind_on (behind (codes "'") c.args.text.now) (quoted s) x c.in-Some.ensures.some
    ∙ parted_at (reads_segment x) (codes " := ") (tail s) k.0 c.in-Some-2.variable.rest.now y k.1 (sym (ap (λ p. p.1) k.2.1)) c.in-Some-behind.ensures.some
    ∙ bind_none (reads_type s y) _ (ap (λ r. reads_type r y) (sym same) ∙ no_type c.read_type.new.tables c.in_ok-read.field-0 _ c.in_ok-read.ensures.ok c.in_default-3.is)

pub returns-clause-grows : goal.returns-clause-grows
returns-clause-grows c = tables_grow_further c.args.tables.now c.read_segment.new.tables c.read_type.new.tables c.in_ok-variable.ensures.grows c.in_ok-read.ensures.grows

pub returns-clause-ok : goal.returns-clause-ok
unfolding reads_type_pair
returns-clause-ok c =
    let s = plain_signature c.args.tables.now c.args.signature.now in
    let x = c.in-Some.quoted.now in
    let y = c.in-Some-behind.rest.now in
    let t = c.read_segment.new.tables in
    let u = c.read_type.new.tables in
    let v = c.in-Some-2.variable in
    let n = c.in-Some-3.read in
    let k = gave_some (IsNameRead t) c.in_ok-variable.field-0 _ v c.in_ok-variable.ensures.ok c.in-Some-2.is in
    let l = a_type u c.in_ok-read.field-0 _ n c.in_ok-read.ensures.ok c.in-Some-3.is in
    let same = signature_same c.args.tables.now t c.args.signature.now c.in_ok-variable.ensures.grows c.requires in
    let g = c.in_ok-read.ensures.grows in (
      ((name_of u v.name, type_of u n.ty), n.rest.now),
      bind_on (behind (codes "'") c.args.text.now) (quoted s) x c.in-Some.ensures.some
          ∙ parted_at (reads_segment x) (codes " := ") (tail s) k.0 v.rest.now y k.1 (sym (ap (λ p. p.1) k.2.1)) c.in-Some-behind.ensures.some
          ∙ bind_on (reads_type s y) _ (type_of u n.ty, n.rest.now) (ap (λ r. reads_type r y) (sym same) ∙ l.1)
          ∙ ap (λ w. Some ((w, type_of u n.ty), n.rest.now)) (ap (λ p. p.0) k.2.1 ∙ sym (g.same_name v.name k.2.0)),
      (g.has_name v.name k.2.0, l.0, refl),
    )
