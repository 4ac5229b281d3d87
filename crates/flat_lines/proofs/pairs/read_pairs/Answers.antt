use Rattle.std.proofs.Common.{◌≡◌, refl, ap, ◌∙◌, Option, Some, [], ◌∷◌}
use Rattle.hol_terms.specs.Tm.{Tm, FreeVar}
use Rattle.hol_terms.specs.Text.{Text}
use Rattle.strict_lines.specs.Operands.{reads_pair, reads_pairs}
use Rattle.flat_terms.specs.Plain.{PlainTables}
use Rattle.flat_instances.specs.TablesGrow.{TablesGrow}
use Rattle.flat_instances.proofs.TablesGrow.{tables_grow_further}
use Rattle.flat_signatures.specs.FlatNames.{FlatNames, plain_signature}
use Rattle.flat_signatures.proofs.Signatures.{signature_there}
use Rattle.flat_instances.specs.Terms.{term_pairs}
use Rattle.flat_lines.specs.Operands.{IsPairRead, HasPairs}
use Rattle.flat_lines.specs.declared.pairs.PairRead.{PairRead}
use Rattle.flat_lines.specs.Reads.{Reads}
use Rattle.flat_lines.proofs.Readings.{gave_none, gave_some}
use Rattle.flat_lines.proofs.PairsSoFar.{OneRead, term_kind, so_far_start, so_far_wrong, so_far_further, so_far_last, so_far_nowhere, so_far_shorter}
use Rattle.flat_lines.proofs.pairs.read_pairs.Goals as goal

-- the pair that was read
one : (t u : PlainTables) (s : FlatNames) (x : Text) (o : Option PairRead) (r : PairRead) → TablesGrow t u → Reads (IsPairRead u) o (reads_pair (plain_signature t s) x) → o ≡ Some r → OneRead HasPairs term_pairs reads_pair t u s x (r.variable, r.term) r.rest.now
one t u s x o r g h e =
    let k = gave_some (IsPairRead u) o _ r h e in
    record { grows = g; has = (k.2.0, k.2.1, tt); value = k.0.0; is = ap (λ (p : (FreeVar × Tm) × Text). p.0 ∷ []) k.2.2; read = k.1 ∙ ap (λ (p : (FreeVar × Tm) × Text). Some (k.0.0, p.1)) k.2.2 }

pub loop-pairs-init : goal.loop-pairs-init
loop-pairs-init c = so_far_start term_kind c.args.tables.now c.args.signature.now c.args.text.now c.new-pairs.result.items c.new-pairs.ensures.items

pub read_pair-requires : goal.read_pair-requires
read_pair-requires c = signature_there c.args.tables.now c.loop-pairs.tables c.args.signature.now c.loop-pairs.invariant.grows c.requires

pub returns-in_default-clause-ok : goal.returns-in_default-clause-ok
unfolding reads_pairs
returns-in_default-clause-ok c =
    so_far_wrong term_kind c.args.tables.now c.loop-pairs.tables c.args.signature.now c.args.text.now c.loop-pairs.pairs.items c.loop-pairs.rest.now c.requires c.loop-pairs.invariant
    (gave_none (IsPairRead c.read_pair.new.tables) c.in_ok-read.field-0 _ c.in_ok-read.ensures.ok c.in_default.is)

pub returns-in_err-push-clause-grows : goal.returns-in_err-push-clause-grows
returns-in_err-push-clause-grows c = tables_grow_further c.args.tables.now c.loop-pairs.tables c.read_pair.new.tables c.loop-pairs.invariant.grows c.in_ok-read.ensures.grows

pub returns-then-is_empty-clause-grows : goal.returns-then-is_empty-clause-grows
returns-then-is_empty-clause-grows c = tables_grow_further c.args.tables.now c.loop-pairs.tables c.read_pair.new.tables c.loop-pairs.invariant.grows c.in_ok-read.ensures.grows

pub returns-in_default-behind-clause-grows : goal.returns-in_default-behind-clause-grows
returns-in_default-behind-clause-grows c = tables_grow_further c.args.tables.now c.loop-pairs.tables c.read_pair.new.tables c.loop-pairs.invariant.grows c.in_ok-read.ensures.grows

pub returns-then-is_empty-clause-ok : goal.returns-then-is_empty-clause-ok
unfolding reads_pairs
returns-then-is_empty-clause-ok c =
    let t = c.loop-pairs.tables in
    let u = c.read_pair.new.tables in
    let s = c.args.signature.now in
    let x = c.loop-pairs.rest.now in
    let n = c.in-Some.read in
    let k = one t u s x c.in_ok-read.field-0 n c.in_ok-read.ensures.grows c.in_ok-read.ensures.ok c.in-Some.is in
    let l = so_far_last term_kind c.args.tables.now t u s c.args.text.now c.loop-pairs.pairs.items c.push.new.self.items x (n.variable, n.term) n.rest.now c.requires c.loop-pairs.invariant k c.in_ok-push.ensures.items c.in_default-behind.ensures.none c.if-is_empty.ensures in
    (term_pairs u c.push.new.self.items, l.0, (l.1, refl))

pub returns-in_default-behind-clause-ok : goal.returns-in_default-behind-clause-ok
unfolding reads_pairs
returns-in_default-behind-clause-ok c =
    let t = c.loop-pairs.tables in
    let u = c.read_pair.new.tables in
    let s = c.args.signature.now in
    let x = c.loop-pairs.rest.now in
    let n = c.in-Some.read in
    let k = one t u s x c.in_ok-read.field-0 n c.in_ok-read.ensures.grows c.in_ok-read.ensures.ok c.in-Some.is in
    so_far_nowhere term_kind c.args.tables.now t u s c.args.text.now c.loop-pairs.pairs.items x (n.variable, n.term) n.rest.now c.requires c.loop-pairs.invariant k c.in_default-behind.ensures.none c.if-is_empty.ensures

pub loop-pairs-smaller : goal.loop-pairs-smaller
loop-pairs-smaller c =
    let t = c.loop-pairs.tables in
    let u = c.read_pair.new.tables in
    let s = c.args.signature.now in
    let x = c.loop-pairs.rest.now in
    let n = c.in-Some.read in
    let k = one t u s x c.in_ok-read.field-0 n c.in_ok-read.ensures.grows c.in_ok-read.ensures.ok c.in-Some.is in
    so_far_shorter term_kind t u s x (n.variable, n.term) n.rest.now c.in-Some-behind.next.now k c.in-Some-behind.ensures.some

pub loop-pairs-preserved : goal.loop-pairs-preserved
loop-pairs-preserved c =
    let t = c.loop-pairs.tables in
    let u = c.read_pair.new.tables in
    let s = c.args.signature.now in
    let x = c.loop-pairs.rest.now in
    let n = c.in-Some.read in
    let k = one t u s x c.in_ok-read.field-0 n c.in_ok-read.ensures.grows c.in_ok-read.ensures.ok c.in-Some.is in
    so_far_further term_kind c.args.tables.now t u s c.args.text.now c.loop-pairs.pairs.items c.push.new.self.items x (n.variable, n.term) n.rest.now c.in-Some-behind.next.now c.requires c.loop-pairs.invariant k c.in_ok-push.ensures.items c.in-Some-behind.ensures.some
