use Rattle.std.proofs.Common.{◌≡◌, true, false, ◌&&◌, ap, sym, ◌∙◌}
use Rattle.hol_terms.specs.Name.{Name, dot_abs, dot_rep}
use Rattle.hol_terms.specs.Signature.{Signature, may_introduce}
use Rattle.flat_terms.specs.Plain.{name_of}
use Rattle.flat_instances.proofs.TablesGrow.{tables_grow_further}
use Rattle.flat_signatures.specs.FlatNames.{plain_signature}
use Rattle.flat_signatures.proofs.Signatures.{signature_there, signature_same}
use Rattle.flat_signatures.proofs.signature.FlatSignature.may_introduce_type.Goals as goal

pub may_introduce-requires-2-clause-signature : goal.may_introduce-requires-2-clause-signature
may_introduce-requires-2-clause-signature c = signature_there c.args.tables.now c.put_dotted.new.tables c.args.self.now c.put_dotted.ensures.grows c.requires.signature

pub may_introduce-requires-3-clause-signature : goal.may_introduce-requires-3-clause-signature
may_introduce-requires-3-clause-signature c = signature_there c.args.tables.now c.put_dotted-2.new.tables c.args.self.now (tables_grow_further c.args.tables.now c.put_dotted.new.tables c.put_dotted-2.new.tables c.put_dotted.ensures.grows c.put_dotted-2.ensures.grows) c.requires.signature

pub returns-in_err-rep-clause-grows : goal.returns-in_err-rep-clause-grows
returns-in_err-rep-clause-grows c = tables_grow_further c.args.tables.now c.put_dotted.new.tables c.put_dotted-2.new.tables c.put_dotted.ensures.grows c.put_dotted-2.ensures.grows

pub returns-clause-grows : goal.returns-clause-grows
returns-clause-grows c = tables_grow_further c.args.tables.now c.put_dotted.new.tables c.put_dotted-2.new.tables c.put_dotted.ensures.grows c.put_dotted-2.ensures.grows

pub returns-then-not-may_introduce-2-clause-ok : goal.returns-then-not-may_introduce-2-clause-ok
returns-then-not-may_introduce-2-clause-ok c =
    let s : Signature = plain_signature c.args.tables.now c.args.self.now in
    let n : Name = name_of c.args.tables.now c.args.name in
    let whole : may_introduce s n ≡ true = (sym c.may_introduce.ensures ∙ c.if-not-may_introduce.false) in
    let here : plain_signature c.put_dotted.new.tables c.args.self.now ≡ s = signature_same c.args.tables.now c.put_dotted.new.tables c.args.self.now c.put_dotted.ensures.grows c.requires.signature in
    let abs : name_of c.put_dotted.new.tables c.in_ok-abs.abs ≡ dot_abs n = c.in_ok-abs.ensures.ok.text in
    let ends : may_introduce s (dot_abs n) ≡ false = (sym (λ j. may_introduce (here j) (abs j)) ∙ sym c.may_introduce-2.ensures ∙ c.if-not-may_introduce-2.true) in
    sym (λ j. whole j && ends j && may_introduce s (dot_rep n))

pub returns-clause-ok : goal.returns-clause-ok
returns-clause-ok c =
    let s : Signature = plain_signature c.args.tables.now c.args.self.now in
    let n : Name = name_of c.args.tables.now c.args.name in
    let whole : may_introduce s n ≡ true = (sym c.may_introduce.ensures ∙ c.if-not-may_introduce.false) in
    let here : plain_signature c.put_dotted.new.tables c.args.self.now ≡ s = signature_same c.args.tables.now c.put_dotted.new.tables c.args.self.now c.put_dotted.ensures.grows c.requires.signature in
    let abs : name_of c.put_dotted.new.tables c.in_ok-abs.abs ≡ dot_abs n = c.in_ok-abs.ensures.ok.text in
    let ends : may_introduce s (dot_abs n) ≡ true = (sym (λ j. may_introduce (here j) (abs j)) ∙ sym c.may_introduce-2.ensures ∙ c.if-not-may_introduce-2.false) in
    let there : plain_signature c.put_dotted-2.new.tables c.args.self.now ≡ s = signature_same c.args.tables.now c.put_dotted-2.new.tables c.args.self.now (tables_grow_further c.args.tables.now c.put_dotted.new.tables c.put_dotted-2.new.tables c.put_dotted.ensures.grows c.put_dotted-2.ensures.grows) c.requires.signature in
    let rep : name_of c.put_dotted-2.new.tables c.in_ok-rep.rep ≡ dot_rep n = (c.in_ok-rep.ensures.ok.text ∙ ap dot_rep (c.put_dotted.ensures.grows.same_name c.args.name c.requires.name)) in
    c.may_introduce-3.ensures ∙ (λ j. may_introduce (there j) (rep j)) ∙ sym (λ j. whole j && ends j && may_introduce s (dot_rep n))
