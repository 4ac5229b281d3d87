use Rattle.std.proofs.Common.{◌≡◌, sym, subst}
use Rattle.std.proofs.lemmas.Result.{IfOk-weaker}
use Rattle.flat_terms.specs.declared.nodes.TermId.{TermId}
use Rattle.flat_walks.specs.Number.{IsNumber}
use Rattle.flat_walks.specs.Opens.{opened}
use Rattle.flat_walks.proofs.Opening.{found_opened, opens_further, opens_same, opens_noted, opened_parts, comb_takes, comb_opened, abs_opened, abs_typed}
use Rattle.flat_walks.proofs.open.+open_at.Goals as goal

pub returns-in-Some-clause-ok : goal.returns-in-Some-clause-ok
returns-in-Some-clause-ok t c = found_opened c.args.tables.now c.args.variable c.args.memo.now.done.entries (record { term = c.args.term; depth = c.args.depth }) c.in-Some.made c.requires.memo c.in-Some.ensures

pub returns-in_err-x-in-Comb-clause-opens : goal.returns-in_err-x-in-Comb-clause-opens
returns-in_err-x-in-Comb-clause-opens t c = opens_further _ _ _ _ _ _ c.in_ok-f-in-Comb.ensures.opens c.in_err-x-in-Comb.ensures.opens

pub application-requires-clause-takes : goal.application-requires-clause-takes
application-requires-clause-takes t c = comb_takes c.args.tables.now c.open_at-in-Comb.new.tables c.args.variable c.args.depth c.args.term c.in-Comb.f c.in-Comb.x c.in_ok-f-in-Comb.f c.in_ok-x-in-Comb.x c.requires.openable c.in-Comb.ensures.3 c.in-Comb.ensures.2 (opened_parts c.args.tables.now c.open_at.new.tables c.open_at-in-Comb.new.tables c.args.variable c.args.depth c.args.term c.in-Comb.f c.in-Comb.x c.in_ok-f-in-Comb.f c.in_ok-x-in-Comb.x _ _ c.requires.variable.0 c.requires.term c.in-Comb.ensures.1 c.in_ok-f-in-Comb.ensures.opens c.in_ok-f-in-Comb.ensures.ok c.in_ok-x-in-Comb.ensures.opens c.in_ok-x-in-Comb.ensures.ok)

pub returns-in_err-made-in-Comb-clause-opens : goal.returns-in_err-made-in-Comb-clause-opens
returns-in_err-made-in-Comb-clause-opens t c = opens_same _ _ _ _ _ (opens_further c.args.tables.now c.open_at.new.tables c.open_at-in-Comb.new.tables c.args.variable _ _ c.in_ok-f-in-Comb.ensures.opens c.in_ok-x-in-Comb.ensures.opens) c.in_err-made-in-Comb.ensures.err

pub abstraction-requires-clause-typed : goal.abstraction-requires-clause-typed
abstraction-requires-clause-typed t c = abs_typed c.args.tables.now c.open_at-in-Abs.new.tables c.args.variable c.args.depth c.in-Some-checked_add.deeper c.args.term c.in-Abs.a c.in-Abs.b c.in_ok-b-in-Abs.b c.type_of-ty.result c.in_ok-b-in-Abs.ensures.opens.grows c.requires.openable c.in-Abs.ensures.2 c.in-Some-checked_add.ensures.1 c.in_ok-b-in-Abs.ensures.ok c.type_of-ty.ensures.ty

pub returns-in_ok-made-in-Comb-clause-opens : goal.returns-in_ok-made-in-Comb-clause-opens
returns-in_ok-made-in-Comb-clause-opens t c = (opens_noted c.args.tables.now c.open_at-in-Comb.new.tables c.application.new.self c.args.variable c.args.depth c.args.term c.in_ok-made-in-Comb.made _ _ _ c.requires.variable.0 c.requires.term (opens_further c.args.tables.now c.open_at.new.tables c.open_at-in-Comb.new.tables c.args.variable _ _ c.in_ok-f-in-Comb.ensures.opens c.in_ok-x-in-Comb.ensures.opens) c.in_ok-made-in-Comb.ensures.ok (comb_opened c.args.tables.now c.open_at-in-Comb.new.tables c.args.variable c.args.depth c.args.term c.in-Comb.f c.in-Comb.x c.in_ok-f-in-Comb.f c.in_ok-x-in-Comb.x c.in-Comb.ensures.3 (opened_parts c.args.tables.now c.open_at.new.tables c.open_at-in-Comb.new.tables c.args.variable c.args.depth c.args.term c.in-Comb.f c.in-Comb.x c.in_ok-f-in-Comb.f c.in_ok-x-in-Comb.x _ _ c.requires.variable.0 c.requires.term c.in-Comb.ensures.1 c.in_ok-f-in-Comb.ensures.opens c.in_ok-f-in-Comb.ensures.ok c.in_ok-x-in-Comb.ensures.opens c.in_ok-x-in-Comb.ensures.ok)) c.note.ensures.noted).0

pub returns-in_ok-made-in-Comb-clause-ok : goal.returns-in_ok-made-in-Comb-clause-ok
returns-in_ok-made-in-Comb-clause-ok t c =
    let both = opens_noted c.args.tables.now c.open_at-in-Comb.new.tables c.application.new.self c.args.variable c.args.depth c.args.term c.in_ok-made-in-Comb.made _ _ _ c.requires.variable.0 c.requires.term (opens_further c.args.tables.now c.open_at.new.tables c.open_at-in-Comb.new.tables c.args.variable _ _ c.in_ok-f-in-Comb.ensures.opens c.in_ok-x-in-Comb.ensures.opens) c.in_ok-made-in-Comb.ensures.ok (comb_opened c.args.tables.now c.open_at-in-Comb.new.tables c.args.variable c.args.depth c.args.term c.in-Comb.f c.in-Comb.x c.in_ok-f-in-Comb.f c.in_ok-x-in-Comb.x c.in-Comb.ensures.3 (opened_parts c.args.tables.now c.open_at.new.tables c.open_at-in-Comb.new.tables c.args.variable c.args.depth c.args.term c.in-Comb.f c.in-Comb.x c.in_ok-f-in-Comb.f c.in_ok-x-in-Comb.x _ _ c.requires.variable.0 c.requires.term c.in-Comb.ensures.1 c.in_ok-f-in-Comb.ensures.opens c.in_ok-f-in-Comb.ensures.ok c.in_ok-x-in-Comb.ensures.opens c.in_ok-x-in-Comb.ensures.ok)) c.note.ensures.noted in
    IfOk-weaker c.note.result (λ y. y ≡ c.in_ok-made-in-Comb.made) (λ y. IsNumber c.application.new.self y (opened c.args.tables.now c.args.variable c.args.depth c.args.term))
    (λ y e. subst (λ (z : TermId). IsNumber c.application.new.self z (opened c.args.tables.now c.args.variable c.args.depth c.args.term)) (sym e) both.1) c.note.ensures.same

pub returns-in_ok-made-in-Abs-clause-opens : goal.returns-in_ok-made-in-Abs-clause-opens
returns-in_ok-made-in-Abs-clause-opens t c = (opens_noted c.args.tables.now c.open_at-in-Abs.new.tables c.abstraction.new.self c.args.variable c.args.depth c.args.term c.in_ok-made-in-Abs.made _ _ _ c.requires.variable.0 c.requires.term c.in_ok-b-in-Abs.ensures.opens c.in_ok-made-in-Abs.ensures.ok (abs_opened c.args.tables.now c.open_at-in-Abs.new.tables c.args.variable c.args.depth c.in-Some-checked_add.deeper c.args.term c.in-Abs.a c.in-Abs.b c.in_ok-b-in-Abs.b c.in_ok-b-in-Abs.ensures.opens.grows c.in-Abs.ensures.2 c.in-Some-checked_add.ensures.1 c.in_ok-b-in-Abs.ensures.ok) c.note-in-Abs.ensures.noted).0

pub returns-in_ok-made-in-Abs-clause-ok : goal.returns-in_ok-made-in-Abs-clause-ok
returns-in_ok-made-in-Abs-clause-ok t c =
    let both = opens_noted c.args.tables.now c.open_at-in-Abs.new.tables c.abstraction.new.self c.args.variable c.args.depth c.args.term c.in_ok-made-in-Abs.made _ _ _ c.requires.variable.0 c.requires.term c.in_ok-b-in-Abs.ensures.opens c.in_ok-made-in-Abs.ensures.ok (abs_opened c.args.tables.now c.open_at-in-Abs.new.tables c.args.variable c.args.depth c.in-Some-checked_add.deeper c.args.term c.in-Abs.a c.in-Abs.b c.in_ok-b-in-Abs.b c.in_ok-b-in-Abs.ensures.opens.grows c.in-Abs.ensures.2 c.in-Some-checked_add.ensures.1 c.in_ok-b-in-Abs.ensures.ok) c.note-in-Abs.ensures.noted in
    IfOk-weaker c.note-in-Abs.result (λ y. y ≡ c.in_ok-made-in-Abs.made) (λ y. IsNumber c.abstraction.new.self y (opened c.args.tables.now c.args.variable c.args.depth c.args.term))
    (λ y e. subst (λ (z : TermId). IsNumber c.abstraction.new.self z (opened c.args.tables.now c.args.variable c.args.depth c.args.term)) (sym e) both.1) c.note-in-Abs.ensures.same
