use Rattle.std.proofs.Common.{◌≡◌, ◌+◌, sym, ap, subst, ◌∙◌, true≢false}
use Rattle.std.proofs.lemmas.Result.{IfOk-weaker}
use Rattle.hol_terms.specs.Tm.{tm_index}
use Rattle.hol_terms.specs.Typing.{tm_type}
use Rattle.flat_terms.specs.declared.nodes.TermId.{TermId}
use Rattle.flat_terms.specs.Plain.{term_of, type_of, IsTermAdded}
use Rattle.flat_walks.specs.Walk.{var_of, IsBound}
use Rattle.flat_walks.proofs.Steps.{found_bound, walks_further, walks_same, walks_on, below_has, bound_deeper, comb_steps, takes_bound, comb_done, abs_typed, abs_done, grows_either, free_bound, other_bound}
use Rattle.flat_walks.proofs.bind.+bind_at.Goals as goal

pub returns-in-Some-clause-ok : goal.returns-in-Some-clause-ok
returns-in-Some-clause-ok t c = found_bound c.args.tables.now c.args.variable c.args.memo.now.done.entries (record { term = c.args.term; depth = c.args.depth }) c.in-Some.bound c.requires.memo c.in-Some.ensures

pub returns-in_err-x-in-Comb-clause-walks : goal.returns-in_err-x-in-Comb-clause-walks
returns-in_err-x-in-Comb-clause-walks t c = walks_further _ _ _ _ _ _ c.in_ok-f-in-Comb.ensures.walks c.in_err-x-in-Comb.ensures.walks

pub application-requires-clause-takes : goal.application-requires-clause-takes
application-requires-clause-takes t c =
    let steps = comb_steps c.args.tables.now c.bind_at.new.tables c.bind_at-in-Comb.new.tables c.args.variable c.args.depth c.args.term c.in-Comb.f c.in-Comb.x c.in_ok-f-in-Comb.f c.in_ok-x-in-Comb.x c.requires.variable.0 (below_has c.args.tables.now c.args.term c.in-Comb.x c.requires.term c.in-Comb.ensures.1) c.in_ok-f-in-Comb.ensures.walks.grows c.in_ok-f-in-Comb.ensures.ok c.in_ok-x-in-Comb.ensures.walks.grows c.in_ok-x-in-Comb.ensures.ok in
    takes_bound c.args.depth (var_of (term_of c.args.tables.now c.args.variable)) _ _ _ _ steps.function steps.argument c.in-Comb.ensures.2

pub returns-in_err-bound-in-Comb-clause-walks : goal.returns-in_err-bound-in-Comb-clause-walks
returns-in_err-bound-in-Comb-clause-walks t c = walks_same _ _ _ _ _ (walks_further _ _ _ _ _ _ c.in_ok-f-in-Comb.ensures.walks c.in_ok-x-in-Comb.ensures.walks) c.in_err-bound-in-Comb.ensures.err

pub abstraction-requires-clause-typed : goal.abstraction-requires-clause-typed
abstraction-requires-clause-typed t c = abs_typed c.args.tables.now c.bind_at-in-Abs.new.tables c.args.variable c.args.depth c.args.term c.in-Abs.a c.in-Abs.b c.in_ok-b-in-Abs.b c.type_of-ty.result c.in_ok-b-in-Abs.ensures.walks.grows (bound_deeper c.args.tables.now c.bind_at-in-Abs.new.tables c.args.variable c.in-Some-checked_add.deeper (c.args.depth + 1) c.in-Abs.b c.in_ok-b-in-Abs.b c.in-Some-checked_add.ensures.1 c.in_ok-b-in-Abs.ensures.ok) c.in-Abs.ensures.2 c.type_of-ty.ensures.ty

pub returns-in_ok-bound-in-Comb-clause-walks : goal.returns-in_ok-bound-in-Comb-clause-walks
returns-in_ok-bound-in-Comb-clause-walks t c = (comb_done c.args.tables.now c.bind_at.new.tables c.bind_at-in-Comb.new.tables c.application.new.self c.args.variable c.args.depth c.args.term c.in-Comb.f c.in-Comb.x c.in_ok-f-in-Comb.f c.in_ok-x-in-Comb.x c.in_ok-bound-in-Comb.bound _ _ _ c.requires.variable c.requires.term c.in-Comb.ensures.1 c.in_ok-f-in-Comb.ensures.walks c.in_ok-f-in-Comb.ensures.ok c.in_ok-x-in-Comb.ensures.walks c.in_ok-x-in-Comb.ensures.ok c.in-Comb.ensures.3 c.in_ok-bound-in-Comb.ensures.ok c.note.ensures.noted).0

pub returns-in_ok-bound-in-Comb-clause-ok : goal.returns-in_ok-bound-in-Comb-clause-ok
returns-in_ok-bound-in-Comb-clause-ok t c =
    let both = comb_done c.args.tables.now c.bind_at.new.tables c.bind_at-in-Comb.new.tables c.application.new.self c.args.variable c.args.depth c.args.term c.in-Comb.f c.in-Comb.x c.in_ok-f-in-Comb.f c.in_ok-x-in-Comb.x c.in_ok-bound-in-Comb.bound _ _ _ c.requires.variable c.requires.term c.in-Comb.ensures.1 c.in_ok-f-in-Comb.ensures.walks c.in_ok-f-in-Comb.ensures.ok c.in_ok-x-in-Comb.ensures.walks c.in_ok-x-in-Comb.ensures.ok c.in-Comb.ensures.3 c.in_ok-bound-in-Comb.ensures.ok c.note.ensures.noted in
    IfOk-weaker c.note.result (λ y. y ≡ c.in_ok-bound-in-Comb.bound) (λ y. IsBound c.args.tables.now c.application.new.self c.args.variable c.args.depth c.args.term y)
    (λ y e. subst (λ (z : TermId). IsBound c.args.tables.now c.application.new.self c.args.variable c.args.depth c.args.term z) (sym e) both.1) c.note.ensures.same

pub returns-in_ok-bound-in-Abs-clause-walks : goal.returns-in_ok-bound-in-Abs-clause-walks
returns-in_ok-bound-in-Abs-clause-walks t c = (abs_done c.args.tables.now c.bind_at-in-Abs.new.tables c.abstraction.new.self c.args.variable c.args.depth c.args.term c.in-Abs.a c.in-Abs.b c.in_ok-b-in-Abs.b c.in_ok-bound-in-Abs.bound _ _ c.requires.variable c.requires.term c.in_ok-b-in-Abs.ensures.walks (bound_deeper c.args.tables.now c.bind_at-in-Abs.new.tables c.args.variable c.in-Some-checked_add.deeper (c.args.depth + 1) c.in-Abs.b c.in_ok-b-in-Abs.b c.in-Some-checked_add.ensures.1 c.in_ok-b-in-Abs.ensures.ok) c.in-Abs.ensures.2 c.in_ok-bound-in-Abs.ensures.ok c.note-in-Abs.ensures.noted).0

pub returns-in_ok-bound-in-Abs-clause-ok : goal.returns-in_ok-bound-in-Abs-clause-ok
returns-in_ok-bound-in-Abs-clause-ok t c =
    let both = abs_done c.args.tables.now c.bind_at-in-Abs.new.tables c.abstraction.new.self c.args.variable c.args.depth c.args.term c.in-Abs.a c.in-Abs.b c.in_ok-b-in-Abs.b c.in_ok-bound-in-Abs.bound _ _ c.requires.variable c.requires.term c.in_ok-b-in-Abs.ensures.walks (bound_deeper c.args.tables.now c.bind_at-in-Abs.new.tables c.args.variable c.in-Some-checked_add.deeper (c.args.depth + 1) c.in-Abs.b c.in_ok-b-in-Abs.b c.in-Some-checked_add.ensures.1 c.in_ok-b-in-Abs.ensures.ok) c.in-Abs.ensures.2 c.in_ok-bound-in-Abs.ensures.ok c.note-in-Abs.ensures.noted in
    IfOk-weaker c.note-in-Abs.result (λ y. y ≡ c.in_ok-bound-in-Abs.bound) (λ y. IsBound c.args.tables.now c.abstraction.new.self c.args.variable c.args.depth c.args.term y)
    (λ y e. subst (λ (z : TermId). IsBound c.args.tables.now c.abstraction.new.self c.args.variable c.args.depth c.args.term z) (sym e) both.1) c.note-in-Abs.ensures.same

pub returns-then-same_term-clause-walks : goal.returns-then-same_term-clause-walks
returns-then-same_term-clause-walks t c = walks_on _ _ _ _ c.requires.variable.0 (grows_either c.args.tables.now c.index.new.self (tm_index c.args.depth (type_of c.args.tables.now c.in-Free.ty)) c.index.result c.index.ensures.ok c.index.ensures.err) c.requires.memo

pub returns-then-same_term-clause-ok : goal.returns-then-same_term-clause-ok
returns-then-same_term-clause-ok t c =
    IfOk-weaker c.index.result (λ y. IsTermAdded c.args.tables.now c.index.new.self y (tm_index c.args.depth (type_of c.args.tables.now c.in-Free.ty))) (λ y. IsBound c.args.tables.now c.index.new.self c.args.variable c.args.depth c.args.term y)
    (λ r a. free_bound c.args.tables.now c.index.new.self c.args.variable c.args.depth c.args.term c.in-Free.ty r c.requires.variable (c.same_term.ensures.0 c.if-same_term.true) (sym (ap tm_type c.in-Free.ensures.2)) a) c.index.ensures.ok

pub returns-else-same_term-clause-ok : goal.returns-else-same_term-clause-ok
returns-else-same_term-clause-ok t c =
    other_bound c.args.tables.now c.args.variable c.args.depth c.args.term _ c.requires.variable c.requires.term c.in-Free.ensures.2
    (λ e. true≢false (sym (c.same_term.ensures.1 e) ∙ c.if-same_term.false))
