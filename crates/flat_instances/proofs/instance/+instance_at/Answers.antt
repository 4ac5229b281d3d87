use Rattle.std.proofs.Common.{◌≡◌, sym, ap, subst, arith, ◌∙◌}
use Rattle.std.proofs.lemmas.Result.{IfOk-weaker}
use Rattle.hol_terms.specs.Binding.{tm_inst}
use Rattle.flat_terms.specs.declared.nodes.TermId.{TermId}
use Rattle.flat_walks.specs.Number.{IsNumber}
use Rattle.flat_walks.proofs.Steps.{below_has}
use Rattle.flat_instances.specs.Terms.{term_pairs, instance_of}
use Rattle.flat_instances.proofs.TermSteps.{pairs_there, found_instance, takes_itself, takes_further, takes_same, takes_noted, instance_parts, comb_takes, comb_instance, abs_instance, abs_typed, free_variable, free_instance}
use Rattle.flat_instances.proofs.instance.+instance_at.Goals as goal

pub returns-in-Some-clause-takes : goal.returns-in-Some-clause-takes
returns-in-Some-clause-takes t c = takes_itself c.args.tables.now c.args.pairs.now c.args.memo.now.entries c.requires.memo

pub returns-in-Some-clause-ok : goal.returns-in-Some-clause-ok
returns-in-Some-clause-ok t c = found_instance c.args.tables.now c.args.pairs.now c.args.memo.now.entries c.args.term c.in-Some.made c.requires.memo c.in-Some.ensures

pub instance_at-requires-in-Comb : goal.instance_at-requires-in-Comb
instance_at-requires-in-Comb t c =
    (omega (arith, c.decreases, c.in-Comb.ensures.1), (pairs_there c.args.tables.now c.instance_at.new.tables c.args.pairs.now c.in_ok-f-in-Comb.ensures.takes.grows c.requires.pairs, (c.in_ok-f-in-Comb.ensures.takes.grows.has c.in-Comb.x (below_has c.args.tables.now c.args.term c.in-Comb.x c.requires.term c.in-Comb.ensures.1), c.in_ok-f-in-Comb.ensures.takes.memo)))

pub returns-in_err-x-in-Comb-clause-takes : goal.returns-in_err-x-in-Comb-clause-takes
returns-in_err-x-in-Comb-clause-takes t c = takes_further _ _ _ _ _ _ c.in_ok-f-in-Comb.ensures.takes c.in_err-x-in-Comb.ensures.takes

pub application-requires-clause-takes : goal.application-requires-clause-takes
application-requires-clause-takes t c = comb_takes c.args.tables.now c.instance_at-in-Comb.new.tables c.args.pairs.now c.in-Comb.f c.in-Comb.x c.in_ok-f-in-Comb.f c.in_ok-x-in-Comb.x c.requires.pairs c.in-Comb.ensures.2 (instance_parts c.args.tables.now c.instance_at.new.tables c.instance_at-in-Comb.new.tables c.args.pairs.now c.args.term c.in-Comb.f c.in-Comb.x c.in_ok-f-in-Comb.f c.in_ok-x-in-Comb.x _ _ c.requires.pairs c.requires.term c.in-Comb.ensures.1 c.in_ok-f-in-Comb.ensures.takes c.in_ok-f-in-Comb.ensures.ok c.in_ok-x-in-Comb.ensures.takes c.in_ok-x-in-Comb.ensures.ok)

pub returns-in_err-made-in-Comb-clause-takes : goal.returns-in_err-made-in-Comb-clause-takes
returns-in_err-made-in-Comb-clause-takes t c = takes_same _ _ _ _ _ (takes_further c.args.tables.now c.instance_at.new.tables c.instance_at-in-Comb.new.tables c.args.pairs.now _ _ c.in_ok-f-in-Comb.ensures.takes c.in_ok-x-in-Comb.ensures.takes) c.in_err-made-in-Comb.ensures.err

pub abstraction-requires-clause-typed : goal.abstraction-requires-clause-typed
abstraction-requires-clause-typed t c = abs_typed c.args.tables.now c.instance_at-in-Abs.new.tables c.args.pairs.now c.args.term c.in-Abs.a c.in-Abs.b c.in_ok-b-in-Abs.b c.type_of-ty.result c.in_ok-b-in-Abs.ensures.takes.grows c.requires.pairs c.in-Abs.ensures.2 c.in_ok-b-in-Abs.ensures.ok c.type_of-ty.ensures.ty

pub returns-in_ok-made-in-Comb-clause-takes : goal.returns-in_ok-made-in-Comb-clause-takes
returns-in_ok-made-in-Comb-clause-takes t c = (takes_noted c.args.tables.now c.instance_at-in-Comb.new.tables c.application.new.self c.args.pairs.now c.args.term c.in_ok-made-in-Comb.made _ _ _ c.requires.pairs c.requires.term (takes_further c.args.tables.now c.instance_at.new.tables c.instance_at-in-Comb.new.tables c.args.pairs.now _ _ c.in_ok-f-in-Comb.ensures.takes c.in_ok-x-in-Comb.ensures.takes) c.in_ok-made-in-Comb.ensures.ok (comb_instance c.args.tables.now c.instance_at-in-Comb.new.tables c.args.pairs.now c.args.term c.in-Comb.f c.in-Comb.x c.in_ok-f-in-Comb.f c.in_ok-x-in-Comb.x c.in-Comb.ensures.3 (instance_parts c.args.tables.now c.instance_at.new.tables c.instance_at-in-Comb.new.tables c.args.pairs.now c.args.term c.in-Comb.f c.in-Comb.x c.in_ok-f-in-Comb.f c.in_ok-x-in-Comb.x _ _ c.requires.pairs c.requires.term c.in-Comb.ensures.1 c.in_ok-f-in-Comb.ensures.takes c.in_ok-f-in-Comb.ensures.ok c.in_ok-x-in-Comb.ensures.takes c.in_ok-x-in-Comb.ensures.ok)) c.note_term.ensures.noted).0

pub returns-in_ok-made-in-Comb-clause-ok : goal.returns-in_ok-made-in-Comb-clause-ok
returns-in_ok-made-in-Comb-clause-ok t c =
    let both = takes_noted c.args.tables.now c.instance_at-in-Comb.new.tables c.application.new.self c.args.pairs.now c.args.term c.in_ok-made-in-Comb.made _ _ _ c.requires.pairs c.requires.term (takes_further c.args.tables.now c.instance_at.new.tables c.instance_at-in-Comb.new.tables c.args.pairs.now _ _ c.in_ok-f-in-Comb.ensures.takes c.in_ok-x-in-Comb.ensures.takes) c.in_ok-made-in-Comb.ensures.ok (comb_instance c.args.tables.now c.instance_at-in-Comb.new.tables c.args.pairs.now c.args.term c.in-Comb.f c.in-Comb.x c.in_ok-f-in-Comb.f c.in_ok-x-in-Comb.x c.in-Comb.ensures.3 (instance_parts c.args.tables.now c.instance_at.new.tables c.instance_at-in-Comb.new.tables c.args.pairs.now c.args.term c.in-Comb.f c.in-Comb.x c.in_ok-f-in-Comb.f c.in_ok-x-in-Comb.x _ _ c.requires.pairs c.requires.term c.in-Comb.ensures.1 c.in_ok-f-in-Comb.ensures.takes c.in_ok-f-in-Comb.ensures.ok c.in_ok-x-in-Comb.ensures.takes c.in_ok-x-in-Comb.ensures.ok)) c.note_term.ensures.noted in
    IfOk-weaker c.note_term.result (λ y. y ≡ c.in_ok-made-in-Comb.made) (λ y. IsNumber c.application.new.self y (instance_of c.args.tables.now c.args.pairs.now c.args.term))
    (λ y e. subst (λ (z : TermId). IsNumber c.application.new.self z (instance_of c.args.tables.now c.args.pairs.now c.args.term)) (sym e) both.1) c.note_term.ensures.same

pub returns-in_ok-made-in-Abs-clause-takes : goal.returns-in_ok-made-in-Abs-clause-takes
returns-in_ok-made-in-Abs-clause-takes t c = (takes_noted c.args.tables.now c.instance_at-in-Abs.new.tables c.abstraction.new.self c.args.pairs.now c.args.term c.in_ok-made-in-Abs.made _ _ _ c.requires.pairs c.requires.term c.in_ok-b-in-Abs.ensures.takes c.in_ok-made-in-Abs.ensures.ok (abs_instance c.args.tables.now c.instance_at-in-Abs.new.tables c.args.pairs.now c.args.term c.in-Abs.a c.in-Abs.b c.in_ok-b-in-Abs.b c.in_ok-b-in-Abs.ensures.takes.grows c.in-Abs.ensures.2 c.in_ok-b-in-Abs.ensures.ok) c.note_term-in-Abs.ensures.noted).0

pub returns-in_ok-made-in-Abs-clause-ok : goal.returns-in_ok-made-in-Abs-clause-ok
returns-in_ok-made-in-Abs-clause-ok t c =
    let both = takes_noted c.args.tables.now c.instance_at-in-Abs.new.tables c.abstraction.new.self c.args.pairs.now c.args.term c.in_ok-made-in-Abs.made _ _ _ c.requires.pairs c.requires.term c.in_ok-b-in-Abs.ensures.takes c.in_ok-made-in-Abs.ensures.ok (abs_instance c.args.tables.now c.instance_at-in-Abs.new.tables c.args.pairs.now c.args.term c.in-Abs.a c.in-Abs.b c.in_ok-b-in-Abs.b c.in_ok-b-in-Abs.ensures.takes.grows c.in-Abs.ensures.2 c.in_ok-b-in-Abs.ensures.ok) c.note_term-in-Abs.ensures.noted in
    IfOk-weaker c.note_term-in-Abs.result (λ y. y ≡ c.in_ok-made-in-Abs.made) (λ y. IsNumber c.abstraction.new.self y (instance_of c.args.tables.now c.args.pairs.now c.args.term))
    (λ y e. subst (λ (z : TermId). IsNumber c.abstraction.new.self z (instance_of c.args.tables.now c.args.pairs.now c.args.term)) (sym e) both.1) c.note_term-in-Abs.ensures.same

pub returns-in-Index-clause-takes : goal.returns-in-Index-clause-takes
returns-in-Index-clause-takes t c = takes_itself c.args.tables.now c.args.pairs.now c.args.memo.now.entries c.requires.memo

pub returns-in-Index-clause-ok : goal.returns-in-Index-clause-ok
returns-in-Index-clause-ok t c = record { has = c.requires.term; tree = c.in-Index.ensures.1 ∙ sym (ap (tm_inst (term_pairs c.args.tables.now c.args.pairs.now)) c.in-Index.ensures.1) }

pub returns-in-Const-clause-takes : goal.returns-in-Const-clause-takes
returns-in-Const-clause-takes t c = takes_itself c.args.tables.now c.args.pairs.now c.args.memo.now.entries c.requires.memo

pub returns-in-Const-clause-ok : goal.returns-in-Const-clause-ok
returns-in-Const-clause-ok t c = record { has = c.requires.term; tree = c.in-Const.ensures.3 ∙ sym (ap (tm_inst (term_pairs c.args.tables.now c.args.pairs.now)) c.in-Const.ensures.3) }

pub returns-in-Free-clause-takes : goal.returns-in-Free-clause-takes
returns-in-Free-clause-takes t c = takes_itself c.args.tables.now c.args.pairs.now c.args.memo.now.entries c.requires.memo

pub stand_in-requires-clause-variable : goal.stand_in-requires-clause-variable
stand_in-requires-clause-variable t c = free_variable c.args.tables.now c.args.term _ c.requires.term c.in-Free.ensures.2

pub returns-in-Free-clause-ok : goal.returns-in-Free-clause-ok
returns-in-Free-clause-ok t c = free_instance c.args.tables.now c.args.pairs.now c.args.term c.stand_in.result _ c.in-Free.ensures.2 c.stand_in.ensures
