use Rattle.std.proofs.Common.{◌≡◌, ◌<◌, length, List, [], map, sym, ap, subst, ◌∙◌, arith}
use Rattle.std.proofs.lemmas.Result.{IfOk-weaker}
use Rattle.hol_terms.specs.Name.{Name}
use Rattle.hol_terms.specs.Tm.{tm_index, tm_free, tm_const}
use Rattle.flat_terms.specs.declared.nodes.TypeId.{TypeId}
use Rattle.flat_terms.specs.declared.nodes.TermId.{TermId}
use Rattle.flat_terms.specs.Plain.{HasTypes, name_of, type_of, types_of, term_of, IsTermAdded}
use Rattle.flat_walks.proofs.Steps.{below_has}
use Rattle.flat_instances.specs.Types.{type_pairs, type_instance_of, AreTypeInstances}
use Rattle.flat_instances.specs.Retypings.{IsRetyped}
use Rattle.flat_instances.proofs.TypeSteps.{types_there}
use Rattle.flat_instances.proofs.RetypeSteps.{retypes_itself, then_retypes, then_types, then_same, then_added, then_either, then_noted, extends_types, extends_further, pairs_on, found_retyped, retyped_later, retyped_from, type_later, type_from, takes_retyped, comb_retyped, abs_retyped, abs_retyped_type, index_retyped, free_retyped, const_retyped}
use Rattle.flat_instances.proofs.retype.+retype_at.Goals as goal

pub returns-in-Some-clause-retypes : goal.returns-in-Some-clause-retypes
returns-in-Some-clause-retypes t c = retypes_itself c.args.tables.now c.args.pairs.now c.args.known.now.types.entries c.args.known.now.terms.entries c.requires.types c.requires.terms

pub returns-in-Some-clause-ok : goal.returns-in-Some-clause-ok
returns-in-Some-clause-ok t c = found_retyped c.args.tables.now c.args.pairs.now c.args.known.now.terms.entries c.args.term c.in-Some.made c.requires.terms c.in-Some.ensures

pub retype_at-requires-in-Comb : goal.retype_at-requires-in-Comb
retype_at-requires-in-Comb t c = (omega (arith, c.decreases, c.in-Comb.ensures.1), (pairs_on c.args.tables.now c.retype_at.new.tables c.args.pairs.now c.in_ok-f-in-Comb.ensures.retypes.grows c.requires.pairs, (c.in_ok-f-in-Comb.ensures.retypes.grows.has_term c.in-Comb.x (below_has c.args.tables.now c.args.term c.in-Comb.x c.requires.term c.in-Comb.ensures.1), (c.in_ok-f-in-Comb.ensures.retypes.types, c.in_ok-f-in-Comb.ensures.retypes.terms))))

pub returns-in_err-x-in-Comb-clause-retypes : goal.returns-in_err-x-in-Comb-clause-retypes
returns-in_err-x-in-Comb-clause-retypes t c = then_retypes c.args.tables.now c.retype_at.new.tables c.retype_at-in-Comb.new.tables c.args.pairs.now _ _ _ _ c.requires.pairs c.in_ok-f-in-Comb.ensures.retypes c.in_err-x-in-Comb.ensures.retypes

pub application-requires-clause-takes : goal.application-requires-clause-takes
application-requires-clause-takes t c = takes_retyped (type_pairs c.args.tables.now c.args.pairs.now) (term_of c.args.tables.now c.in-Comb.f) (term_of c.args.tables.now c.in-Comb.x) (term_of c.retype_at-in-Comb.new.tables c.in_ok-f-in-Comb.f) (term_of c.retype_at-in-Comb.new.tables c.in_ok-x-in-Comb.x) (retyped_later c.args.tables.now c.retype_at.new.tables c.retype_at-in-Comb.new.tables c.args.pairs.now c.in-Comb.f c.in_ok-f-in-Comb.f c.in_ok-f-in-Comb.ensures.ok c.in_ok-x-in-Comb.ensures.retypes.grows).number.tree (retyped_from c.args.tables.now c.retype_at.new.tables c.retype_at-in-Comb.new.tables c.args.pairs.now c.in-Comb.x c.in_ok-x-in-Comb.x c.in_ok-f-in-Comb.ensures.retypes.grows c.requires.pairs (below_has c.args.tables.now c.args.term c.in-Comb.x c.requires.term c.in-Comb.ensures.1) c.in_ok-x-in-Comb.ensures.ok).number.tree (retyped_later c.args.tables.now c.retype_at.new.tables c.retype_at-in-Comb.new.tables c.args.pairs.now c.in-Comb.f c.in_ok-f-in-Comb.f c.in_ok-f-in-Comb.ensures.ok c.in_ok-x-in-Comb.ensures.retypes.grows).keeps (retyped_from c.args.tables.now c.retype_at.new.tables c.retype_at-in-Comb.new.tables c.args.pairs.now c.in-Comb.x c.in_ok-x-in-Comb.x c.in_ok-f-in-Comb.ensures.retypes.grows c.requires.pairs (below_has c.args.tables.now c.args.term c.in-Comb.x c.requires.term c.in-Comb.ensures.1) c.in_ok-x-in-Comb.ensures.ok).keeps c.in-Comb.ensures.2

pub returns-in_err-made-in-Comb-clause-retypes : goal.returns-in_err-made-in-Comb-clause-retypes
returns-in_err-made-in-Comb-clause-retypes t c = then_same c.args.tables.now c.retype_at-in-Comb.new.tables c.application.new.self c.args.pairs.now _ [] _ [] c.requires.pairs (then_retypes c.args.tables.now c.retype_at.new.tables c.retype_at-in-Comb.new.tables c.args.pairs.now _ _ _ _ c.requires.pairs c.in_ok-f-in-Comb.ensures.retypes c.in_ok-x-in-Comb.ensures.retypes) c.in_err-made-in-Comb.ensures.err

pub returns-in_ok-made-in-Comb-clause-retypes : goal.returns-in_ok-made-in-Comb-clause-retypes
returns-in_ok-made-in-Comb-clause-retypes t c = then_noted c.args.tables.now c.application.new.self c.application.new.self c.args.pairs.now _ [] _ _ c.requires.pairs (then_added c.args.tables.now c.retype_at-in-Comb.new.tables c.application.new.self c.args.pairs.now _ [] _ [] c.requires.pairs (then_retypes c.args.tables.now c.retype_at.new.tables c.retype_at-in-Comb.new.tables c.args.pairs.now _ _ _ _ c.requires.pairs c.in_ok-f-in-Comb.ensures.retypes c.in_ok-x-in-Comb.ensures.retypes) c.in_ok-made-in-Comb.made _ c.in_ok-made-in-Comb.ensures.ok) c.args.term c.in_ok-made-in-Comb.made c.requires.term (comb_retyped c.args.tables.now c.retype_at-in-Comb.new.tables c.application.new.self c.args.pairs.now c.args.term c.in_ok-made-in-Comb.made c.in-Comb.f c.in-Comb.x c.in_ok-f-in-Comb.f c.in_ok-x-in-Comb.x c.in-Comb.ensures.3 c.in-Comb.ensures.2 (retyped_later c.args.tables.now c.retype_at.new.tables c.retype_at-in-Comb.new.tables c.args.pairs.now c.in-Comb.f c.in_ok-f-in-Comb.f c.in_ok-f-in-Comb.ensures.ok c.in_ok-x-in-Comb.ensures.retypes.grows) (retyped_from c.args.tables.now c.retype_at.new.tables c.retype_at-in-Comb.new.tables c.args.pairs.now c.in-Comb.x c.in_ok-x-in-Comb.x c.in_ok-f-in-Comb.ensures.retypes.grows c.requires.pairs (below_has c.args.tables.now c.args.term c.in-Comb.x c.requires.term c.in-Comb.ensures.1) c.in_ok-x-in-Comb.ensures.ok) c.in_ok-made-in-Comb.ensures.ok) c.note_term.ensures.noted

pub returns-in_ok-made-in-Comb-clause-ok : goal.returns-in_ok-made-in-Comb-clause-ok
returns-in_ok-made-in-Comb-clause-ok t c = IfOk-weaker c.note_term.result (λ y. y ≡ c.in_ok-made-in-Comb.made) (λ y. IsRetyped c.args.tables.now c.application.new.self c.args.pairs.now c.args.term y) (λ y e. subst (λ (z : TermId). IsRetyped c.args.tables.now c.application.new.self c.args.pairs.now c.args.term z) (sym e) (comb_retyped c.args.tables.now c.retype_at-in-Comb.new.tables c.application.new.self c.args.pairs.now c.args.term c.in_ok-made-in-Comb.made c.in-Comb.f c.in-Comb.x c.in_ok-f-in-Comb.f c.in_ok-x-in-Comb.x c.in-Comb.ensures.3 c.in-Comb.ensures.2 (retyped_later c.args.tables.now c.retype_at.new.tables c.retype_at-in-Comb.new.tables c.args.pairs.now c.in-Comb.f c.in_ok-f-in-Comb.f c.in_ok-f-in-Comb.ensures.ok c.in_ok-x-in-Comb.ensures.retypes.grows) (retyped_from c.args.tables.now c.retype_at.new.tables c.retype_at-in-Comb.new.tables c.args.pairs.now c.in-Comb.x c.in_ok-x-in-Comb.x c.in_ok-f-in-Comb.ensures.retypes.grows c.requires.pairs (below_has c.args.tables.now c.args.term c.in-Comb.x c.requires.term c.in-Comb.ensures.1) c.in_ok-x-in-Comb.ensures.ok) c.in_ok-made-in-Comb.ensures.ok)) c.note_term.ensures.same

pub type_instance_at-requires-clause-pairs : goal.type_instance_at-requires-clause-pairs
type_instance_at-requires-clause-pairs t c = pairs_on c.args.tables.now c.retype_at-in-Abs.new.tables c.args.pairs.now c.in_ok-b-in-Abs.ensures.retypes.grows c.requires.pairs

pub type_instance_at-requires-clause-ty : goal.type_instance_at-requires-clause-ty
type_instance_at-requires-clause-ty t c = c.in_ok-b-in-Abs.ensures.retypes.grows.has_type c.in-Abs.a c.in-Abs.ensures.0

pub returns-in_err-a-in-Abs-clause-retypes : goal.returns-in_err-a-in-Abs-clause-retypes
returns-in_err-a-in-Abs-clause-retypes t c = then_types c.args.tables.now c.retype_at-in-Abs.new.tables c.type_instance_at.new.tables c.args.pairs.now _ _ _ [] c.requires.pairs c.in_ok-b-in-Abs.ensures.retypes c.type_instance_at.ensures.takes

pub type_instance_at-requires-in-Abs-clause-pairs : goal.type_instance_at-requires-in-Abs-clause-pairs
type_instance_at-requires-in-Abs-clause-pairs t c = pairs_on c.args.tables.now c.type_instance_at.new.tables c.args.pairs.now (then_types c.args.tables.now c.retype_at-in-Abs.new.tables c.type_instance_at.new.tables c.args.pairs.now _ _ _ [] c.requires.pairs c.in_ok-b-in-Abs.ensures.retypes c.type_instance_at.ensures.takes).grows c.requires.pairs

pub type_instance_at-requires-in-Abs-clause-ty : goal.type_instance_at-requires-in-Abs-clause-ty
type_instance_at-requires-in-Abs-clause-ty t c = (then_types c.args.tables.now c.retype_at-in-Abs.new.tables c.type_instance_at.new.tables c.args.pairs.now _ _ _ [] c.requires.pairs c.in_ok-b-in-Abs.ensures.retypes c.type_instance_at.ensures.takes).grows.has_type c.type_of-ty.result c.type_of-ty.ensures.has

pub type_instance_at-requires-in-Abs-clause-memo : goal.type_instance_at-requires-in-Abs-clause-memo
type_instance_at-requires-in-Abs-clause-memo t c = (then_types c.args.tables.now c.retype_at-in-Abs.new.tables c.type_instance_at.new.tables c.args.pairs.now _ _ _ [] c.requires.pairs c.in_ok-b-in-Abs.ensures.retypes c.type_instance_at.ensures.takes).types

pub returns-in_err-ty-in-Abs-clause-retypes : goal.returns-in_err-ty-in-Abs-clause-retypes
returns-in_err-ty-in-Abs-clause-retypes t c = then_types c.args.tables.now c.type_instance_at.new.tables c.type_instance_at-in-Abs.new.tables c.args.pairs.now _ _ _ [] c.requires.pairs (then_types c.args.tables.now c.retype_at-in-Abs.new.tables c.type_instance_at.new.tables c.args.pairs.now _ _ _ [] c.requires.pairs c.in_ok-b-in-Abs.ensures.retypes c.type_instance_at.ensures.takes) c.type_instance_at-in-Abs.ensures.takes

pub abstraction-requires-clause-bound : goal.abstraction-requires-clause-bound
abstraction-requires-clause-bound t c = (type_later c.type_instance_at.new.tables c.type_instance_at-in-Abs.new.tables c.in_ok-a-in-Abs.a (type_instance_of c.args.tables.now c.args.pairs.now c.in-Abs.a) (type_from c.args.tables.now c.retype_at-in-Abs.new.tables c.type_instance_at.new.tables c.args.pairs.now c.in-Abs.a c.in_ok-a-in-Abs.a c.in_ok-b-in-Abs.ensures.retypes.grows c.requires.pairs c.in-Abs.ensures.0 c.in_ok-a-in-Abs.ensures.ok) (extends_types c.type_instance_at.new.tables c.type_instance_at-in-Abs.new.tables c.type_instance_at-in-Abs.ensures.takes.grows)).has

pub abstraction-requires-clause-body : goal.abstraction-requires-clause-body
abstraction-requires-clause-body t c = (retyped_later c.args.tables.now c.retype_at-in-Abs.new.tables c.type_instance_at-in-Abs.new.tables c.args.pairs.now c.in-Abs.b c.in_ok-b-in-Abs.b c.in_ok-b-in-Abs.ensures.ok (extends_further c.retype_at-in-Abs.new.tables c.type_instance_at.new.tables c.type_instance_at-in-Abs.new.tables (extends_types c.retype_at-in-Abs.new.tables c.type_instance_at.new.tables c.type_instance_at.ensures.takes.grows) (extends_types c.type_instance_at.new.tables c.type_instance_at-in-Abs.new.tables c.type_instance_at-in-Abs.ensures.takes.grows))).number.has

pub abstraction-requires-clause-typed : goal.abstraction-requires-clause-typed
abstraction-requires-clause-typed t c = abs_retyped_type c.args.tables.now c.type_instance_at-in-Abs.new.tables c.args.pairs.now c.args.term c.in-Abs.a c.in_ok-a-in-Abs.a c.type_of-ty.result c.in_ok-ty-in-Abs.ty c.in-Abs.b c.in_ok-b-in-Abs.b c.in-Abs.ensures.2 c.type_of-ty.ensures.ty (type_later c.type_instance_at.new.tables c.type_instance_at-in-Abs.new.tables c.in_ok-a-in-Abs.a (type_instance_of c.args.tables.now c.args.pairs.now c.in-Abs.a) (type_from c.args.tables.now c.retype_at-in-Abs.new.tables c.type_instance_at.new.tables c.args.pairs.now c.in-Abs.a c.in_ok-a-in-Abs.a c.in_ok-b-in-Abs.ensures.retypes.grows c.requires.pairs c.in-Abs.ensures.0 c.in_ok-a-in-Abs.ensures.ok) (extends_types c.type_instance_at.new.tables c.type_instance_at-in-Abs.new.tables c.type_instance_at-in-Abs.ensures.takes.grows)) (type_from c.args.tables.now c.type_instance_at.new.tables c.type_instance_at-in-Abs.new.tables c.args.pairs.now c.type_of-ty.result c.in_ok-ty-in-Abs.ty (then_types c.args.tables.now c.retype_at-in-Abs.new.tables c.type_instance_at.new.tables c.args.pairs.now _ _ _ [] c.requires.pairs c.in_ok-b-in-Abs.ensures.retypes c.type_instance_at.ensures.takes).grows c.requires.pairs c.type_of-ty.ensures.has c.in_ok-ty-in-Abs.ensures.ok) (retyped_later c.args.tables.now c.retype_at-in-Abs.new.tables c.type_instance_at-in-Abs.new.tables c.args.pairs.now c.in-Abs.b c.in_ok-b-in-Abs.b c.in_ok-b-in-Abs.ensures.ok (extends_further c.retype_at-in-Abs.new.tables c.type_instance_at.new.tables c.type_instance_at-in-Abs.new.tables (extends_types c.retype_at-in-Abs.new.tables c.type_instance_at.new.tables c.type_instance_at.ensures.takes.grows) (extends_types c.type_instance_at.new.tables c.type_instance_at-in-Abs.new.tables c.type_instance_at-in-Abs.ensures.takes.grows)))

pub returns-in_err-made-in-Abs-clause-retypes : goal.returns-in_err-made-in-Abs-clause-retypes
returns-in_err-made-in-Abs-clause-retypes t c = then_same c.args.tables.now c.type_instance_at-in-Abs.new.tables c.abstraction.new.self c.args.pairs.now _ [] _ [] c.requires.pairs (then_types c.args.tables.now c.type_instance_at.new.tables c.type_instance_at-in-Abs.new.tables c.args.pairs.now _ _ _ [] c.requires.pairs (then_types c.args.tables.now c.retype_at-in-Abs.new.tables c.type_instance_at.new.tables c.args.pairs.now _ _ _ [] c.requires.pairs c.in_ok-b-in-Abs.ensures.retypes c.type_instance_at.ensures.takes) c.type_instance_at-in-Abs.ensures.takes) c.in_err-made-in-Abs.ensures.err

pub returns-in_ok-made-in-Abs-clause-retypes : goal.returns-in_ok-made-in-Abs-clause-retypes
returns-in_ok-made-in-Abs-clause-retypes t c = then_noted c.args.tables.now c.abstraction.new.self c.abstraction.new.self c.args.pairs.now _ [] _ _ c.requires.pairs (then_added c.args.tables.now c.type_instance_at-in-Abs.new.tables c.abstraction.new.self c.args.pairs.now _ [] _ [] c.requires.pairs (then_types c.args.tables.now c.type_instance_at.new.tables c.type_instance_at-in-Abs.new.tables c.args.pairs.now _ _ _ [] c.requires.pairs (then_types c.args.tables.now c.retype_at-in-Abs.new.tables c.type_instance_at.new.tables c.args.pairs.now _ _ _ [] c.requires.pairs c.in_ok-b-in-Abs.ensures.retypes c.type_instance_at.ensures.takes) c.type_instance_at-in-Abs.ensures.takes) c.in_ok-made-in-Abs.made _ c.in_ok-made-in-Abs.ensures.ok) c.args.term c.in_ok-made-in-Abs.made c.requires.term (abs_retyped c.args.tables.now c.type_instance_at-in-Abs.new.tables c.abstraction.new.self c.args.pairs.now c.args.term c.in_ok-made-in-Abs.made c.in-Abs.a c.in_ok-a-in-Abs.a c.in-Abs.b c.in_ok-b-in-Abs.b c.in-Abs.ensures.2 (type_later c.type_instance_at.new.tables c.type_instance_at-in-Abs.new.tables c.in_ok-a-in-Abs.a (type_instance_of c.args.tables.now c.args.pairs.now c.in-Abs.a) (type_from c.args.tables.now c.retype_at-in-Abs.new.tables c.type_instance_at.new.tables c.args.pairs.now c.in-Abs.a c.in_ok-a-in-Abs.a c.in_ok-b-in-Abs.ensures.retypes.grows c.requires.pairs c.in-Abs.ensures.0 c.in_ok-a-in-Abs.ensures.ok) (extends_types c.type_instance_at.new.tables c.type_instance_at-in-Abs.new.tables c.type_instance_at-in-Abs.ensures.takes.grows)) (retyped_later c.args.tables.now c.retype_at-in-Abs.new.tables c.type_instance_at-in-Abs.new.tables c.args.pairs.now c.in-Abs.b c.in_ok-b-in-Abs.b c.in_ok-b-in-Abs.ensures.ok (extends_further c.retype_at-in-Abs.new.tables c.type_instance_at.new.tables c.type_instance_at-in-Abs.new.tables (extends_types c.retype_at-in-Abs.new.tables c.type_instance_at.new.tables c.type_instance_at.ensures.takes.grows) (extends_types c.type_instance_at.new.tables c.type_instance_at-in-Abs.new.tables c.type_instance_at-in-Abs.ensures.takes.grows))) c.in_ok-made-in-Abs.ensures.ok) c.note_term-in-Abs.ensures.noted

pub returns-in_ok-made-in-Abs-clause-ok : goal.returns-in_ok-made-in-Abs-clause-ok
returns-in_ok-made-in-Abs-clause-ok t c = IfOk-weaker c.note_term-in-Abs.result (λ y. y ≡ c.in_ok-made-in-Abs.made) (λ y. IsRetyped c.args.tables.now c.abstraction.new.self c.args.pairs.now c.args.term y) (λ y e. subst (λ (z : TermId). IsRetyped c.args.tables.now c.abstraction.new.self c.args.pairs.now c.args.term z) (sym e) (abs_retyped c.args.tables.now c.type_instance_at-in-Abs.new.tables c.abstraction.new.self c.args.pairs.now c.args.term c.in_ok-made-in-Abs.made c.in-Abs.a c.in_ok-a-in-Abs.a c.in-Abs.b c.in_ok-b-in-Abs.b c.in-Abs.ensures.2 (type_later c.type_instance_at.new.tables c.type_instance_at-in-Abs.new.tables c.in_ok-a-in-Abs.a (type_instance_of c.args.tables.now c.args.pairs.now c.in-Abs.a) (type_from c.args.tables.now c.retype_at-in-Abs.new.tables c.type_instance_at.new.tables c.args.pairs.now c.in-Abs.a c.in_ok-a-in-Abs.a c.in_ok-b-in-Abs.ensures.retypes.grows c.requires.pairs c.in-Abs.ensures.0 c.in_ok-a-in-Abs.ensures.ok) (extends_types c.type_instance_at.new.tables c.type_instance_at-in-Abs.new.tables c.type_instance_at-in-Abs.ensures.takes.grows)) (retyped_later c.args.tables.now c.retype_at-in-Abs.new.tables c.type_instance_at-in-Abs.new.tables c.args.pairs.now c.in-Abs.b c.in_ok-b-in-Abs.b c.in_ok-b-in-Abs.ensures.ok (extends_further c.retype_at-in-Abs.new.tables c.type_instance_at.new.tables c.type_instance_at-in-Abs.new.tables (extends_types c.retype_at-in-Abs.new.tables c.type_instance_at.new.tables c.type_instance_at.ensures.takes.grows) (extends_types c.type_instance_at.new.tables c.type_instance_at-in-Abs.new.tables c.type_instance_at-in-Abs.ensures.takes.grows))) c.in_ok-made-in-Abs.ensures.ok)) c.note_term-in-Abs.ensures.same

pub returns-in_err-ty-in-Index-clause-retypes : goal.returns-in_err-ty-in-Index-clause-retypes
returns-in_err-ty-in-Index-clause-retypes t c = then_types c.args.tables.now c.args.tables.now c.type_instance_at-in-Index.new.tables c.args.pairs.now _ _ _ [] c.requires.pairs (retypes_itself c.args.tables.now c.args.pairs.now c.args.known.now.types.entries c.args.known.now.terms.entries c.requires.types c.requires.terms) c.type_instance_at-in-Index.ensures.takes

pub returns-in_ok-ty-in-Index-clause-retypes : goal.returns-in_ok-ty-in-Index-clause-retypes
returns-in_ok-ty-in-Index-clause-retypes t c = then_either c.args.tables.now c.type_instance_at-in-Index.new.tables c.index.new.self c.args.pairs.now _ [] _ [] c.requires.pairs (then_types c.args.tables.now c.args.tables.now c.type_instance_at-in-Index.new.tables c.args.pairs.now _ _ _ [] c.requires.pairs (retypes_itself c.args.tables.now c.args.pairs.now c.args.known.now.types.entries c.args.known.now.terms.entries c.requires.types c.requires.terms) c.type_instance_at-in-Index.ensures.takes) _ c.index.result c.index.ensures.ok c.index.ensures.err

pub returns-in_ok-ty-in-Index-clause-ok : goal.returns-in_ok-ty-in-Index-clause-ok
returns-in_ok-ty-in-Index-clause-ok t c = IfOk-weaker c.index.result (λ y. IsTermAdded c.type_instance_at-in-Index.new.tables c.index.new.self y (tm_index c.in-Index.index (type_of c.type_instance_at-in-Index.new.tables c.in_ok-ty-in-Index.ty))) (λ y. IsRetyped c.args.tables.now c.index.new.self c.args.pairs.now c.args.term y) (λ r a. index_retyped c.args.tables.now c.type_instance_at-in-Index.new.tables c.index.new.self c.args.pairs.now c.args.term r c.in-Index.index c.in-Index.ty c.in_ok-ty-in-Index.ty c.in-Index.ensures.1 c.in_ok-ty-in-Index.ensures.ok a) c.index.ensures.ok

pub returns-in_err-args-in-Const-clause-retypes : goal.returns-in_err-args-in-Const-clause-retypes
returns-in_err-args-in-Const-clause-retypes t c = retypes_itself c.args.tables.now c.args.pairs.now c.args.known.now.types.entries c.args.known.now.terms.entries c.requires.types c.requires.terms

pub returns-in_err-args-in-Const-2-clause-retypes : goal.returns-in_err-args-in-Const-2-clause-retypes
returns-in_err-args-in-Const-2-clause-retypes t c = then_types c.args.tables.now c.args.tables.now c.type_instances_at.new.tables c.args.pairs.now _ _ _ [] c.requires.pairs (retypes_itself c.args.tables.now c.args.pairs.now c.args.known.now.types.entries c.args.known.now.terms.entries c.requires.types c.requires.terms) c.type_instances_at.ensures.takes

pub type_instances_at-requires-clause-types : goal.type_instances_at-requires-clause-types
type_instances_at-requires-clause-types t c = subst (λ (l : List TypeId). HasTypes c.args.tables.now l) (sym (c.as_slice.ensures.value ∙ c.in_ok-args-in-Const.ensures)) c.in-Const.ensures.1

pub type_instance_at-requires-in-Const-clause-pairs : goal.type_instance_at-requires-in-Const-clause-pairs
type_instance_at-requires-in-Const-clause-pairs t c = pairs_on c.args.tables.now c.type_instances_at.new.tables c.args.pairs.now (then_types c.args.tables.now c.args.tables.now c.type_instances_at.new.tables c.args.pairs.now _ _ _ [] c.requires.pairs (retypes_itself c.args.tables.now c.args.pairs.now c.args.known.now.types.entries c.args.known.now.terms.entries c.requires.types c.requires.terms) c.type_instances_at.ensures.takes).grows c.requires.pairs

pub type_instance_at-requires-in-Const-clause-ty : goal.type_instance_at-requires-in-Const-clause-ty
type_instance_at-requires-in-Const-clause-ty t c = (then_types c.args.tables.now c.args.tables.now c.type_instances_at.new.tables c.args.pairs.now _ _ _ [] c.requires.pairs (retypes_itself c.args.tables.now c.args.pairs.now c.args.known.now.types.entries c.args.known.now.terms.entries c.requires.types c.requires.terms) c.type_instances_at.ensures.takes).grows.has_type c.in-Const.ty c.in-Const.ensures.2

pub type_instance_at-requires-in-Const-clause-memo : goal.type_instance_at-requires-in-Const-clause-memo
type_instance_at-requires-in-Const-clause-memo t c = (then_types c.args.tables.now c.args.tables.now c.type_instances_at.new.tables c.args.pairs.now _ _ _ [] c.requires.pairs (retypes_itself c.args.tables.now c.args.pairs.now c.args.known.now.types.entries c.args.known.now.terms.entries c.requires.types c.requires.terms) c.type_instances_at.ensures.takes).types

pub returns-in_err-ty-in-Const-clause-retypes : goal.returns-in_err-ty-in-Const-clause-retypes
returns-in_err-ty-in-Const-clause-retypes t c = then_types c.args.tables.now c.type_instances_at.new.tables c.type_instance_at-in-Const.new.tables c.args.pairs.now _ _ _ [] c.requires.pairs (then_types c.args.tables.now c.args.tables.now c.type_instances_at.new.tables c.args.pairs.now _ _ _ [] c.requires.pairs (retypes_itself c.args.tables.now c.args.pairs.now c.args.known.now.types.entries c.args.known.now.terms.entries c.requires.types c.requires.terms) c.type_instances_at.ensures.takes) c.type_instance_at-in-Const.ensures.takes

pub constant-requires-clause-args : goal.constant-requires-clause-args
constant-requires-clause-args t c = (types_there c.type_instances_at.new.tables c.type_instance_at-in-Const.new.tables c.as_slice-in-Const.result.now c.type_instance_at-in-Const.ensures.takes.grows (subst (λ (rs : List TypeId). AreTypeInstances c.args.tables.now c.type_instances_at.new.tables c.args.pairs.now c.as_slice.result.now rs) (sym c.as_slice-in-Const.ensures.value) c.in_ok-args-in-Const-2.ensures.ok).has).0

pub constant-requires-clause-name : goal.constant-requires-clause-name
constant-requires-clause-name t c = subst (λ (ns : List Name). c.in-Const.name.0 < length ns) (sym (then_types c.args.tables.now c.type_instances_at.new.tables c.type_instance_at-in-Const.new.tables c.args.pairs.now _ _ _ [] c.requires.pairs (then_types c.args.tables.now c.args.tables.now c.type_instances_at.new.tables c.args.pairs.now _ _ _ [] c.requires.pairs (retypes_itself c.args.tables.now c.args.pairs.now c.args.known.now.types.entries c.args.known.now.terms.entries c.requires.types c.requires.terms) c.type_instances_at.ensures.takes) c.type_instance_at-in-Const.ensures.takes).grows.names) c.in-Const.ensures.0

pub returns-in_ok-ty-in-Const-clause-retypes : goal.returns-in_ok-ty-in-Const-clause-retypes
returns-in_ok-ty-in-Const-clause-retypes t c = then_either c.args.tables.now c.type_instance_at-in-Const.new.tables c.constant.new.self c.args.pairs.now _ [] _ [] c.requires.pairs (then_types c.args.tables.now c.type_instances_at.new.tables c.type_instance_at-in-Const.new.tables c.args.pairs.now _ _ _ [] c.requires.pairs (then_types c.args.tables.now c.args.tables.now c.type_instances_at.new.tables c.args.pairs.now _ _ _ [] c.requires.pairs (retypes_itself c.args.tables.now c.args.pairs.now c.args.known.now.types.entries c.args.known.now.terms.entries c.requires.types c.requires.terms) c.type_instances_at.ensures.takes) c.type_instance_at-in-Const.ensures.takes) _ c.constant.result c.constant.ensures.ok c.constant.ensures.err

pub returns-in_ok-ty-in-Const-clause-ok : goal.returns-in_ok-ty-in-Const-clause-ok
returns-in_ok-ty-in-Const-clause-ok t c = IfOk-weaker c.constant.result (λ y. IsTermAdded c.type_instance_at-in-Const.new.tables c.constant.new.self y (tm_const (name_of c.type_instance_at-in-Const.new.tables c.in-Const.name) (types_of c.type_instance_at-in-Const.new.tables c.as_slice-in-Const.result.now) (type_of c.type_instance_at-in-Const.new.tables c.in_ok-ty-in-Const.ty))) (λ y. IsRetyped c.args.tables.now c.constant.new.self c.args.pairs.now c.args.term y) (λ r a. const_retyped c.args.tables.now c.type_instance_at-in-Const.new.tables c.constant.new.self c.args.pairs.now c.args.term r c.in-Const.name c.in-Const.args.now c.as_slice-in-Const.result.now c.in-Const.ty c.in_ok-ty-in-Const.ty (then_types c.args.tables.now c.type_instances_at.new.tables c.type_instance_at-in-Const.new.tables c.args.pairs.now _ _ _ [] c.requires.pairs (then_types c.args.tables.now c.args.tables.now c.type_instances_at.new.tables c.args.pairs.now _ _ _ [] c.requires.pairs (retypes_itself c.args.tables.now c.args.pairs.now c.args.known.now.types.entries c.args.known.now.terms.entries c.requires.types c.requires.terms) c.type_instances_at.ensures.takes) c.type_instance_at-in-Const.ensures.takes).grows.names c.in-Const.ensures.3 ((types_there c.type_instances_at.new.tables c.type_instance_at-in-Const.new.tables c.as_slice-in-Const.result.now c.type_instance_at-in-Const.ensures.takes.grows (subst (λ (rs : List TypeId). AreTypeInstances c.args.tables.now c.type_instances_at.new.tables c.args.pairs.now c.as_slice.result.now rs) (sym c.as_slice-in-Const.ensures.value) c.in_ok-args-in-Const-2.ensures.ok).has).1 ∙ (subst (λ (rs : List TypeId). AreTypeInstances c.args.tables.now c.type_instances_at.new.tables c.args.pairs.now c.as_slice.result.now rs) (sym c.as_slice-in-Const.ensures.value) c.in_ok-args-in-Const-2.ensures.ok).trees ∙ ap (map (type_instance_of c.args.tables.now c.args.pairs.now)) (c.as_slice.ensures.value ∙ c.in_ok-args-in-Const.ensures)) (type_from c.args.tables.now c.type_instances_at.new.tables c.type_instance_at-in-Const.new.tables c.args.pairs.now c.in-Const.ty c.in_ok-ty-in-Const.ty (then_types c.args.tables.now c.args.tables.now c.type_instances_at.new.tables c.args.pairs.now _ _ _ [] c.requires.pairs (retypes_itself c.args.tables.now c.args.pairs.now c.args.known.now.types.entries c.args.known.now.terms.entries c.requires.types c.requires.terms) c.type_instances_at.ensures.takes).grows c.requires.pairs c.in-Const.ensures.2 c.in_ok-ty-in-Const.ensures.ok) a) c.constant.ensures.ok

pub returns-in_err-ty-in-Free-clause-retypes : goal.returns-in_err-ty-in-Free-clause-retypes
returns-in_err-ty-in-Free-clause-retypes t c = then_types c.args.tables.now c.args.tables.now c.type_instance_at-in-Free.new.tables c.args.pairs.now _ _ _ [] c.requires.pairs (retypes_itself c.args.tables.now c.args.pairs.now c.args.known.now.types.entries c.args.known.now.terms.entries c.requires.types c.requires.terms) c.type_instance_at-in-Free.ensures.takes

pub free-requires-clause-name : goal.free-requires-clause-name
free-requires-clause-name t c = subst (λ (ns : List Name). c.in-Free.name.0 < length ns) (sym (then_types c.args.tables.now c.args.tables.now c.type_instance_at-in-Free.new.tables c.args.pairs.now _ _ _ [] c.requires.pairs (retypes_itself c.args.tables.now c.args.pairs.now c.args.known.now.types.entries c.args.known.now.terms.entries c.requires.types c.requires.terms) c.type_instance_at-in-Free.ensures.takes).grows.names) c.in-Free.ensures.0

pub returns-in_ok-ty-in-Free-clause-retypes : goal.returns-in_ok-ty-in-Free-clause-retypes
returns-in_ok-ty-in-Free-clause-retypes t c = then_either c.args.tables.now c.type_instance_at-in-Free.new.tables c.free.new.self c.args.pairs.now _ [] _ [] c.requires.pairs (then_types c.args.tables.now c.args.tables.now c.type_instance_at-in-Free.new.tables c.args.pairs.now _ _ _ [] c.requires.pairs (retypes_itself c.args.tables.now c.args.pairs.now c.args.known.now.types.entries c.args.known.now.terms.entries c.requires.types c.requires.terms) c.type_instance_at-in-Free.ensures.takes) _ c.free.result c.free.ensures.ok c.free.ensures.err

pub returns-in_ok-ty-in-Free-clause-ok : goal.returns-in_ok-ty-in-Free-clause-ok
returns-in_ok-ty-in-Free-clause-ok t c = IfOk-weaker c.free.result (λ y. IsTermAdded c.type_instance_at-in-Free.new.tables c.free.new.self y (tm_free (record { name = name_of c.type_instance_at-in-Free.new.tables c.in-Free.name; ty = type_of c.type_instance_at-in-Free.new.tables c.in_ok-ty-in-Free.ty }))) (λ y. IsRetyped c.args.tables.now c.free.new.self c.args.pairs.now c.args.term y) (λ r a. free_retyped c.args.tables.now c.type_instance_at-in-Free.new.tables c.free.new.self c.args.pairs.now c.args.term r c.in-Free.name c.in-Free.ty c.in_ok-ty-in-Free.ty (then_types c.args.tables.now c.args.tables.now c.type_instance_at-in-Free.new.tables c.args.pairs.now _ _ _ [] c.requires.pairs (retypes_itself c.args.tables.now c.args.pairs.now c.args.known.now.types.entries c.args.known.now.terms.entries c.requires.types c.requires.terms) c.type_instance_at-in-Free.ensures.takes).grows.names c.in-Free.ensures.2 c.in_ok-ty-in-Free.ensures.ok a) c.free.ensures.ok
