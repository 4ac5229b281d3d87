use Rattle.std.proofs.Common.{◌∙◌, arith}
use Rattle.std.specs.Ordering.{nat_cmp, ordering_then}
use Rattle.std.specs.Cmp.Lexicographic.{slice_cmp}
use Rattle.hol_terms.specs.Subst.{name_cmp, ty_cmp}
use Rattle.hol_terms.specs.Binding.{tm_cmp}
use Rattle.flat_terms.specs.Plain.{name_of, type_of, types_of, term_of}
use Rattle.flat_walks.proofs.Steps.{below_has}
use Rattle.flat_instances.proofs.OrderSteps.{terms_tie, decided, undecided, by_terms, lists_order}
use Rattle.flat_instances.proofs.compare.+compare.Goals as goal

pub returns-then-same_term : goal.returns-then-same_term
returns-then-same_term t c = terms_tie (term_of c.args.tables.now c.args.a) (term_of c.args.tables.now c.args.b) (c.same_term.ensures.0 c.if-same_term.true)

pub compare-requires : goal.compare-requires
compare-requires t c = (omega (arith, c.decreases, c.in-Comb-Comb.ensures.0), (below_has c.args.tables.now c.args.a c.in-Comb-Comb.f c.requires.a c.in-Comb-Comb.ensures.0, below_has c.args.tables.now c.args.b c.in-Comb-Comb.g c.requires.b c.in-Comb-Comb.ensures'.0))

pub compare-requires-in-Equal-compare : goal.compare-requires-in-Equal-compare
compare-requires-in-Equal-compare t c = (omega (arith, c.decreases, c.in-Comb-Comb.ensures.1), (below_has c.args.tables.now c.args.a c.in-Comb-Comb.x c.requires.a c.in-Comb-Comb.ensures.1, below_has c.args.tables.now c.args.b c.in-Comb-Comb.y c.requires.b c.in-Comb-Comb.ensures'.1))

pub compare-requires-in-Equal-compare_types : goal.compare-requires-in-Equal-compare_types
compare-requires-in-Equal-compare_types t c = (omega (arith, c.decreases, c.in-Abs-Abs.ensures.1), (below_has c.args.tables.now c.args.a c.in-Abs-Abs.c c.requires.a c.in-Abs-Abs.ensures.1, below_has c.args.tables.now c.args.b c.in-Abs-Abs.d c.requires.b c.in-Abs-Abs.ensures'.1))

pub returns-in-Equal : goal.returns-in-Equal
returns-in-Equal t c = by_terms _ _ _ _ _ c.in-Index-Index.ensures.1 c.in-Index-Index.ensures'.1 (c.compare_types.ensures ∙ undecided (nat_cmp c.in-Index-Index.i c.in-Index-Index.j) (ty_cmp (type_of c.args.tables.now c.in-Index-Index.t) (type_of c.args.tables.now c.in-Index-Index.u)) c.in-Equal.ensures)

pub returns-in_default : goal.returns-in_default
returns-in_default t c = by_terms _ _ _ _ _ c.in-Index-Index.ensures.1 c.in-Index-Index.ensures'.1 (decided c.cmp.result (nat_cmp c.in-Index-Index.i c.in-Index-Index.j) (ty_cmp (type_of c.args.tables.now c.in-Index-Index.t) (type_of c.args.tables.now c.in-Index-Index.u)) c.cmp.ensures c.in_default.not-Equal)

pub returns-in-Equal-compare_names : goal.returns-in-Equal-compare_names
returns-in-Equal-compare_names t c = by_terms _ _ _ _ _ c.in-Free-Free.ensures.2 c.in-Free-Free.ensures'.2 (c.compare_types-in-Equal-compare_names.ensures ∙ undecided (name_cmp (name_of c.args.tables.now c.in-Free-Free.m) (name_of c.args.tables.now c.in-Free-Free.n)) (ty_cmp (type_of c.args.tables.now c.in-Free-Free.t) (type_of c.args.tables.now c.in-Free-Free.u)) c.in-Equal-compare_names.ensures)

pub returns-in_default-compare_names : goal.returns-in_default-compare_names
returns-in_default-compare_names t c = by_terms _ _ _ _ _ c.in-Free-Free.ensures.2 c.in-Free-Free.ensures'.2 (decided c.compare_names.result (name_cmp (name_of c.args.tables.now c.in-Free-Free.m) (name_of c.args.tables.now c.in-Free-Free.n)) (ty_cmp (type_of c.args.tables.now c.in-Free-Free.t) (type_of c.args.tables.now c.in-Free-Free.u)) c.compare_names.ensures c.in_default-compare_names.not-Equal)

pub returns-in-Equal-compare_lists : goal.returns-in-Equal-compare_lists
returns-in-Equal-compare_lists t c = by_terms _ _ _ _ _ c.in-Const-Const.ensures.3 c.in-Const-Const.ensures'.3 (c.compare_types-in-Equal-compare_lists.ensures ∙ undecided (slice_cmp ty_cmp (types_of c.args.tables.now c.in-Const-Const.ts.now) (types_of c.args.tables.now c.in-Const-Const.us.now)) (ty_cmp (type_of c.args.tables.now c.in-Const-Const.t) (type_of c.args.tables.now c.in-Const-Const.u)) (c.in-Equal-compare_lists.ensures ∙ lists_order c.args.tables.now c.in-Const-Const.ts.now c.in-Const-Const.us.now) ∙ undecided (name_cmp (name_of c.args.tables.now c.in-Const-Const.m) (name_of c.args.tables.now c.in-Const-Const.n)) (ordering_then (slice_cmp ty_cmp (types_of c.args.tables.now c.in-Const-Const.ts.now) (types_of c.args.tables.now c.in-Const-Const.us.now)) (ty_cmp (type_of c.args.tables.now c.in-Const-Const.t) (type_of c.args.tables.now c.in-Const-Const.u))) c.in-Equal-compare_names-2.ensures)

pub returns-in_default-compare_lists : goal.returns-in_default-compare_lists
returns-in_default-compare_lists t c = by_terms _ _ _ _ _ c.in-Const-Const.ensures.3 c.in-Const-Const.ensures'.3 (decided c.compare_lists.result (slice_cmp ty_cmp (types_of c.args.tables.now c.in-Const-Const.ts.now) (types_of c.args.tables.now c.in-Const-Const.us.now)) (ty_cmp (type_of c.args.tables.now c.in-Const-Const.t) (type_of c.args.tables.now c.in-Const-Const.u)) (c.compare_lists.ensures ∙ lists_order c.args.tables.now c.in-Const-Const.ts.now c.in-Const-Const.us.now) c.in_default-compare_lists.not-Equal ∙ undecided (name_cmp (name_of c.args.tables.now c.in-Const-Const.m) (name_of c.args.tables.now c.in-Const-Const.n)) (ordering_then (slice_cmp ty_cmp (types_of c.args.tables.now c.in-Const-Const.ts.now) (types_of c.args.tables.now c.in-Const-Const.us.now)) (ty_cmp (type_of c.args.tables.now c.in-Const-Const.t) (type_of c.args.tables.now c.in-Const-Const.u))) c.in-Equal-compare_names-2.ensures)

pub returns-in_default-compare_names-2 : goal.returns-in_default-compare_names-2
returns-in_default-compare_names-2 t c = by_terms _ _ _ _ _ c.in-Const-Const.ensures.3 c.in-Const-Const.ensures'.3 (decided c.compare_names-in-Const-Const.result (name_cmp (name_of c.args.tables.now c.in-Const-Const.m) (name_of c.args.tables.now c.in-Const-Const.n)) (ordering_then (slice_cmp ty_cmp (types_of c.args.tables.now c.in-Const-Const.ts.now) (types_of c.args.tables.now c.in-Const-Const.us.now)) (ty_cmp (type_of c.args.tables.now c.in-Const-Const.t) (type_of c.args.tables.now c.in-Const-Const.u))) c.compare_names-in-Const-Const.ensures c.in_default-compare_names-2.not-Equal)

pub returns-in-Equal-compare : goal.returns-in-Equal-compare
returns-in-Equal-compare t c = by_terms _ _ _ _ _ c.in-Comb-Comb.ensures.3 c.in-Comb-Comb.ensures'.3 (c.compare-in-Equal-compare.ensures ∙ undecided (tm_cmp (term_of c.args.tables.now c.in-Comb-Comb.f) (term_of c.args.tables.now c.in-Comb-Comb.g)) (tm_cmp (term_of c.args.tables.now c.in-Comb-Comb.x) (term_of c.args.tables.now c.in-Comb-Comb.y)) c.in-Equal-compare.ensures)

pub returns-in_default-compare : goal.returns-in_default-compare
returns-in_default-compare t c = by_terms _ _ _ _ _ c.in-Comb-Comb.ensures.3 c.in-Comb-Comb.ensures'.3 (decided c.compare.result (tm_cmp (term_of c.args.tables.now c.in-Comb-Comb.f) (term_of c.args.tables.now c.in-Comb-Comb.g)) (tm_cmp (term_of c.args.tables.now c.in-Comb-Comb.x) (term_of c.args.tables.now c.in-Comb-Comb.y)) c.compare.ensures c.in_default-compare.not-Equal)

pub returns-in-Equal-compare_types : goal.returns-in-Equal-compare_types
returns-in-Equal-compare_types t c = by_terms _ _ _ _ _ c.in-Abs-Abs.ensures.2 c.in-Abs-Abs.ensures'.2 (c.compare-in-Equal-compare_types.ensures ∙ undecided (ty_cmp (type_of c.args.tables.now c.in-Abs-Abs.t) (type_of c.args.tables.now c.in-Abs-Abs.u)) (tm_cmp (term_of c.args.tables.now c.in-Abs-Abs.c) (term_of c.args.tables.now c.in-Abs-Abs.d)) c.in-Equal-compare_types.ensures)

pub returns-in_default-compare_types : goal.returns-in_default-compare_types
returns-in_default-compare_types t c = by_terms _ _ _ _ _ c.in-Abs-Abs.ensures.2 c.in-Abs-Abs.ensures'.2 (decided c.compare_types-in-Abs-Abs.result (ty_cmp (type_of c.args.tables.now c.in-Abs-Abs.t) (type_of c.args.tables.now c.in-Abs-Abs.u)) (tm_cmp (term_of c.args.tables.now c.in-Abs-Abs.c) (term_of c.args.tables.now c.in-Abs-Abs.d)) c.compare_types-in-Abs-Abs.ensures c.in_default-compare_types.not-Equal)
