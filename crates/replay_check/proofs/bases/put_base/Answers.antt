use Rattle.flat_instances.proofs.TablesGrow.{tables_grow_further}
use Rattle.replay_check.proofs.BaseReads.{not_in_force, never_past, text_over, put_constant, put_type}
use Rattle.replay_check.proofs.bases.put_base.Goals as goal

pub returns-then-place-ge-BASE_DEFINITIONS-clause-ok : goal.returns-then-place-ge-BASE_DEFINITIONS-clause-ok
returns-then-place-ge-BASE_DEFINITIONS-clause-ok c = not_in_force c.args.place c.if-place-ge-BASE_DEFINITIONS.true

pub unreachable-requires : goal.unreachable-requires
unreachable-requires c = never_past c.args.place c.if-place-ge-BASE_DEFINITIONS.false c.in_default.ensures.none

pub put_term-requires-clause-text : goal.put_term-requires-clause-text
put_term-requires-clause-text c =
    text_over c.in-Some.text _ c.args.place c.in-Some.ensures.some.0 c.in-Some.ensures.some.1 c.in-Some.ensures.some.2 (c.requires.before c.if-place-ge-BASE_DEFINITIONS.false)

pub returns-in_err-name-clause-grows : goal.returns-in_err-name-clause-grows
returns-in_err-name-clause-grows c = tables_grow_further _ _ _ c.put_term.ensures.grows c.put_name.ensures.grows

pub returns-in-Constant-clause-grows : goal.returns-in-Constant-clause-grows
returns-in-Constant-clause-grows c = tables_grow_further _ _ _ c.put_term.ensures.grows c.put_name.ensures.grows

pub returns-in-NewType-clause-grows : goal.returns-in-NewType-clause-grows
returns-in-NewType-clause-grows c = tables_grow_further _ _ _ c.put_term.ensures.grows c.put_name.ensures.grows

pub returns-in-Constant-clause-ok : goal.returns-in-Constant-clause-ok
returns-in-Constant-clause-ok c =
    put_constant c.in-Some.text _ _ _ c.args.place c.in-Some.ensures.some.0 c.in_ok-name.name c.in_ok-term.«term» c.if-place-ge-BASE_DEFINITIONS.false c.in-Some.ensures.some.1 c.in-Some.ensures.some.2 (c.requires.before c.if-place-ge-BASE_DEFINITIONS.false) c.in-Constant.is c.in_ok-term.ensures.ok c.put_name.ensures.grows c.in_ok-name.ensures.ok

pub returns-in-NewType-clause-ok : goal.returns-in-NewType-clause-ok
returns-in-NewType-clause-ok c =
    put_type c.in-Some.text _ _ _ c.args.place c.in-Some.ensures.some.0 c.in_ok-name.name c.in_ok-term.«term» c.if-place-ge-BASE_DEFINITIONS.false c.in-Some.ensures.some.1 c.in-Some.ensures.some.2 (c.requires.before c.if-place-ge-BASE_DEFINITIONS.false) c.in-NewType.is c.in_ok-term.ensures.ok c.put_name.ensures.grows c.in_ok-name.ensures.ok
