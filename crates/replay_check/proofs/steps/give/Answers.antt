use Rattle.std.proofs.Common.{refl, sym, ◌∙◌, subst}
use Rattle.hol_terms.specs.Rules.{trans_rule, comb_rule, abs_rule, assume_rule, eq_mp_rule, deduct_rule, inst_type_rule, inst_rule}
use Rattle.hol_logs.specs.Step.{step_trans, step_comb, step_abs, step_mp, step_deduct, step_inst_type, step_inst, sequent_at, step_gives}
use Rattle.flat_terms.specs.Plain.{term_of}
use Rattle.flat_walks.specs.Walk.{var_of}
use Rattle.flat_instances.specs.Types.{type_pairs}
use Rattle.flat_instances.specs.Terms.{term_pairs}
use Rattle.flat_rules.specs.Sequents.{sequent_of}
use Rattle.flat_lines.specs.Lines.{IsFlatStep}
use Rattle.replay_check.specs.Definitions.{definitions_of, sequents_of}
use Rattle.replay_check.proofs.Booleans.{assume_boolean, inst_boolean}
use Rattle.replay_check.proofs.Giving.{at_has, one_given, two_given, boolean_answer, if_ok_of, if_ok_both, typed_answer}
use Rattle.replay_check.proofs.steps.give.Goals as goal

pub trans-requires-clause-a : goal.trans-requires-clause-a
trans-requires-clause-a c = (at_has c.args.tables.now c.args.sequents.now c.in-Trans.i c.sequent.result.now c.requires.sequents c.sequent.ensures).0

pub trans-requires-clause-b : goal.trans-requires-clause-b
trans-requires-clause-b c = (at_has c.args.tables.now c.args.sequents.now c.in-Trans.j c.sequent-in-Trans.result.now c.requires.sequents c.sequent-in-Trans.ensures).0

pub returns-in-Trans-clause-ok : goal.returns-in-Trans-clause-ok
returns-in-Trans-clause-ok c = if_ok_of c.trans.result c.trans.ensures.ok (λ r h l m. two_given c.args.tables.now c.trans.new.tables c.args.sequents.now c.in-Trans.i c.in-Trans.j c.sequent.result.now c.sequent-in-Trans.result.now r (step_gives (definitions_of c.args.tables.now c.args.definitions.now) (sequents_of c.args.tables.now c.args.sequents.now)) trans_rule step_trans (λ x y. refl) c.sequent.ensures c.sequent-in-Trans.ensures h l (subst (λ s. IsFlatStep c.args.tables.now s l) c.in-Trans.is m))

pub comb-requires-clause-a : goal.comb-requires-clause-a
comb-requires-clause-a c = (at_has c.args.tables.now c.args.sequents.now c.in-Comb.i c.sequent-in-Comb.result.now c.requires.sequents c.sequent-in-Comb.ensures).0

pub comb-requires-clause-b : goal.comb-requires-clause-b
comb-requires-clause-b c = (at_has c.args.tables.now c.args.sequents.now c.in-Comb.j c.sequent-in-Comb-2.result.now c.requires.sequents c.sequent-in-Comb-2.ensures).0

pub returns-in-Comb-clause-ok : goal.returns-in-Comb-clause-ok
returns-in-Comb-clause-ok c = if_ok_of c.comb.result c.comb.ensures.ok (λ r h l m. two_given c.args.tables.now c.comb.new.tables c.args.sequents.now c.in-Comb.i c.in-Comb.j c.sequent-in-Comb.result.now c.sequent-in-Comb-2.result.now r (step_gives (definitions_of c.args.tables.now c.args.definitions.now) (sequents_of c.args.tables.now c.args.sequents.now)) comb_rule step_comb (λ x y. refl) c.sequent-in-Comb.ensures c.sequent-in-Comb-2.ensures h l (subst (λ s. IsFlatStep c.args.tables.now s l) c.in-Comb.is m))

pub modus_ponens-requires-clause-a : goal.modus_ponens-requires-clause-a
modus_ponens-requires-clause-a c = (at_has c.args.tables.now c.args.sequents.now c.in-Mp.i c.sequent-in-Mp.result.now c.requires.sequents c.sequent-in-Mp.ensures).0

pub modus_ponens-requires-clause-b : goal.modus_ponens-requires-clause-b
modus_ponens-requires-clause-b c = (at_has c.args.tables.now c.args.sequents.now c.in-Mp.j c.sequent-in-Mp-2.result.now c.requires.sequents c.sequent-in-Mp-2.ensures).0

pub returns-in-Mp-clause-ok : goal.returns-in-Mp-clause-ok
returns-in-Mp-clause-ok c = if_ok_of c.modus_ponens.result c.modus_ponens.ensures.ok (λ r h l m. two_given c.args.tables.now c.args.tables.now c.args.sequents.now c.in-Mp.i c.in-Mp.j c.sequent-in-Mp.result.now c.sequent-in-Mp-2.result.now r (step_gives (definitions_of c.args.tables.now c.args.definitions.now) (sequents_of c.args.tables.now c.args.sequents.now)) eq_mp_rule step_mp (λ x y. refl) c.sequent-in-Mp.ensures c.sequent-in-Mp-2.ensures h l (subst (λ s. IsFlatStep c.args.tables.now s l) c.in-Mp.is m))

pub deduct-requires-clause-a : goal.deduct-requires-clause-a
deduct-requires-clause-a c = (at_has c.args.tables.now c.args.sequents.now c.in-Deduct.i c.sequent-in-Deduct.result.now c.requires.sequents c.sequent-in-Deduct.ensures).0

pub deduct-requires-clause-b : goal.deduct-requires-clause-b
deduct-requires-clause-b c = (at_has c.args.tables.now c.args.sequents.now c.in-Deduct.j c.sequent-in-Deduct-2.result.now c.requires.sequents c.sequent-in-Deduct-2.ensures).0

pub returns-in-Deduct-clause-ok : goal.returns-in-Deduct-clause-ok
returns-in-Deduct-clause-ok c = if_ok_of c.deduct.result c.deduct.ensures.ok (λ r h l m. two_given c.args.tables.now c.deduct.new.tables c.args.sequents.now c.in-Deduct.i c.in-Deduct.j c.sequent-in-Deduct.result.now c.sequent-in-Deduct-2.result.now r (step_gives (definitions_of c.args.tables.now c.args.definitions.now) (sequents_of c.args.tables.now c.args.sequents.now)) deduct_rule step_deduct (λ x y. refl) c.sequent-in-Deduct.ensures c.sequent-in-Deduct-2.ensures h l (subst (λ s. IsFlatStep c.args.tables.now s l) c.in-Deduct.is m))

pub modus_ponens-requires-clause-boolean : goal.modus_ponens-requires-clause-boolean
modus_ponens-requires-clause-boolean c = (at_has c.args.tables.now c.args.sequents.now c.in-Mp.j c.sequent-in-Mp-2.result.now c.requires.sequents c.sequent-in-Mp-2.ensures).1

pub deduct-requires-clause-typed : goal.deduct-requires-clause-typed
deduct-requires-clause-typed c = (at_has c.args.tables.now c.args.sequents.now c.in-Deduct.j c.sequent-in-Deduct-2.result.now c.requires.sequents c.sequent-in-Deduct-2.ensures).1 ∙ sym (at_has c.args.tables.now c.args.sequents.now c.in-Deduct.i c.sequent-in-Deduct.result.now c.requires.sequents c.sequent-in-Deduct.ensures).1

pub abs-requires-clause-a : goal.abs-requires-clause-a
abs-requires-clause-a c = (at_has c.args.tables.now c.args.sequents.now c.in-Abs.i c.sequent-in-Abs.result.now c.requires.sequents c.sequent-in-Abs.ensures).0

pub inst_type-requires-clause-a : goal.inst_type-requires-clause-a
inst_type-requires-clause-a c = (at_has c.args.tables.now c.args.sequents.now c.in-InstType.i c.sequent-in-InstType.result.now c.requires.sequents c.sequent-in-InstType.ensures).0

pub inst-requires-clause-a : goal.inst-requires-clause-a
inst-requires-clause-a c = (at_has c.args.tables.now c.args.sequents.now c.in-Inst.i c.sequent-in-Inst.result.now c.requires.sequents c.sequent-in-Inst.ensures).0

pub returns-in-Abs-clause-ok : goal.returns-in-Abs-clause-ok
returns-in-Abs-clause-ok c = if_ok_of c.abs.result c.abs.ensures.ok (λ r h l m. one_given c.args.tables.now c.abs.new.tables c.args.sequents.now c.in-Abs.i c.sequent-in-Abs.result.now r (step_gives (definitions_of c.args.tables.now c.args.definitions.now) (sequents_of c.args.tables.now c.args.sequents.now)) (abs_rule (var_of (term_of c.args.tables.now c.in-Abs.variable))) (λ n. step_abs (var_of (term_of c.args.tables.now c.in-Abs.variable)) n) (λ n. refl) c.sequent-in-Abs.ensures h l (subst (λ s. IsFlatStep c.args.tables.now s l) c.in-Abs.is m).1)

pub returns-in-InstType-clause-ok : goal.returns-in-InstType-clause-ok
returns-in-InstType-clause-ok c = if_ok_of c.inst_type.result c.inst_type.ensures.ok (λ r h l m. one_given c.args.tables.now c.inst_type.new.tables c.args.sequents.now c.in-InstType.i c.sequent-in-InstType.result.now r (step_gives (definitions_of c.args.tables.now c.args.definitions.now) (sequents_of c.args.tables.now c.args.sequents.now)) (inst_type_rule (type_pairs c.args.tables.now c.deref.result.now)) (λ n. step_inst_type n (type_pairs c.args.tables.now c.in-InstType.pairs.items)) (λ n j. inst_type_rule (type_pairs c.args.tables.now (sym c.deref.ensures.value j)) (sequent_at (sequents_of c.args.tables.now c.args.sequents.now) n)) c.sequent-in-InstType.ensures h l (subst (λ s. IsFlatStep c.args.tables.now s l) c.in-InstType.is m).1)

pub returns-in-Inst-clause-ok : goal.returns-in-Inst-clause-ok
returns-in-Inst-clause-ok c = if_ok_of c.inst.result c.inst.ensures.ok (λ r h l m. one_given c.args.tables.now c.inst.new.tables c.args.sequents.now c.in-Inst.i c.sequent-in-Inst.result.now r (step_gives (definitions_of c.args.tables.now c.args.definitions.now) (sequents_of c.args.tables.now c.args.sequents.now)) (inst_rule (term_pairs c.args.tables.now c.deref-in-Inst.result.now)) (λ n. step_inst n (term_pairs c.args.tables.now c.in-Inst.pairs.items)) (λ n j. inst_rule (term_pairs c.args.tables.now (sym c.deref-in-Inst.ensures.value j)) (sequent_at (sequents_of c.args.tables.now c.args.sequents.now) n)) c.sequent-in-Inst.ensures h l (subst (λ s. IsFlatStep c.args.tables.now s l) c.in-Inst.is m).1)

pub returns-in-Assume-clause-boolean : goal.returns-in-Assume-clause-boolean
returns-in-Assume-clause-boolean c = if_ok_of c.assume.result c.assume.ensures (λ r h. boolean_answer c.args.tables.now (assume_rule (term_of c.args.tables.now c.in-Assume.«term»)) r h (assume_boolean (term_of c.args.tables.now c.in-Assume.«term»)))

pub returns-in-InstType-clause-boolean : goal.returns-in-InstType-clause-boolean
returns-in-InstType-clause-boolean c = if_ok_both c.inst_type.result c.inst_type.ensures.ok c.inst_type.ensures.typed (λ r h k. typed_answer c.inst_type.new.tables (sequent_of c.args.tables.now c.sequent-in-InstType.result.now) (type_pairs c.args.tables.now c.deref.result.now) r (at_has c.args.tables.now c.args.sequents.now c.in-InstType.i c.sequent-in-InstType.result.now c.requires.sequents c.sequent-in-InstType.ensures).1 h k)

pub returns-in-Inst-clause-boolean : goal.returns-in-Inst-clause-boolean
returns-in-Inst-clause-boolean c = if_ok_of c.inst.result c.inst.ensures.ok (λ r h. boolean_answer c.inst.new.tables (inst_rule (term_pairs c.args.tables.now c.deref-in-Inst.result.now) (sequent_of c.args.tables.now c.sequent-in-Inst.result.now)) r h (λ d e. inst_boolean (term_pairs c.args.tables.now c.deref-in-Inst.result.now) (sequent_of c.args.tables.now c.sequent-in-Inst.result.now) d (at_has c.args.tables.now c.args.sequents.now c.in-Inst.i c.sequent-in-Inst.result.now c.requires.sequents c.sequent-in-Inst.ensures).1 e))
